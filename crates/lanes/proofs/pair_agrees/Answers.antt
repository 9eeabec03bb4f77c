use native.Mathlib.Omega.{arith}
use Rattle.plain.proofs.Telling.{plain_tells}
use Rattle.lanes.proofs.Contexts.{pair_by}
use Rattle.lanes.proofs.Tops.{before_past}
use Rattle.lanes.proofs.pair_agrees.Goals as goal

pub returns-then-has_all : goal.returns-then-has_all
returns-then-has_all c t M = plain_tells t _ _ _ _ M (omega arith) (omega arith) c.of-plain.ensures (c.has_all.ensures c.if-has_all.true)

pub returns : goal.returns
returns c t M = let d = c.of-digits.ensures in
    pair_by t _ _ _ M (omega arith) (omega arith) _ _ _ _ _ d.0 d.1 d.2 c.lanes-by_row.ensures
    (rw (c.unwrap_or-outer.ensures, before_past c.of-digits.result.nine) at c.outer_agree.ensures)
