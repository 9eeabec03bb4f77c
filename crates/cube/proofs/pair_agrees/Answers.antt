use native.Mathlib.Omega.{arith}
use Rattle.plain.proofs.Telling.{plain_tells}
use Rattle.cube.proofs.Telling.{tells_by}
use Rattle.cube.proofs.pair_agrees.Goals as goal

pub returns-then-has_all : goal.returns-then-has_all
returns-then-has_all c t M = plain_tells t _ _ _ _ M (omega arith) (omega arith) c.of.ensures (c.has_all.ensures c.if-has_all.true)

pub returns : goal.returns
returns c t M = let x = c.requires in
    tells_by t _ _ _ _ _ _ _ _ x.0 x.1 x.2 M c.of-first.ensures.1 c.of-second.ensures.1 c.of-first.ensures.0 c.of-second.ensures.0 c.all_agree.ensures
