use mathlib.Core.Path.{refl}
use native.Mathlib.Omega.{arith}
use Rattle.memo.specs.Rows.{cell_at}
use Rattle.pair.proofs.Steps.{others_none, others_same, others_more}
use Rattle.pair.proofs.+others_of.Goals as goal

pub returns-then-k-eq0 : goal.returns-then-k-eq0
unfolding cell_at
returns-then-k-eq0 t c = others_none _ _ _ _ _ _ c.if-k-eq0.true

pub returns-then-q-i : goal.returns-then-q-i
unfolding cell_at
returns-then-q-i t c = others_same _ _ _ _ _ _ _ _ (omega arith) c.if-q-i.true c.others_of-before.ensures

pub returns : goal.returns
unfolding cell_at
returns t c = others_more _ _ _ _ _ _ _ _ _ (omega arith) c.if-q-i.false c.others_of-before.ensures refl
