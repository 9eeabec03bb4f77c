use mathlib.Core.Path.{◌≡◌, refl, ◌∙◌}
use native.Mathlib.Numerals.{add-one}
use native.Mathlib.Omega.{arith}
use Rattle.base.specs.Limits.{input_limit}
use Rattle.base.specs.Search.{every}
use Rattle.formed.proofs.Sets.{columns_by}
use Rattle.formed.proofs.Cells.columns_meet.Goals as goal

pub loop-k-init : goal.loop-k-init
unfolding every
loop-k-init c = refl

pub loop-k-preserved : goal.loop-k-preserved
unfolding every
loop-k-preserved c = rw (add-one, ← c.loop-k.invariant, ← c.sets_meet-all.ensures)

pub returns : goal.returns
returns c = λ t i j few p q.
    let e : c.loop-k.k ≡ input_limit = omega arith in
    rw e at c.loop-k.invariant ∙ columns_by t i j _ _ few p q
