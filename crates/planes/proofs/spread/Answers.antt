use Prim.Native.Nat.{◌-◌}
use mathlib.Core.Path.{refl, ◌∙◌}
use lib.ListN.{length-set}
use lib.Bits.{and_le_r}
use native.Mathlib.Omega.{arith}
use borrow.Author.Rules.{rules}
use Rattle.planes.proofs.Answers.{value_is, going_none, going_more, going_empty, going_closed}
use Rattle.planes.proofs.spread.Goals as goal
use Rattle.planes.proofs.spread.Goals.{then-loop-left-test+else-free-ne0, else-loop-left-test}

pub loop-left-init : goal.loop-left-init
loop-left-init c = (search rules, search rules, λ low f t. going_none _ _ _ _ f _ (search rules) t)

pub loop-left-preserved : goal.loop-left-preserved
loop-left-preserved c = let l = c.loop-left in (
  length-set l.words _ _ ∙ l.invariant.0,
  omega (arith, l.invariant.1, and_le_r l.left (l.left - 1)),
  λ low f t. let v = value_is _ _ _ low c.from-k.ensures in going_more _ _ _ _ f _ _ _ _ _ (omega arith) l.invariant.1 refl v.0 v.1 (l.invariant.2 low f t),
)

pub returns : goal.returns
returns c low = record {
  told = λ f t.
      let going = c.loop-left.invariant.2 low f t in
      elim c.loop-left-test.branch [
        | then-loop-left-test+else-free-ne0 w ↦ going_closed _ _ _ _ f _ _ _ w.if-free-ne0.false going
        | else-loop-left-test w ↦ going_empty _ _ _ _ f _ _ _ w.loop-left-test.false going
      ];
}
