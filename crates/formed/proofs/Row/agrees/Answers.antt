use mathlib.Core.Path.{◌≡◌, sym, ap, ◌∙◌}
use mathlib.Core.Bool.{not}
use native.Mathlib.Omega.{arith}
use Rattle.base.proofs.Search.{every_none, every_more, every_fails}
use Rattle.formed.specs.Tests.{row_agrees}
use Rattle.formed.proofs.Sets.{outputs_by, same_outputs, other_outputs}
use Rattle.formed.proofs.Row.agrees.Goals as goal
use Rattle.formed.proofs.Row.agrees.Goals.{else-ne-via-then-ne+else-meets, else-ne-via-else-ne}

pub loop-i-init : goal.loop-i-init
loop-i-init c = every_none _

pub returns-then-meets : goal.returns-then-meets
unfolding row_agrees
returns-then-meets c =
    let outputs = outputs_by _ _ _ _ c.output.ensures c.output-output.ensures _ c.ne.ensures in
    let met = other_outputs _ _ _ (outputs ∙ ap not c.if-ne.true) in
    sym (every_fails _ _ c.loop-i.i (omega arith) (ap not (met ∙ sym c.meets.ensures ∙ c.if-meets.true)))

pub loop-i-preserved : goal.loop-i-preserved
loop-i-preserved c =
    let outputs = outputs_by _ _ _ _ c.output.ensures c.output-output.ensures _ c.ne.ensures in
    every_more _ _ c.loop-i.invariant
    (ap not
    (elim c.else-ne.branch [
      | else-ne-via-then-ne+else-meets w ↦
          other_outputs _ _ _ (outputs ∙ ap not w.if-ne.true) ∙ sym w.meets.ensures ∙ w.if-meets.false
      | else-ne-via-else-ne w ↦ same_outputs _ _ _ (outputs ∙ ap not w.if-ne.false)
    ]))

pub returns : goal.returns
unfolding row_agrees
returns c = let e : c.loop-i.i ≡ c.args.self.now.index = omega arith in sym (rw e at c.loop-i.invariant)
