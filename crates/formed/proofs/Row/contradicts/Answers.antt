use mathlib.Core.Path.{sym, ap, ◌∙◌}
use mathlib.Core.Bool.{not}
use Rattle.formed.proofs.Sets.{outputs_by, same_outputs, other_outputs}
use Rattle.formed.proofs.Row.contradicts.Goals as goal

pub returns-then-ne : goal.returns-then-ne
returns-then-ne c =
    let outputs = outputs_by _ _ _ _ (rw c.requires at c.output.ensures) c.output-2.ensures _ c.ne.ensures in
    c.meets.ensures ∙ sym (other_outputs _ _ _ (outputs ∙ ap not c.if-ne.true))

pub returns-else-ne : goal.returns-else-ne
returns-else-ne c =
    let outputs = outputs_by _ _ _ _ (rw c.requires at c.output.ensures) c.output-2.ensures _ c.ne.ensures in
    c.if-ne.false ∙ sym (same_outputs _ _ _ (outputs ∙ ap not c.if-ne.false))
