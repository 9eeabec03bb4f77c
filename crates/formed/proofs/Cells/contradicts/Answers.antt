use mathlib.Core.Path.{sym, ap, ◌∙◌}
use mathlib.Core.Bool.{not}
use Rattle.formed.proofs.Sets.{outputs_by, same_outputs, other_outputs}
use Rattle.formed.proofs.Cells.contradicts.Goals as goal

pub returns-then-ne : goal.returns-then-ne
returns-then-ne c = λ t i j few p q.
    let outputs = outputs_by _ _ _ _ p.output q.output _ c.ne.ensures in
    c.meets.ensures t i j few p q ∙ sym (other_outputs _ _ _ (outputs ∙ ap not c.if-ne.true))

pub returns-else-ne : goal.returns-else-ne
returns-else-ne c = λ t i j few p q.
    let outputs = outputs_by _ _ _ _ p.output q.output _ c.ne.ensures in
    c.if-ne.false ∙ sym (same_outputs _ _ _ (outputs ∙ ap not c.if-ne.false))
