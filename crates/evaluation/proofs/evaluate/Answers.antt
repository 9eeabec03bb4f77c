use mathlib.Core.Path.{sym, ◌∙◌}
use Rattle.evaluation.proofs.Answering.{no_some, not_formed, not_values, not_order, answers}
use Rattle.evaluation.proofs.evaluate.Goals as goal

pub returns-then-not-well_formed : goal.returns-then-not-well_formed
returns-then-not-well_formed c = rw c.at.ensures (not_formed _ _ _ _ _ (sym c.well_formed-2.ensures ∙ c.if-not-well_formed.true))

pub returns-then-not-good_values : goal.returns-then-not-good_values
returns-then-not-good_values c =
    rw c.at-then-not-good_values.ensures
    (not_values _ _ _ _ _ _ (sym c.well_formed-2.ensures ∙ c.if-not-well_formed.false) c.inputs-inputs.ensures
    (sym c.good_values.ensures ∙ c.if-not-good_values.true))

pub returns-in-Some : goal.returns-in-Some
returns-in-Some c =
    rw c.at-in-Some.ensures
    (not_order _ _ _ _ _ _ (sym c.well_formed-2.ensures ∙ c.if-not-well_formed.false) c.inputs-inputs.ensures
    (sym c.good_values.ensures ∙ c.if-not-good_values.false) _ c.first_fault.ensures _ c.in-Some.is)

pub returns : goal.returns
returns c =
    answers _ _ _ _ _ _ (sym c.well_formed-2.ensures ∙ c.if-not-well_formed.false) c.inputs-inputs.ensures
    (sym c.good_values.ensures ∙ c.if-not-good_values.false) _ c.first_fault.ensures _ _ (no_some _ c.in_default.not-Some) c.value_said.ensures
    (rw (c.vector_in.ensures, c.vector_in-2.ensures) at c.follow.ensures)
