use mathlib.Core.Path.{sym, ◌∙◌}
use Rattle.judge.proofs.Findings.{finding_right}
use Rattle.judge.proofs.Lending.{small_of}
use Rattle.judge.proofs.judge.Goals as goal

pub returns-then-not-well_formed : goal.returns-then-not-well_formed
returns-then-not-well_formed c = (sym c.well_formed-2.ensures ∙ c.if-not-well_formed.true, c.at.ensures)

pub of-requires : goal.of-requires
of-requires c = small_of _ (sym c.well_formed-2.ensures ∙ c.if-not-well_formed.false)

pub returns : goal.returns
returns c =
    let w = sym c.well_formed-2.ensures ∙ c.if-not-well_formed.false in
    (w, rw (c.finding.ensures _ c.of.ensures) (finding_right _ (small_of _ w) (small_of _ w).inputs))
