use mathlib.Core.Path.{sym, ◌∙◌}
use Rattle.base.specs.Listed.{listed}
use Rattle.judge.specs.Judge.{square_for}
use Rattle.judge.proofs.Pairwise.{square_right}
use Rattle.judge.proofs.Lending.{small_of}
use Rattle.judge.proofs.square.Goals as goal

pub returns-then-not-well_formed : goal.returns-then-not-well_formed
unfolding square_for listed
returns-then-not-well_formed c = rw (sym c.well_formed-2.ensures ∙ c.if-not-well_formed.true)

pub of-requires : goal.of-requires
unfolding square_for listed
of-requires c = small_of _ (sym c.well_formed-2.ensures ∙ c.if-not-well_formed.false)

pub returns : goal.returns
unfolding square_for listed
returns c =
    let w = sym c.well_formed-2.ensures ∙ c.if-not-well_formed.false in
    rw w (c.square_of.ensures _ c.of.ensures ∙ square_right _ (small_of _ w))
