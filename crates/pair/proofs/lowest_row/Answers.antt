use mathlib.Core.Path.{refl, ◌∙◌}
use native.Mathlib.Omega.{arith}
use Rattle.pair.proofs.Steps.{lowest_below}
use Rattle.pair.proofs.lowest_row.Goals as goal

pub returns : goal.returns
returns c = c.then_some.ensures ∙ lowest_below _ _ _ (omega arith) refl
