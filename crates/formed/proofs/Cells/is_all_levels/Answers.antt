use mathlib.Core.Path.{◌∙◌}
use Rattle.formed.proofs.Sets.{none_of, no_edge}
use Rattle.formed.proofs.Cells.is_all_levels.Goals as goal

pub returns : goal.returns
returns c = λ t i p. none_of _ _ c.is_none.ensures ∙ rw (c.edge.ensures t i p) (no_edge _ _)
