use mathlib.Core.Path.{refl}
use Rattle.memo.specs.Rows.{cell_at}
use Rattle.cube.proofs.edges_in.Goals as goal

pub returns : goal.returns
unfolding cell_at
returns c = refl
