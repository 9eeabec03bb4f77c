use native.Mathlib.Omega.{arith}
use Rattle.memo.specs.Rows.{cell_at}
use Rattle.cube.proofs.Stepping.{levels_by}
use Rattle.cube.proofs.levels.Goals as goal

pub returns : goal.returns
unfolding cell_at
returns c = levels_by _ _ _ _ _ _ (omega arith) c.lanes-by_row.ensures c.spread-a.ensures c.spread-b.ensures c.spread-c.ensures
