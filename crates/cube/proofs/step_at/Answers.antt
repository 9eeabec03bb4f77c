use Rattle.memo.specs.Rows.{cell_at}
use Rattle.cube.proofs.Stepping.{step_by}
use Rattle.cube.proofs.step_at.Goals as goal

pub returns : goal.returns
unfolding cell_at
returns c = step_by _ _ _ _ _ _ _ _ c.stays.ensures c.closed.ensures
