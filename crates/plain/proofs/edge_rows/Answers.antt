use Rattle.memo.specs.Rows.{cell_at}
use Rattle.plain.proofs.Sets.{passed_more}
use Rattle.plain.proofs.edge_rows.Goals as goal

pub loop-e-preserved : goal.loop-e-preserved
unfolding cell_at
loop-e-preserved c = passed_more _ _ _ _ c.loop-e.invariant
