use Rattle.lanes.proofs.Rows.{lane_row_by}
use Rattle.lanes.proofs.lane_row.Goals as goal

pub returns : goal.returns
returns c = lane_row_by _ _ _ _ _ _ _ _ c.lanes_in.ensures c.lanes_in-2.ensures c.lanes_in-3.ensures
