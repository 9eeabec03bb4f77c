use Rattle.lanes.proofs.Rows.{column_lanes, every_lane}
use Rattle.lanes.proofs.lanes_in.Goals as goal

pub returns-in-Some : goal.returns-in-Some
returns-in-Some c = rw c.in-Some.is (column_lanes _ _ _ _ _ c.lanes_in.ensures)

pub returns-in-None : goal.returns-in-None
returns-in-None c = rw c.in-None.is (every_lane _ _ _)
