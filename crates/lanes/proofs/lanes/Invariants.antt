use Rattle.memo.proofs.Each.{Each}
use Rattle.lanes.specs.Columns.{past, LaneRow}
use Rattle.lanes.proofs.lanes.Given as goal

abbrev pub invariant-loop-r : goal.invariant-loop-r
invariant-loop-r l = let d = l.digits in Each 0 (LaneRow l.memo.cells (past d.one) (past d.three) (past d.nine)) 64 l.by_row l.r
