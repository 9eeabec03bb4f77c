use Rattle.memo.proofs.Each.{Each}
use Rattle.cube.specs.Lanes.{RowLanes}
use Rattle.cube.proofs.lanes.Given as goal

abbrev pub invariant-loop-r : goal.invariant-loop-r
invariant-loop-r l = Each 0 (RowLanes l.memo.cells l.memo.inputs l.i l.c) 64 l.by_row l.r
