use native.Mathlib.Omega.{arith}
use Rattle.memo.proofs.Each.{each_none, each_more, each_all}
use Rattle.cube.proofs.lanes.Goals as goal

pub loop-r-init : goal.loop-r-init
loop-r-init c = each_none 0 _ 64 _

pub bounds-by_row-r : goal.bounds-by_row-r
bounds-by_row-r c = omega (arith, c.loop-r.invariant.long)

pub loop-r-preserved : goal.loop-r-preserved
loop-r-preserved c = each_more 0 _ 64 _ _ _ (omega arith) c.row_lanes.ensures c.loop-r.invariant

pub returns : goal.returns
returns c = record { row = each_all 0 _ 64 _ _ _ c.loop-r-test.false c.loop-r.invariant }
