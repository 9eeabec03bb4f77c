use Rattle.table.specs.Area.{decode}
use Rattle.memo.proofs.Offers.{Columns}
use Rattle.memo.proofs.cells_of.Given as goal

abbrev pub invariant-loop-k : goal.invariant-loop-k
invariant-loop-k l = Columns (decode l.area) l.cells l.k
