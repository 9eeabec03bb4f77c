use Rattle.table.specs.Area.{decode}
use Rattle.memo.proofs.Offers.{From}
use Rattle.memo.proofs.cell_row.Given as goal

abbrev pub invariant-loop-i : goal.invariant-loop-i
invariant-loop-i l = From (decode l.area) l.k l.i l.sets
