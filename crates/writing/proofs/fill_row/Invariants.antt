use Rattle.table.specs.Table.{Row}
use Rattle.writing.proofs.Rowlaws.{Columns}
use Rattle.writing.proofs.fill_row.Given as goal

abbrev pub invariant-loop-k : goal.invariant-loop-k
invariant-loop-k l = let r : Row = record { symbols = l.symbols; state = l.state; output = l.output } in Columns r l.row l.k
