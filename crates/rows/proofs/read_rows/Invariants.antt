use Rattle.rows.proofs.Drawing.{Going}
use Rattle.table.specs.Area.{decode}
use lib.ListN.{length}
use mathlib.Core.Path.{◌≡◌}
use Rattle.rows.proofs.read_rows.Given as goal

abbrev pub invariant-loop-k : goal.invariant-loop-k
invariant-loop-k l = Going l.text l.at (decode l.initial.a) l.sequential l.n l.a l.i l.k × (length l.a ≡ length l.initial.a)
