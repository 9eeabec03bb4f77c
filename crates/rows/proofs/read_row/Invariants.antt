use Rattle.grammar.proofs.Behind.{behind}
use Rattle.grammar.specs.Rows.{columns}
use Rattle.base.specs.Limits.{input_limit}
use lib.ListN.{length, take, drop}
use Prim.Native.Nat.{◌-◌, ◌≤◌}
use mathlib.Core.Path.{◌≡◌}
use Rattle.rows.proofs.read_row.Given as goal

abbrev pub invariant-loop-column : goal.invariant-loop-column
invariant-loop-column l =
    (columns l.n l.sequential l.at (drop l.at l.text) ≡ behind (take l.column l.symbols) (columns (l.n - l.column) l.edge l.i (drop l.i l.text)))
    × (l.column ≤ l.n)
    × (length l.symbols ≡ input_limit)
