use Prim.Native.Nat.{ℕ, ◌≤◌}
use mathlib.Core.Path.{◌≡◌}
use mathlib.Core.Bool.{true, not}
use lib.ListN.{length}
use Rattle.base.specs.Limits.{input_limit}
use Rattle.base.specs.Search.{every}
use Rattle.table.specs.Table.{Table, row_at}
use Rattle.formed.specs.Tests.{contradict}
use Rattle.formed.specs.Cells.{CellsOf, CellsOfRows}
use Rattle.formed.proofs.Cells.agrees.Given as goal

abbrev pub invariant-loop-earlier : goal.invariant-loop-earlier
invariant-loop-earlier l =
    (t : Table) → t.inputs ≤ input_limit → CellsOfRows t l.read → CellsOf t (length l.read) l.self →
    every l.earlier-index (λ (m : ℕ). not (contradict t.inputs (row_at t m) (row_at t (length l.read)))) ≡ true
