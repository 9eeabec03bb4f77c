use Prim.Native.Nat.{ℕ}
use mathlib.Core.Path.{◌≡◌}
use mathlib.Core.Bool.{true}
use lib.ListN.{length, take}
use Rattle.base.specs.Limits.{row_limit}
use Rattle.base.specs.Search.{every}
use Rattle.table.specs.Area.{decode}
use Rattle.table.specs.Table.{row_at}
use Rattle.formed.specs.Tests.{row_valid, row_agrees}
use Rattle.formed.specs.Cells.{CellsOfRows}
use Rattle.formed.proofs.rows_fit.Given as goal

abbrev pub invariant-loop-j : goal.invariant-loop-j
invariant-loop-j l =
    let t = decode l.a in
    (length l.read ≡ row_limit) × CellsOfRows t (take l.j l.read)
    × (every l.j (λ (i : ℕ). row_valid t.inputs t.sequential (row_at t i)) ≡ true) × (every l.j (row_agrees t) ≡ true)
