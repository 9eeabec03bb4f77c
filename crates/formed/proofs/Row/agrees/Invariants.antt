use Prim.Native.Nat.{ℕ}
use mathlib.Core.Path.{◌≡◌}
use mathlib.Core.Bool.{true, not}
use Rattle.base.specs.Search.{every}
use Rattle.table.specs.Area.{decode}
use Rattle.table.specs.Table.{row_at}
use Rattle.formed.specs.Tests.{contradict}
use Rattle.formed.proofs.Row.agrees.Given as goal

abbrev pub invariant-loop-i : goal.invariant-loop-i
invariant-loop-i l =
    let t = decode l.self.area.now in
    every l.i (λ (m : ℕ). not (contradict t.inputs (row_at t m) (row_at t l.self.index))) ≡ true
