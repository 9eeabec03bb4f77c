use Prim.Native.Nat.{ℕ, ◌<◌}
use mathlib.Core.Path.{◌≡◌}
use mathlib.Core.Bool.{false}
use Rattle.table.specs.Table.{Table}
use Rattle.memo.specs.Memo.{MemoOf}
use Rattle.pair.specs.Search.{differs_by}
use Rattle.pair.proofs.first_case.Given as goal

abbrev pub invariant-loop-c : goal.invariant-loop-c
invariant-loop-c l = (t : Table) → MemoOf t l.memo → (k : ℕ) → k < l.c →
    differs_by t l.memo.cells l.start.first l.start.second l.start.rest l.start.first_was l.start.second_was k ≡ false
