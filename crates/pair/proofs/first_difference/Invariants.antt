use Prim.Native.Nat.{ℕ, ◌*◌, ◌<◌}
use mathlib.Core.Path.{◌≡◌}
use mathlib.Core.Bool.{false}
use Rattle.table.specs.Table.{Table}
use Rattle.memo.specs.Memo.{MemoOf}
use Rattle.pair.specs.Search.{differs_in}
use Rattle.pair.proofs.first_difference.Given as goal

-- no candidate of the vectors so far differs
abbrev pub invariant-loop-v : goal.invariant-loop-v
invariant-loop-v l = (t : Table) → MemoOf t l.memo → (r : ℕ) → r < l.v * 27 →
    differs_in t l.memo.cells l.memo.all l.memo.inputs l.columns.first l.columns.second l.columns.first_weight l.columns.second_weight r ≡ false
