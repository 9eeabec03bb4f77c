use Prim.Native.Nat.{ℕ, ◌+◌, ◌*◌, ◌/◌, ◌%◌, ◌<◌}
use mathlib.Core.Path.{◌≡◌}
use mathlib.Core.Bool.{false}
use Rattle.base.specs.Limits.{input_limit}
use Rattle.table.specs.Table.{Table}
use Rattle.memo.specs.Memo.{MemoOf}
use Rattle.judge.specs.Search.{pair_differs}
use Rattle.judge.proofs.finding.Given as goal

-- no pair so far differs
abbrev pub invariant-loop-i : goal.invariant-loop-i
invariant-loop-i l = (t : Table) → MemoOf t l.memo → (k : ℕ) → k < l.i * input_limit → pair_differs t (k / input_limit) (k % input_limit) ≡ false

abbrev pub invariant-loop-j : goal.invariant-loop-j
invariant-loop-j l = (t : Table) → MemoOf t l.memo → (k : ℕ) → k < l.i * input_limit + l.j → pair_differs t (k / input_limit) (k % input_limit) ≡ false
