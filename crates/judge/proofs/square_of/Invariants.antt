use Prim.Native.Nat.{ℕ}
use Rattle.base.specs.Limits.{input_limit}
use Rattle.base.specs.Listed.{listed}
use Rattle.base.proofs.Listed.{Filled}
use Rattle.table.specs.Table.{Table}
use Rattle.memo.specs.Memo.{MemoOf}
use Rattle.judge.specs.Search.{yes_in}
use Rattle.judge.proofs.square_of.Given as goal

abbrev pub invariant-loop-i : goal.invariant-loop-i
invariant-loop-i l = (t : Table) → MemoOf t l.memo → Filled (λ (k : ℕ). listed (yes_in t k) input_limit) input_limit l.answers l.i
