use Prim.Native.Nat.{ℕ, ◌<◌}
use mathlib.Core.Path.{◌≡◌}
use mathlib.Core.List.{[]}
use lib.ListN.{get_or}
use Rattle.base.specs.Limits.{input_limit}
use Rattle.base.specs.Listed.{listed}
use Rattle.base.proofs.Listed.{Filled}
use Rattle.table.specs.Table.{Table}
use Rattle.memo.specs.Memo.{MemoOf}
use Rattle.judge.specs.Search.{yes_in}
use Rattle.judge.proofs.square_row.Given as goal

abbrev pub invariant-loop-j : goal.invariant-loop-j
invariant-loop-j l = (t : Table) → MemoOf t l.memo → ((k : ℕ) → k < l.i → get_or l.done k [] ≡ listed (yes_in t k) input_limit) →
    Filled (yes_in t l.i) input_limit l.row l.j
