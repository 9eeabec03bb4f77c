use Prim.Native.Nat.{ℕ}
use lib.ListN.{replicate}
use Rattle.base.specs.Limits.{input_limit}
use Rattle.base.proofs.Patched.{Patched}
use Rattle.symbol.specs.Masks.{offers}
use Rattle.table.specs.Area.{decode}
use Rattle.table.specs.Table.{row_at, symbol_at}
use Rattle.formed.proofs.Cells.read.Given as goal

abbrev pub invariant-loop-k : goal.invariant-loop-k
invariant-loop-k l =
    Patched (λ (k : ℕ). offers (symbol_at (row_at (decode l.a) l.i) k)) 0 (replicate input_limit 7) l.columns l.k
