use Prim.Native.Nat.{ℕ}
use mathlib.Core.Path.{◌≡◌}
use mathlib.Core.Bool.{not}
use lib.Bits.{bit_and}
use lib.Dec.{eqb}
use lib.ListN.{get_or}
use Rattle.base.specs.Search.{every}
use Rattle.formed.proofs.Cells.columns_meet.Given as goal

abbrev pub invariant-loop-k : goal.invariant-loop-k
invariant-loop-k l =
    l.all ≡ every l.k (λ (k : ℕ). not (eqb (bit_and (get_or l.other.columns k 0) (get_or l.self.columns k 0)) 0))
