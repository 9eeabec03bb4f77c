-- Sets of numbers as one number: bit k is set where k is in the set.
use Rattle.std.specs.Prelude.{ℕ, zero, suc, ◌+◌, ◌*◌, Bool, cond}
use Rattle.symbol.specs.declared.Symbol.{Symbol}
use Rattle.symbol.specs.Match.{offered}

-- of the m numbers from i on, those of which f holds
unfoldable pub mask_from : (ℕ → Bool) → ℕ → ℕ → ℕ
mask_from f i zero = 0
mask_from f i (suc m) = mask_from f (suc i) m * 2 + cond (f i) 1 0

unfoldable pub mask_of : ℕ → (ℕ → Bool) → ℕ
mask_of n f = mask_from f 0 n

-- what a column may be offered, if the symbol matches it
unfoldable pub offers : Symbol → ℕ
offers s = mask_of 12 (offered s)
