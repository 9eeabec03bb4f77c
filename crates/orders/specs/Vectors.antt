-- Vectors: one value for each input. Inputs are numbered from 1.
use Rattle.std.specs.Prelude.{ℕ, zero, suc, ◌+◌, ◌*◌, ◌/◌, ◌%◌, ◌≡◌, List, [], ◌∷◌, ◌++◌, length, get_or, set}
use Rattle.value.specs.Value.{rank_of, value_of}
use Rattle.value.specs.declared.Ternary.{Ternary}
use Rattle.value.specs.declared.Ternary.TheVariants.{V0}

-- the value of input j, and the vector with that value replaced; no input has the number 0
abbrev pub at : List Ternary → ℕ → Ternary
at v zero = V0
at v (suc k) = get_or v k V0

abbrev pub put : List Ternary → ℕ → Ternary → List Ternary
put v zero x = v
put v (suc k) x = set v k x

-- a vector of n inputs
pub record Vector (n : ℕ) (v : List Ternary) : Type 0 where
  pub size : length v ≡ n

-- vector number c of n inputs, where the values are ordered 0, 1, x and input 1 weighs most
unfoldable pub vector_of : ℕ → ℕ → List Ternary
vector_of zero c = []
vector_of (suc m) c = vector_of m (c / 3) ++ (value_of (c % 3) ∷ [])

-- the number of a vector whose values follow those of vector number c
unfoldable pub number_from : ℕ → List Ternary → ℕ
number_from c [] = c
number_from c (x ∷ v) = number_from (c * 3 + rank_of x) v
