-- What the bytes of a call say: vectors, an old output, an order.
use Rattle.std.specs.Prelude.{ℕ, Bool, ◌&&◌, ◌||◌, List, map, eqb, ltb, length, get_or, unwrap_or}
use Rattle.std.specs.Option.{is_some}
use Rattle.base.specs.Search.{every, some, first}
use Rattle.base.specs.Listed.{listed}
use Rattle.base.specs.Limits.{input_limit}
use Rattle.value.specs.declared.Ternary.{Ternary}
use Rattle.value.specs.declared.Ternary.TheVariants.{V0, Vx}
use Rattle.value.specs.Value.{read_byte}

-- the byte is one of the three values
unfoldable pub is_value : ℕ → Bool
is_value b = is_some (read_byte b)

-- n values
unfoldable pub good_vector : ℕ → List ℕ → Bool
good_vector n s = eqb (length s) n && every (length s) (λ (k : ℕ). is_value (get_or s k 0))

unfoldable pub good_values : ℕ → List ℕ → List ℕ → ℕ → Bool
good_values n prev cur old = good_vector n prev && (good_vector n cur && is_value old)

unfoldable pub value_in : ℕ → Ternary
value_in b = unwrap_or (read_byte b) Vx

unfoldable pub vector_in : List ℕ → List Ternary
vector_in s = map value_in s

-- the vector as the code holds it: as many places as inputs can be, 0 past the vector's end
unfoldable pub padded : List Ternary → List Ternary
padded v = listed (λ (k : ℕ). get_or v k V0) input_limit

-- the number at index k leaves 1 to n, or stands before k too
unfoldable pub faulty : ℕ → List ℕ → ℕ → Bool
faulty n l k = (eqb (get_or l k 0) 0 || ltb n (get_or l k 0)) || some k (λ (m : ℕ). eqb (get_or l m 0) (get_or l k 0))

-- the first faulty index, or the length of an order
unfoldable pub first_fault : ℕ → List ℕ → ℕ
first_fault n l = first (length l) (faulty n l)
