-- The three values, ordered 0, 1, x.
use Rattle.std.specs.Prelude.{ℕ, Bool, Option, None, Some, cond, eqb}
use Prim.Native.Char.{code}
use Rattle.value.specs.declared.Ternary.{Ternary}
use Rattle.value.specs.declared.Ternary.TheVariants.{V0, V1, Vx}

-- the place of a value in the order
unfoldable pub rank_of : Ternary → ℕ
rank_of V0 = 0
rank_of V1 = 1
rank_of Vx = 2

-- the value at a place in the order; any other number counts as the last
unfoldable pub value_of : ℕ → Ternary
value_of k = cond (eqb k 0) V0 (cond (eqb k 1) V1 Vx)

unfoldable pub same_value : Ternary → Ternary → Bool
same_value a b = eqb (rank_of a) (rank_of b)

-- how a value is written
unfoldable pub byte_of : Ternary → ℕ
byte_of V0 = code "0"
byte_of V1 = code "1"
byte_of Vx = code "x"

-- what a byte says
unfoldable pub read_byte : ℕ → Option Ternary
read_byte b = cond (eqb b (code "0")) (Some V0) (cond (eqb b (code "1")) (Some V1) (cond (eqb b (code "x")) (Some Vx) None))
