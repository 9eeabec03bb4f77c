-- How levels, symbols and outputs are stored: as small letters, a pair in two places, any other symbol with a zero behind it.
use Rattle.std.specs.Prelude.{ℕ, Bool, cond, ◌&&◌, eqb}
use Prim.Native.Char.{code}
use Rattle.symbol.specs.declared.Level.{Level}
use Rattle.symbol.specs.declared.Level.TheVariants.{Zero, One, Unknown, Binary, Any}
use Rattle.symbol.specs.declared.Symbol.{Symbol}
use Rattle.symbol.specs.declared.Symbol.TheVariants.{Held, Edge, Rise, Fall, Positive, Negative, Every}
use Rattle.symbol.specs.declared.Output.{Output}
use Rattle.symbol.specs.declared.Output.TheVariants.{Out0, Out1, Outx, Old}

unfoldable pub level_byte : Level → ℕ
level_byte Zero = code "0"
level_byte One = code "1"
level_byte Unknown = code "x"
level_byte Binary = code "b"
level_byte Any = code "?"

-- the level of a byte; any other byte counts as ?
unfoldable pub level_of : ℕ → Level
level_of b = cond (eqb b (code "0")) Zero (cond (eqb b (code "1")) One (cond (eqb b (code "x")) Unknown (cond (eqb b (code "b")) Binary Any)))

-- the first of a symbol's two bytes, and the second
unfoldable pub symbol_byte : Symbol → ℕ
symbol_byte (Held l) = level_byte l
symbol_byte (Edge v w) = level_byte v
symbol_byte Rise = code "r"
symbol_byte Fall = code "f"
symbol_byte Positive = code "p"
symbol_byte Negative = code "n"
symbol_byte Every = code "*"

unfoldable pub second_byte : Symbol → ℕ
second_byte (Held l) = 0
second_byte (Edge v w) = level_byte w
second_byte Rise = 0
second_byte Fall = 0
second_byte Positive = 0
second_byte Negative = 0
second_byte Every = 0

-- the symbol of one byte; any other byte counts as ?
unfoldable pub letter_of : ℕ → Symbol
letter_of b =
    cond (eqb b (code "r")) Rise
    (cond (eqb b (code "f")) Fall
    (cond (eqb b (code "p")) Positive
    (cond (eqb b (code "n")) Negative
    (cond (eqb b (code "*")) Every
    (Held (level_of b))))))

-- the symbol of two bytes
unfoldable pub symbol_of : ℕ → ℕ → Symbol
symbol_of b c = cond (eqb c 0) (letter_of b) (Edge (level_of b) (level_of c))

unfoldable pub output_byte : Output → ℕ
output_byte Out0 = code "0"
output_byte Out1 = code "1"
output_byte Outx = code "x"
output_byte Old = code "-"

-- the output of a byte; any other byte counts as -
unfoldable pub output_of : ℕ → Output
output_of b = cond (eqb b (code "0")) Out0 (cond (eqb b (code "1")) Out1 (cond (eqb b (code "x")) Outx Old))

-- the bytes that store something, and not only read as it
unfoldable pub stores_level : ℕ → Bool
stores_level b = eqb b (level_byte (level_of b))

unfoldable pub stores_symbol : ℕ → ℕ → Bool
stores_symbol b c = eqb c (second_byte (symbol_of b c)) && eqb b (symbol_byte (symbol_of b c))

unfoldable pub stores_output : ℕ → Bool
stores_output b = eqb b (output_byte (output_of b))
