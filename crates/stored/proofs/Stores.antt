-- What is stored is read back. Assumes nothing.
use Prim.Native.Nat.{ℕ}
use mathlib.Core.Path.{◌≡◌, refl, ◌∙◌}
use Rattle.symbol.specs.declared.Level.{Level}
use Rattle.symbol.specs.declared.Level.TheVariants.{Zero, One, Unknown, Binary, Any}
use Rattle.symbol.specs.declared.Symbol.{Symbol}
use Rattle.symbol.specs.declared.Symbol.TheVariants.{Held, Edge, Rise, Fall, Positive, Negative, Every}
use Rattle.symbol.specs.declared.Output.{Output}
use Rattle.symbol.specs.declared.Output.TheVariants.{Out0, Out1, Outx, Old}
use Rattle.stored.specs.Stored.{level_byte, level_of, symbol_byte, second_byte, letter_of, symbol_of, output_byte, output_of}

pub level_of_byte : (l : Level) → level_of (level_byte l) ≡ l
unfolding level_byte level_of
level_of_byte Zero = refl
level_of_byte One = refl
level_of_byte Unknown = refl
level_of_byte Binary = refl
level_of_byte Any = refl

pub output_of_byte : (o : Output) → output_of (output_byte o) ≡ o
unfolding output_of output_byte
output_of_byte Out0 = refl
output_of_byte Out1 = refl
output_of_byte Outx = refl
output_of_byte Old = refl

held_of_byte : (l : Level) → symbol_of (level_byte l) 0 ≡ Held l
unfolding symbol_of letter_of level_byte level_of
held_of_byte Zero = refl
held_of_byte One = refl
held_of_byte Unknown = refl
held_of_byte Binary = refl
held_of_byte Any = refl

pair_of_bytes : (b : ℕ) (w : Level) → symbol_of b (level_byte w) ≡ Edge (level_of b) w
unfolding symbol_of level_byte level_of
pair_of_bytes b Zero = refl
pair_of_bytes b One = refl
pair_of_bytes b Unknown = refl
pair_of_bytes b Binary = refl
pair_of_bytes b Any = refl

pub symbol_of_bytes : (s : Symbol) → symbol_of (symbol_byte s) (second_byte s) ≡ s
unfolding symbol_byte second_byte symbol_of letter_of
symbol_of_bytes (Held l) = held_of_byte l
symbol_of_bytes (Edge v w) = pair_of_bytes (level_byte v) w ∙ rw (level_of_byte v)
symbol_of_bytes Rise = refl
symbol_of_bytes Fall = refl
symbol_of_bytes Positive = refl
symbol_of_bytes Negative = refl
symbol_of_bytes Every = refl
