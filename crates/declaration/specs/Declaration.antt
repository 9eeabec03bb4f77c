-- Parts of the declarations that have a function of their own.
use Rattle.std.specs.Prelude.{List, Bool, true, ◌&&◌, ◌||◌, ℕ}
use Rattle.value.specs.declared.Ternary.{Ternary}
use Rattle.text.specs.Bytes.{bytes, is, letter}
use Rattle.text.specs.Words.{same}
use Rattle.text.specs.Reader.{Reader, ◌>>=◌, ◌>>◌, give, check, byte, name, sign}
use Rattle.grammar.specs.Header.{Declared, value_said}
use Rattle.declaration.specs.declared.Declaring.{Declaring}
use Rattle.declaration.specs.declared.Declaring.TheVariants.{Output, Reg, Input, Initial, Table}

-- `output` and `reg`: the output's name, where it is fresh, and the semicolon
unfoldable pub declare : List ℕ → Bool → Reader ℕ
declare q fresh = do
  x ← name
  check (same x.spelt q && fresh) 5 x.place
  sign ";"

-- the last byte of a based constant
unfoldable pub digit : Reader Ternary
digit = do
  c ← byte (λ c. is c "0" || is c "1" || letter c "x" "X")
  give (value_said c)

-- the words among the declarations
abbrev pub declaring_word : Declaring → List ℕ
declaring_word Output = bytes "output"
declaring_word Reg = bytes "reg"
declaring_word Input = bytes "input"
declaring_word Initial = bytes "initial"
declaring_word Table = bytes "table"

-- a sequential primitive that starts at a value
abbrev pub starting_at : Ternary → Declared
starting_at v = record { sequential = true; start = v }
