-- What a table is. No byte of an area is mentioned here.
use Rattle.std.specs.Prelude.{ℕ, ◌≤◌, ◌<◌, ◌≡◌, Bool, List, [], ◌∷◌, ◌++◌, length, get_or}
use Rattle.base.specs.Limits.{input_limit, row_limit, name_limit}
use Rattle.value.specs.declared.Ternary.{Ternary}
use Rattle.symbol.specs.declared.Level.{Level}
use Rattle.symbol.specs.declared.Level.TheVariants.{Any}
use Rattle.symbol.specs.declared.Symbol.{Symbol}
use Rattle.symbol.specs.declared.Symbol.TheVariants.{Held}
use Rattle.symbol.specs.declared.Output.{Output}
use Rattle.symbol.specs.declared.Output.TheVariants.{Outx}

pub record Row : Type 0 where
  pub symbols : List Symbol
  pub state : Level
  pub output : Output

pub record Table : Type 0 where
  pub name : List ℕ
  pub sequential : Bool
  pub inputs : ℕ
  pub start : Ternary
  pub rows : List Row

-- what stands past the last column, and past the last row
abbrev pub any_symbol : Symbol
any_symbol = Held Any

abbrev pub no_row : Row
no_row = record { symbols = []; state = Any; output = Outx }

abbrev pub symbol_at : Row → ℕ → Symbol
symbol_at r k = get_or r.symbols k any_symbol

abbrev pub row_at : Table → ℕ → Row
row_at t i = get_or t.rows i no_row

-- a table with one row more
unfoldable pub with_row : Table → Row → Table
with_row t r = record { name = t.name; sequential = t.sequential; inputs = t.inputs; start = t.start; rows = t.rows ++ (r ∷ []) }

-- within the limits
pub record Bounded (t : Table) : Type 0 where
  pub name : length t.name ≤ name_limit
  pub inputs : t.inputs ≤ input_limit
  pub rows : length t.rows ≤ row_limit

-- and with a symbol for each input in each row
pub record Shaped (t : Table) : Type 0 where
  pub bounded : Bounded t
  pub columns : (i : ℕ) → i < length t.rows → length (row_at t i).symbols ≡ t.inputs
