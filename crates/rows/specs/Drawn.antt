-- While a table is read it is drawn into an area.
use Rattle.std.specs.Prelude.{◌≡◌, Bool, List, [], ℕ}
use Rattle.symbol.specs.declared.Symbol.{Symbol}
use Rattle.table.specs.Table.{Row, Table, Shaped}
use Rattle.table.specs.Area.{encode, decode}
use Rattle.text.specs.Reader.{Result, got, refused, Reader, ◌>>=◌, ◌>>◌, give, sign}
use Rattle.grammar.specs.Rows.{state, field, output_said}

-- what is read, as the area that it leaves
abbrev pub drawn : {A B : Type 0} → (A → B) → Result A → Result B
drawn f (got a k s) = got (f a) k s
drawn f (refused c p) = refused c p

-- a row behind its columns
unfoldable pub row_tail : Bool → List Symbol → Reader Row
row_tail sequential l = do
  y ← state sequential
  o ← field (output_said sequential)
  sign ";"
  give (record { symbols = l; state = y; output = o })

-- a table with other rows
abbrev pub with_rows : Table → List Row → Table
with_rows t l = record { name = t.name; sequential = t.sequential; inputs = t.inputs; start = t.start; rows = l }

-- the area holds a table of n inputs that has no rows yet
pub record Begun (a : List ℕ) (n : ℕ) : Type 0 where
  pub same : a ≡ encode (decode a)
  pub shaped : Shaped (decode a)
  pub none : (decode a).rows ≡ []
  pub inputs : (decode a).inputs ≡ n
