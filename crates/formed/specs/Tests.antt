-- The same as tests that compute, and when an area is well formed.
use Rattle.std.specs.Prelude.{ℕ, Bool, not, ◌&&◌, ◌||◌, List, eqb, leb, length}
use Prim.Native.Char.{code}
use Rattle.base.specs.Limits.{input_limit, row_limit}
use Rattle.base.specs.Search.{every}
use Rattle.value.specs.declared.Ternary.TheVariants.{Vx}
use Rattle.value.specs.Value.{same_value}
use Rattle.symbol.specs.declared.Level.{Level}
use Rattle.symbol.specs.declared.Symbol.{Symbol}
use Rattle.symbol.specs.declared.Symbol.TheVariants.{Held}
use Rattle.symbol.specs.declared.Output.{Output}
use Rattle.symbol.specs.Match.{is_edge, meet, possible}
use Rattle.stored.specs.Stored.{level_byte, output_byte}
use Rattle.text.specs.Words.{name_fits}
use Rattle.table.specs.Table.{Row, Table, row_at, symbol_at}
use Rattle.table.specs.Match.{edge_at}
use Rattle.table.specs.Places.{area_size}
use Rattle.table.specs.Area.{decode, canonical}

unfoldable pub same_output : Output → Output → Bool
same_output o u = eqb (output_byte o) (output_byte u)

unfoldable pub levels_meet : Level → Level → Bool
levels_meet l m = meet (Held l) (Held m)

unfoldable pub columns_meet : ℕ → Row → Row → Bool
columns_meet n r q = every n (λ (k : ℕ). meet (symbol_at r k) (symbol_at q k))

-- column by column: a level and an edge never meet, so rows that meet everywhere have their edges in the same column
unfoldable pub contradict : ℕ → Row → Row → Bool
contradict n r q = not (same_output r.output q.output) && (levels_meet r.state q.state && columns_meet n r q)

-- a symbol in a column; `here` tells that an edge may stand there
unfoldable pub column_valid : Symbol → Bool → Bool
column_valid s here = possible s && (not (is_edge s) || here)

unfoldable pub columns_valid : ℕ → Row → Bool
columns_valid n r = every n (λ (k : ℕ). column_valid (symbol_at r k) (eqb k (edge_at n r)))

unfoldable pub combinational : ℕ → Row → Bool
combinational n r = eqb (edge_at n r) n && (eqb (level_byte r.state) (code "?") && not (eqb (output_byte r.output) (code "-")))

unfoldable pub row_valid : ℕ → Bool → Row → Bool
row_valid n sequential r = eqb (length r.symbols) n && (columns_valid n r && (sequential || combinational n r))

unfoldable pub rows_valid : Table → Bool
rows_valid t = every (length t.rows) (λ (i : ℕ). row_valid t.inputs t.sequential (row_at t i))

-- row j contradicts none before it
unfoldable pub row_agrees : Table → ℕ → Bool
row_agrees t j = every j (λ (i : ℕ). not (contradict t.inputs (row_at t i) (row_at t j)))

unfoldable pub rows_agree : Table → Bool
rows_agree t = every (length t.rows) (row_agrees t)

unfoldable pub within : ℕ → ℕ → Bool
within m limit = leb 1 m && leb m limit

unfoldable pub head_valid : Table → Bool
head_valid t = within t.inputs input_limit && (within (length t.rows) row_limit && (name_fits t.name && (t.sequential || same_value t.start Vx)))

unfoldable pub valid : Table → Bool
valid t = head_valid t && (rows_valid t && rows_agree t)

-- an area of the right size, whose table is valid, and each of whose bytes the encoding has
unfoldable pub well_formed : List ℕ → Bool
well_formed a = eqb (length a) area_size && (canonical a && valid (decode a))
