-- What writing leaves in an area: a table without rows, and one row more.
use Rattle.std.specs.Prelude.{ℕ, ◌+◌, ◌-◌, Bool, cond, ◌&&◌, List, [], eqb, leb, ltb, length, get_or, take}
use Rattle.base.specs.Limits.{input_limit, row_limit, name_limit}
use Rattle.base.specs.Listed.{listed}
use Rattle.value.specs.declared.Ternary.{Ternary}
use Rattle.symbol.specs.declared.Level.{Level}
use Rattle.symbol.specs.declared.Symbol.{Symbol}
use Rattle.symbol.specs.declared.Output.{Output}
use Rattle.table.specs.Places.{inputs_at, count_at, row_size, area_size, row_place}
use Rattle.table.specs.Table.{Row, Table}
use Rattle.table.specs.Area.{row_byte, encode}

-- a table that has no rows yet
unfoldable pub head_of : List ℕ → Bool → ℕ → Ternary → Table
head_of name sequential inputs start = record { name = name; sequential = sequential; inputs = inputs; start = start; rows = [] }

-- it is written where it and the area fit; else nothing is
unfoldable pub head_fits : List ℕ → List ℕ → ℕ → Bool
head_fits a name inputs = eqb (length a) area_size && (leb (length name) name_limit && leb inputs input_limit)

unfoldable pub head_written : List ℕ → Table → List ℕ
head_written a t = cond (head_fits a t.name t.inputs) (encode t) a

-- the row that the first n of some symbols make
unfoldable pub row_from : ℕ → List Symbol → Level → Output → Row
row_from n l state output = record { symbols = take n l; state = state; output = output }

-- an area that has room for one row more
unfoldable pub has_room : List ℕ → Bool
has_room a = eqb (length a) area_size && (leb (get_or a inputs_at 0) input_limit && ltb (get_or a count_at 0) row_limit)

-- place p of an area to whose rows r is added
unfoldable pub added_byte : List ℕ → Row → ℕ → ℕ
added_byte a r p =
    let b = row_place (get_or a count_at 0) 0 in
    cond (leb b p && ltb p (b + row_size)) (row_byte r (p - b)) (cond (eqb p count_at) (get_or a count_at 0 + 1) (get_or a p 0))

-- a row is added where there is room; else nothing is written
unfoldable pub row_written : List ℕ → Row → List ℕ
row_written a r = cond (has_room a) (listed (added_byte a r) area_size) a
