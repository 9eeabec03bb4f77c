-- How a table lies in an area: the one encoding.
use Rattle.std.specs.Prelude.{Option, None, Some, ℕ, ◌+◌, ◌-◌, ◌*◌, ◌/◌, ◌%◌, Bool, true, false, cond, List, eqb, ltb, length, get_or, take, drop}
use Prim.Native.Char.{code}
use Rattle.base.specs.Search.{every}
use Rattle.base.specs.Listed.{listed}
use Rattle.value.specs.declared.Ternary.{Ternary}
use Rattle.value.specs.declared.Ternary.TheVariants.{Vx}
use Rattle.value.specs.Value.{byte_of, read_byte}
use Rattle.symbol.specs.declared.Symbol.{Symbol}
use Rattle.stored.specs.Stored.{level_byte, level_of, symbol_byte, second_byte, symbol_of, output_byte, output_of}
use Rattle.table.specs.Places.{name_at, kind_at, inputs_at, start_at, count_at, rows_at, state_at, output_at, row_size, area_size, row_place}
use Rattle.table.specs.Table.{Row, Table, row_at, symbol_at}

unfoldable pub kind_byte : Bool → ℕ
kind_byte true = code "s"
kind_byte false = code "c"

-- the first or the second of a symbol's two bytes
unfoldable pub symbol_part : Symbol → ℕ → ℕ
symbol_part s m = cond (eqb m 0) (symbol_byte s) (second_byte s)

-- place k of a row
unfoldable pub row_byte : Row → ℕ → ℕ
row_byte r k =
    cond (ltb k (2 * length r.symbols)) (symbol_part (symbol_at r (k / 2)) (k % 2))
    (cond (eqb k state_at) (level_byte r.state)
    (cond (eqb k output_at) (output_byte r.output)
    0))

-- place q of the rows
unfoldable pub rows_byte : Table → ℕ → ℕ
rows_byte t q = cond (ltb (q / row_size) (length t.rows)) (row_byte (row_at t (q / row_size)) (q % row_size)) 0

-- place p of an area
unfoldable pub area_byte : Table → ℕ → ℕ
area_byte t p =
    cond (ltb p name_at) (length t.name)
    (cond (ltb p kind_at) (get_or t.name (p - name_at) 0)
    (cond (ltb p inputs_at) (kind_byte t.sequential)
    (cond (ltb p start_at) t.inputs
    (cond (ltb p count_at) (byte_of t.start)
    (cond (ltb p rows_at) (length t.rows)
    (rows_byte t (p - rows_at)))))))

unfoldable pub encode : Table → List ℕ
encode t = listed (area_byte t) area_size

unfoldable pub symbol_in : List ℕ → ℕ → ℕ → Symbol
symbol_in a i k = symbol_of (get_or a (row_place i (2 * k)) 0) (get_or a (row_place i (2 * k + 1)) 0)

unfoldable pub row_in : List ℕ → ℕ → Row
row_in a i = record {
  symbols = listed (symbol_in a i) (get_or a inputs_at 0);
  state = level_of (get_or a (row_place i state_at) 0);
  output = output_of (get_or a (row_place i output_at) 0);
}

-- the value that a byte says, x where it says none
unfoldable pub or_x : Option Ternary → Ternary
or_x (Some v) = v
or_x None = Vx

-- the table that is read out of any bytes: past their end they count as zero
unfoldable pub decode : List ℕ → Table
decode a = record {
  name = take (get_or a 0 0) (drop name_at a);
  sequential = eqb (get_or a kind_at 0) (code "s");
  inputs = get_or a inputs_at 0;
  start = or_x (read_byte (get_or a start_at 0));
  rows = listed (row_in a) (get_or a count_at 0);
}

-- each byte is the one that the encoding of the table has there
unfoldable pub canonical : List ℕ → Bool
canonical a = every area_size (λ (p : ℕ). eqb (get_or a p 0) (area_byte (decode a) p))
