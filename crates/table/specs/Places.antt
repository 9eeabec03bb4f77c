-- Where what lies in an area: it follows from the limits alone. src/lib.rt has the same constants.
use Rattle.std.specs.Prelude.{ℕ, ◌+◌, ◌*◌}
use Rattle.base.specs.Limits.{input_limit, row_limit, name_limit}

-- place 0 has the name's length; then the name, the kind, the number of inputs, the starting value, the number of rows, the rows
abbrev pub name_at : ℕ
name_at = 1

abbrev pub kind_at : ℕ
kind_at = name_at + name_limit

abbrev pub inputs_at : ℕ
inputs_at = kind_at + 1

abbrev pub start_at : ℕ
start_at = inputs_at + 1

abbrev pub count_at : ℕ
count_at = start_at + 1

abbrev pub rows_at : ℕ
rows_at = count_at + 1

-- in a row: two places for each column, then the state and the output
abbrev pub state_at : ℕ
state_at = 2 * input_limit

abbrev pub output_at : ℕ
output_at = state_at + 1

abbrev pub row_size : ℕ
row_size = output_at + 1

abbrev pub area_size : ℕ
area_size = rows_at + row_limit * row_size

-- place k of row i
abbrev pub row_place : ℕ → ℕ → ℕ
row_place i k = rows_at + i * row_size + k
