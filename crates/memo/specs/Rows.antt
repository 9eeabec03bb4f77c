-- Sets of rows as numbers: bit i is set where row i is in the set.
use Rattle.std.specs.Prelude.{ℕ, zero, suc, ◌+◌, ◌*◌, ◌/◌, ◌%◌, ◌≤◌, true, cond, List, [], eqb, ltb, length, get_or}
use Rattle.std.specs.Int.Bits.{bit_and}
use Rattle.std.specs.Int.Count.{count_trailing_zeros}
use Rattle.base.specs.Limits.{input_limit, row_limit}
use Rattle.base.specs.Listed.{listed}
use Rattle.value.specs.declared.Ternary.{Ternary}
use Rattle.value.specs.declared.Ternary.TheVariants.{Vx}
use Rattle.value.specs.Value.{rank_of, value_of}
use Rattle.symbol.specs.declared.Symbol.{Symbol}
use Rattle.symbol.specs.declared.Symbol.TheVariants.{Held}
use Rattle.symbol.specs.Masks.{mask_of}
use Rattle.symbol.specs.Match.{offered}
use Rattle.table.specs.Table.{Table, row_at, symbol_at}
use Rattle.step.specs.Step.{answer_or}

-- the place of the lowest bit, or n
unfoldable pub lowest : ℕ → ℕ → ℕ
lowest n m = cond (eqb m 0) n (count_trailing_zeros 64 m)

-- the symbol of row i in column k; behind the last column stands the state
unfoldable pub column_of : Table → ℕ → ℕ → Symbol
column_of t i k = cond (ltb k t.inputs) (symbol_at (row_at t i) k) (Held (row_at t i).state)

-- the rows that match in column k where the value or the change number c is offered there
unfoldable pub offered_rows : Table → ℕ → ℕ → ℕ
offered_rows t k c = mask_of (length t.rows) (λ (i : ℕ). offered (column_of t i k) c)

unfoldable pub all_rows : Table → ℕ
all_rows t = mask_of (length t.rows) (λ (i : ℕ). true)

unfoldable pub cell_row : Table → ℕ → List ℕ
cell_row t k = listed (offered_rows t k) 12

unfoldable pub cells : Table → List (List ℕ)
cells t = listed (cell_row t) (input_limit + 1)

unfoldable pub cell_at : List (List ℕ) → ℕ → ℕ → ℕ
cell_at s k c = get_or (get_or s k []) c 0

-- the rows that match vector number v in each of the first k columns but j
unfoldable pub rest_of : List (List ℕ) → ℕ → ℕ → ℕ → ℕ → ℕ
rest_of s all j zero v = all
rest_of s all j (suc k) v = cond (eqb k j) (rest_of s all j k (v / 3)) (bit_and (rest_of s all j k (v / 3)) (cell_at s k (v % 3)))

-- what the rows answer: the lowest level row, else the lowest edge row, else x
unfoldable pub out_by : Table → ℕ → ℕ → Ternary → Ternary
out_by t level edge old = answer_or t old (lowest (length t.rows) level) (answer_or t old (lowest (length t.rows) edge) Vx)

-- column j has the value number d and comes from the value number x; `rest` are the rows that match in the other columns
unfoldable pub entry_of : Table → List (List ℕ) → ℕ → ℕ → ℕ → ℕ → ℕ → ℕ
entry_of t s j rest d x o =
    cond (eqb x d) o
    (rank_of (out_by t
    (bit_and (bit_and rest (cell_at s t.inputs o)) (cell_at s j d))
    (bit_and (bit_and rest (cell_at s t.inputs o)) (cell_at s j (3 + (x * 3 + d))))
    (value_of o)))

-- a table that the masks have room for
pub record Small (t : Table) : Type 0 where
  pub inputs : t.inputs ≤ input_limit
  pub rows : length t.rows ≤ row_limit
