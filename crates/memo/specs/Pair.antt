-- The two orders of columns i and j while all other columns stand still. Columns are counted from 0; i goes from value number a to x, j from b to y, and o is the old output.
use Rattle.std.specs.Prelude.{ℕ, zero, suc, ◌/◌, ◌%◌, cond, ◌||◌, List, eqb}
use Rattle.std.specs.Int.Bits.{bit_and}
use Rattle.table.specs.Table.{Table}
use Rattle.memo.specs.Rows.{cell_at, entry_of}

-- the rows that match vector number v in each of the first k columns but i and j
unfoldable pub others_of : List (List ℕ) → ℕ → ℕ → ℕ → ℕ → ℕ → ℕ
others_of s all i j zero v = all
others_of s all i j (suc k) v =
    cond (eqb k i || eqb k j) (others_of s all i j k (v / 3)) (bit_and (others_of s all i j k (v / 3)) (cell_at s k (v % 3)))

-- i steps and then j, where `rest` are the rows that match in the other columns
unfoldable pub first_then : Table → List (List ℕ) → ℕ → ℕ → ℕ → ℕ → ℕ → ℕ → ℕ → ℕ → ℕ
first_then t s i j rest a b x y o =
    entry_of t s j (bit_and rest (cell_at s i x)) y b (entry_of t s i (bit_and rest (cell_at s j b)) x a o)

-- j steps and then i
unfoldable pub second_then : Table → List (List ℕ) → ℕ → ℕ → ℕ → ℕ → ℕ → ℕ → ℕ → ℕ → ℕ
second_then t s i j rest a b x y o =
    entry_of t s i (bit_and rest (cell_at s j y)) x a (entry_of t s j (bit_and rest (cell_at s i a)) y b o)
