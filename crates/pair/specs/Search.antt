-- The search of a pair's candidates for one in which the two orders differ. Columns are counted from 0.
use Rattle.std.specs.Prelude.{ℕ, suc, ◌-◌, ◌/◌, ◌%◌, ◌^◌, Bool, not, List, eqb, ltb, Option}
use Rattle.std.specs.Bool.{then_some}
use Rattle.base.specs.Search.{first}
use Rattle.table.specs.Table.{Table}
use Rattle.orders.specs.Verdict.{candidates}
use Rattle.memo.specs.Rows.{cells, all_rows}
use Rattle.memo.specs.Pair.{others_of, first_then, second_then}

-- the number r where it is below n, else none
abbrev pub found : ℕ → ℕ → Option ℕ
found n r = then_some (ltb r n) r

-- the two orders differ, where i goes from a to x and j from b to y, and the old output is o
abbrev pub differs : Table → List (List ℕ) → ℕ → ℕ → ℕ → ℕ → ℕ → ℕ → ℕ → ℕ → Bool
differs t s i j rest a b x y o = not (eqb (first_then t s i j rest a b x y o) (second_then t s i j rest a b x y o))

-- case c of the 27 of a vector: the two columns have the values a and b in it, and `rest` are the rows that match in the others
unfoldable pub differs_by : Table → List (List ℕ) → ℕ → ℕ → ℕ → ℕ → ℕ → ℕ → Bool
differs_by t s i j rest a b c = differs t s i j rest a b (c / 9) (c / 3 % 3) (c % 3)

-- candidate r, where the two columns weigh wi and wj in a vector's number
unfoldable pub differs_in : Table → List (List ℕ) → ℕ → ℕ → ℕ → ℕ → ℕ → ℕ → ℕ → Bool
differs_in t s all n i j wi wj r = differs_by t s i j (others_of s all i j n (r / 27)) (r / 27 / wi % 3) (r / 27 / wj % 3) (r % 27)

abbrev pub weight : Table → ℕ → ℕ
weight t i = 3 ^ (t.inputs - suc i)

unfoldable pub differs_at : Table → ℕ → ℕ → ℕ → Bool
differs_at t i j = differs_in t (cells t) (all_rows t) t.inputs i j (weight t i) (weight t j)

-- the first candidate that differs
unfoldable pub first_at : Table → ℕ → ℕ → ℕ
first_at t i j = first (candidates t.inputs) (differs_at t i j)

-- what the order i, j gives from vector number v, where i goes to x, j to y and the old output is o
unfoldable pub output_at : Table → ℕ → ℕ → ℕ → ℕ → ℕ → ℕ → ℕ
output_at t i j v x y o = first_then t (cells t) i j (others_of (cells t) (all_rows t) i j t.inputs v) (v / weight t i % 3) (v / weight t j % 3) x y o
