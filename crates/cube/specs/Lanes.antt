-- A lane stands for the vector of its number. A column's value there is the digit whose weight is the column's:
-- 1 for the last column, 3 for the one before it, and 9.
use Rattle.std.specs.Prelude.{ℕ, zero, suc, ◌+◌, ◌-◌, ◌*◌, ◌/◌, ◌%◌, ◌^◌, ◌<◌, ◌≡◌, Bool, true, cond, ◌&&◌, List, eqb, get_or}
use Rattle.memo.specs.Rows.{cell_at}
use Rattle.cube.specs.declared.Digit.{Digit}
use Rattle.cube.specs.declared.Digit.TheVariants.{One, Three, Nine}
use Rattle.planes.specs.Words.{bit, Told}

abbrev pub weight_of : Digit → ℕ
weight_of One = 1
weight_of Three = 3
weight_of Nine = 9

-- the lanes whose digit of weight w is zero; shifted by d digits they are those whose digit is d
pub record Zeros (w r : ℕ) : Type 0 where
  pub at : (d l : ℕ) → d < 3 → l < 27 → bit (r * 2 ^ (w * d)) l ≡ eqb (l / w % 3) d

-- lane l with d for its digit of weight w
abbrev pub put_by : ℕ → ℕ → ℕ → ℕ
put_by w d l = l - w * (l / w % 3) + w * d

-- every lane has in r what p has where the digit of weight w is d
pub record Copied (p w d r : ℕ) : Type 0 where
  pub at : (l : ℕ) → l < 27 → bit r l ≡ bit p (put_by w d l)

-- the same for three words that tell something
pub record Moved (p : List ℕ) (w d : ℕ) (r : List ℕ) : Type 0 where
  pub told : (f : ℕ → ℕ) → Told 3 p f → Told 3 r (λ (l : ℕ). f (put_by w d l))

-- the lanes in which row r matches in column k, which is offered what comes c behind its value
pub record ColumnLanes (s : List (List ℕ)) (k w c r p : ℕ) : Type 0 where
  pub at : (l : ℕ) → l < 27 → bit p l ≡ bit (cell_at s k (c + l / w % 3)) r

-- row r matches vector number v in each of the first k columns, where column i is offered what comes c behind its value
unfoldable pub row_matches : List (List ℕ) → ℕ → ℕ → ℕ → ℕ → ℕ → Bool
row_matches s i c r zero v = true
row_matches s i c r (suc k) v = row_matches s i c r k (v / 3) && bit (cell_at s k (cond (eqb k i) c 0 + v % 3)) r

-- the lanes of row r
pub record RowLanes (s : List (List ℕ)) (n i c r p : ℕ) : Type 0 where
  pub at : (l : ℕ) → l < 27 → bit p l ≡ row_matches s i c r n l

-- the lanes of the first m rows
pub record Lanes (s : List (List ℕ)) (n m i c : ℕ) (g : List ℕ) : Type 0 where
  pub row : (r : ℕ) → r < m → RowLanes s n i c r (get_or g r 0)
