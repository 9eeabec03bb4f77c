-- The two orders of two columns, whatever values the others have.
use Rattle.std.specs.Prelude.{ℕ, ◌≡◌, Bool, true}
use Rattle.table.specs.Table.{Table}
use Rattle.memo.specs.Rows.{all_rows, cells}
use Rattle.memo.specs.Pair.{others_of}
use Rattle.exchange.specs.Lanes.{Agree}

-- the two orders of columns i and j agree for every vector of the others
pub record PairAgrees (t : Table) (i j : ℕ) : Type 0 where
  pub at : (v : ℕ) → Agree t (cells t) i j (others_of (cells t) (all_rows t) i j t.inputs v)

-- r tells whether they do
pub record Tells (t : Table) (i j : ℕ) (r : Bool) : Type 0 where
  pub sound : r ≡ true → PairAgrees t i j
  pub whole : PairAgrees t i j → r ≡ true
