-- The two orders in every lane, whatever values the outer columns have.
use Rattle.std.specs.Prelude.{ℕ, ◌<◌, ◌≡◌, Bool, true, List}
use Rattle.std.specs.Int.Bits.{bit_and}
use Rattle.table.specs.Table.{Table}
use Rattle.memo.specs.declared.Memo.{Memo}
use Rattle.planes.specs.Planes.{lane_rows}
use Rattle.exchange.specs.Lanes.{Agree, Given, LanesAgree}
use Rattle.lanes.specs.Columns.{matching}

-- the two orders agree in every lane, whatever values the first k columns but i and j have; the rows r match in those behind
pub record OuterAgree (memo : Memo) (g : List ℕ) (i j k r : ℕ) : Type 0 where
  pub at : (c : ℕ) → LanesAgree memo g i j (matching memo.cells r i j k c)

-- b tells whether they do
pub record OuterTell (memo : Memo) (g : List ℕ) (i j k r : ℕ) (b : Bool) : Type 0 where
  pub sound : b ≡ true → OuterAgree memo g i j k r
  pub whole : (t : Table) → Given t memo i j →
      ((c l : ℕ) → l < 27 → Agree t memo.cells i j (bit_and (matching memo.cells r i j k c) (lane_rows g l))) → b ≡ true
