-- The columns that the lanes leave, one after the other. Assumes nothing.
use Prim.Native.Nat.{ℕ, zero, suc, ◌+◌, ◌-◌, ◌*◌, ◌/◌, ◌%◌, ◌<◌}
use mathlib.Core.Path.{◌≡◌, refl, sym, ◌∙◌}
use mathlib.Core.Bool.{Bool, true, false, ◌||◌}
use mathlib.Core.Logic.{⊎_elim}
use lib.Dec.{eqb}
use mathlib.Core.List.{List}
use native.Mathlib.Omega.{arith}
use lib.Bits.{bit_and}
use borrow.Author.Tests.{ne_eqb, eqb-true}
use Rattle.base.proofs.Bools.{clash, either}
use Rattle.table.specs.Table.{Table}
use Rattle.memo.specs.declared.Memo.{Memo}
use Rattle.memo.specs.Rows.{cell_at}
use Rattle.plain.specs.declared.PlainRows.{PlainRows}
use Rattle.lanes.specs.Columns.{top_of, matching}
use Rattle.planes.specs.Planes.{lane_rows}
use Rattle.exchange.specs.Lanes.{Agree, Given, LanesAgree, LanesTell}
use Rattle.lanes.specs.Pairs.{OuterAgree, OuterTell}
use Rattle.plain.specs.Plain.{Only, Plain}
use Rattle.plain.proofs.Alike.{plain_lanes}
use Rattle.lanes.proofs.Tops.{matching_top, matching_base, matching_in}

module _ (memo : Memo) (g : List ℕ) (i j : ℕ) where
  abbrev s : List (List ℕ)
  s = memo.cells

  pub outer_none : (k r : ℕ) (b : Bool) → 0 ≡ top_of i j k → LanesTell memo g i j r b → OuterTell memo g i j k r b
  outer_none k r b e a = record {
    sound = λ q. record { at = λ c. rw (here c) (a.sound q) };
    whole = λ u d h. a.whole u d (λ l lt. rw (here 0) at (h 0 l lt));
  }
    where
      here : (c : ℕ) → matching s r i j k c ≡ r
      here c = matching_top i j s r k c ∙ rw (← e)

  -- the column before t has one of three values
  by_value : (d r q c : ℕ) → d < 3 → OuterAgree memo g i j q (bit_and r (cell_at s q 0)) → OuterAgree memo g i j q (bit_and r (cell_at s q 1)) →
      OuterAgree memo g i j q (bit_and r (cell_at s q 2)) → LanesAgree memo g i j (matching s (bit_and r (cell_at s q d)) i j q c)
  by_value zero r q c h x y z = x.at c
  by_value (suc zero) r q c h x y z = y.at c
  by_value (suc (suc zero)) r q c h x y z = z.at c
  by_value (suc (suc (suc d))) r q c h x y z = absurd (omega arith)

  -- no row is left to which an old output or a change matters
  pub outer_plain : (k r : ℕ) (p : PlainRows) → Plain memo i j p → Only r p → OuterTell memo g i j k r true
  outer_plain k r p pl o = record {
    sound = λ e. record { at = λ c. plain_lanes memo g i j (matching s r i j k c) r p (λ q e. matching_in i j s r k c q e) pl o };
    whole = λ u d h. refl;
  }

  -- equal rows need no second look
  pub outer_same : (k r q : ℕ) → r ≡ q → OuterAgree memo g i j k q → OuterAgree memo g i j k r
  outer_same k r q e a = rw e a

  module _ (k q r : ℕ) (e : suc q ≡ top_of i j k) where
    -- the rows that are left where column q has the value number d
    abbrev third : ℕ → ℕ
    third d = bit_and r (cell_at s q d)

    by_column : (c : ℕ) → matching s r i j k c ≡ matching s (third (c % 3)) i j q (c / 3)
    by_column c = let z : suc q - 1 ≡ q = omega arith in matching_top i j s r k c
        ∙ rw (← e, ne_eqb (suc q) 0 (λ y. omega arith), z) (sym (matching_base i j s r (cell_at s q (c % 3)) q (c / 3)))

    -- what holds of all holds of each third
    in_third : (d : ℕ) (b : Bool) → d < 3 → OuterTell memo g i j q (third d) b → (u : Table) → Given u memo i j →
        ((c l : ℕ) → l < 27 → Agree u s i j (bit_and (matching s r i j k c) (lane_rows g l))) → b ≡ true
    in_third d b ld a u G w = a.whole u G (λ c l lt.
        let x : (c * 3 + d) / 3 ≡ c = omega arith in
        let y : (c * 3 + d) % 3 ≡ d = omega arith in
        rw (x, y) at (rw (by_column (c * 3 + d)) at (w (c * 3 + d) l lt)))

    -- one third is enough to say no
    pub outer_no : (d : ℕ) (b : Bool) → d < 3 → b ≡ false → OuterTell memo g i j q (third d) b → OuterTell memo g i j k r false
    outer_no d b ld z a = record {
      sound = λ y. clash (sym y);
      whole = λ u G w. sym z ∙ in_third d b ld a u G w;
    }

    three : OuterAgree memo g i j q (third 0) → OuterAgree memo g i j q (third 1) → OuterAgree memo g i j q (third 2) → OuterAgree memo g i j k r
    three x y z = record { at = λ c. rw (by_column c) (by_value (c % 3) r q (c / 3) (omega arith) x y z) }

    -- the first two thirds agree, and so the last tells
    pub outer_last : (b : Bool) → OuterAgree memo g i j q (third 0) → OuterAgree memo g i j q (third 1) → OuterTell memo g i j q (third 2) b →
        OuterTell memo g i j k r b
    outer_last b x y a = record {
      sound = λ yes. three x y (a.sound yes);
      whole = λ u G w. in_third 2 b (omega arith) a u G w;
    }

    -- the third is one of them
    pub outer_seen : (eqb (third 2) (third 0) || eqb (third 2) (third 1)) ≡ true → OuterAgree memo g i j q (third 0) → OuterAgree memo g i j q (third 1) →
        OuterTell memo g i j k r (eqb (third 2) (third 0) || eqb (third 2) (third 1))
    outer_seen z x y = record {
      sound = λ yes. three x y (⊎_elim
          (λ p. outer_same q (third 2) (third 0) (eqb-true (third 2) (third 0) p) x)
          (λ p. outer_same q (third 2) (third 1) (eqb-true (third 2) (third 1) p) y)
          (either (eqb (third 2) (third 0)) (eqb (third 2) (third 1)) z));
      whole = λ u G w. z;
    }
