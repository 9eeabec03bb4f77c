-- Where every step of two columns is told, so is whether the two orders agree in each lane. Assumes nothing.
use Prim.Native.Nat.{ℕ, zero, suc, ◌+◌, ◌*◌, ◌/◌, ◌%◌, ◌<◌}
use mathlib.Core.Path.{◌≡◌, refl, sym, ap, ◌∙◌}
use mathlib.Core.Bool.{Bool, true, false, cond, ◌&&◌}
use mathlib.Core.List.{List, []}
use native.Mathlib.Omega.{arith}
use lib.Bits.{bit_and}
use lib.Dec.{eqb}
use lib.ListN.{get_or}
use borrow.Author.Tests.{eqb-true, eq-eqb}
use Rattle.base.specs.Search.{every}
use Rattle.base.proofs.Bools.{both, and}
use Rattle.base.proofs.Search.{every_at, every_of}
use Rattle.table.specs.Table.{Table}
use Rattle.memo.specs.declared.Memo.{Memo}
use Rattle.memo.specs.Rows.{cell_at, entry_of}
use Rattle.memo.specs.Pair.{first_then, second_then}
use Rattle.planes.specs.Words.{Told}
use Rattle.planes.specs.Planes.{lane_rows}
use Rattle.exchange.specs.Lanes.{besides, steps_at, Steps, Agree, Given, LanesTell}
use Rattle.exchange.specs.Paths.{agree_of, agree_at, agree_in}
use Rattle.planes.proofs.Planes.{told_same, last_of}
use Rattle.exchange.proofs.Entered.{enter_is, entry_low}
use Rattle.exchange.proofs.Composed.{agree_lanes}

-- one case of them all
in_place : (f h : List (List ℕ)) (x y a b : ℕ) → x < 3 → y < 3 → a < 3 → b < 3 → eqb a x ≡ false → every 27 (agree_in f h) ≡ true → agree_at f h x y a b ≡ true
unfolding agree_in
in_place f h x y a b lx ly la lb ne e = pick b lb (go ((x * 3 + y) * 3 + a) refl)
  where
    go : (k : ℕ) → k ≡ (x * 3 + y) * 3 + a → (agree_at f h x y a 0 && (agree_at f h x y a 1 && agree_at f h x y a 2)) ≡ true
    go k q =
        let ex : k / 9 ≡ x = omega arith in
        let ey : k / 3 % 3 ≡ y = last_of (k / 3) x y ly (omega arith) in
        let ea : k % 3 ≡ a = omega arith in
        rw (ex, ey, ea, ne) at (every_at (agree_in f h) 27 k e (omega arith))

    pick : (b : ℕ) → b < 3 → (agree_at f h x y a 0 && (agree_at f h x y a 1 && agree_at f h x y a 2)) ≡ true → agree_at f h x y a b ≡ true
    pick zero l t = (both (agree_at f h x y a 0) _ t).0
    pick (suc zero) l t = (both (agree_at f h x y a 1) _ (both (agree_at f h x y a 0) _ t).1).0
    pick (suc (suc zero)) l t = (both (agree_at f h x y a 1) _ (both (agree_at f h x y a 0) _ t).1).1
    pick (suc (suc (suc b))) l t = absurd (omega arith)

-- a column that does not change leaves the output as it is
module _ (t : Table) (s : List (List ℕ)) (i j rest : ℕ) where
  idle : (c x u o : ℕ) → entry_of t s c x u u o ≡ o
  unfolding entry_of
  idle c x u o = rw (eq-eqb u u refl)

  first_idle : (b x y o : ℕ) → first_then t s i j rest x b x y o ≡ second_then t s i j rest x b x y o
  unfolding first_then second_then
  first_idle b x y o =
      ap (λ (q : ℕ). entry_of t s j (bit_and rest (cell_at s i x)) y b q) (idle i (bit_and rest (cell_at s j b)) x o)
      ∙ sym (idle i (bit_and rest (cell_at s j y)) x (entry_of t s j (bit_and rest (cell_at s i x)) y b o))

  second_idle : (a x y o : ℕ) → first_then t s i j rest a y x y o ≡ second_then t s i j rest a y x y o
  unfolding first_then second_then
  second_idle a x y o =
      idle j (bit_and rest (cell_at s i x)) y (entry_of t s i (bit_and rest (cell_at s j y)) x a o)
      ∙ sym (ap (λ (q : ℕ). entry_of t s i (bit_and rest (cell_at s j y)) x a q) (idle j (bit_and rest (cell_at s i a)) y o))

  -- so only changes of both columns are to be looked at
  pub by_change : (a b x y o : ℕ) → (eqb a x ≡ false → eqb b y ≡ false → first_then t s i j rest a b x y o ≡ second_then t s i j rest a b x y o) →
      first_then t s i j rest a b x y o ≡ second_then t s i j rest a b x y o
  by_change a b x y o h = go (eqb a x) refl (eqb b y) refl
    where
      go : (p : Bool) → eqb a x ≡ p → (q : Bool) → eqb b y ≡ q → first_then t s i j rest a b x y o ≡ second_then t s i j rest a b x y o
      go true e q z = let k : a ≡ x = eqb-true a x e in rw k (first_idle b x y o)
      go false e true z = let k : b ≡ y = eqb-true b y z in rw k (second_idle a x y o)
      go false e false z = h e z

module _ (t : Table) (memo : Memo) (g : List ℕ) (i j r : ℕ) (d : Given t memo i j) where
  abbrev s : List (List ℕ)
  s = memo.cells

  -- the step of column c, in words
  step_told : (c h : ℕ) (f : List (List ℕ)) → Steps memo g c h r f → (u w a o : ℕ) → u < 3 → w < 3 → a < 3 → o < 3 → eqb a u ≡ false →
      Told 3 (get_or f (steps_at u w a + o) []) (λ (l : ℕ). entry_of t s c (besides s g h r w l) u a o)
  step_told c h f st u w a o lu lw la lo e = told_same 3 _ _ _ (λ l lt. enter_is t memo i j d o lo g c h r u w a l e)
      (st.at d.outputs.low u w a o lu lw la lo e)

  abbrev rest : ℕ → ℕ
  rest l = bit_and r (lane_rows g l)

  module _ (f h : List (List ℕ)) (sf : Steps memo g i j r f) (sh : Steps memo g j i r h) where
    -- where both columns change, the words tell both ways
    module _ (a b x y : ℕ) (la : a < 3) (lb : b < 3) (lx : x < 3) (ly : y < 3) (p : eqb a x ≡ false) (q : eqb b y ≡ false) where
      abbrev Same : Type 0
      Same = (o l : ℕ) → o < 3 → l < 27 → first_then t s i j (rest l) a b x y o ≡ second_then t s i j (rest l) a b x y o

      abbrev agreed : Bool
      agreed = agree_of f h (steps_at x b a) (steps_at y x b) (steps_at y a b) (steps_at x y a)

      both_change : (agreed ≡ true → Same) × (Same → agreed ≡ true)
      unfolding first_then second_then besides
      both_change = agree_lanes f h (steps_at x b a) (steps_at y x b) (steps_at y a b) (steps_at x y a)
          (λ (o l : ℕ). entry_of t s i (besides s g j r b l) x a o)
          (λ (o l : ℕ). entry_of t s j (besides s g i r a l) y b o)
          (λ (z l : ℕ). entry_of t s j (besides s g i r x l) y b z)
          (λ (z l : ℕ). entry_of t s i (besides s g j r y l) x a z)
          (λ o lo. step_told i j f sf x b a o lx lb la lo p)
          (λ z lz. step_told j i h sh y x b z ly lx lb lz q)
          (λ o lo. step_told j i h sh y a b o ly la lb lo q)
          (λ z lz. step_told i j f sf x y a z lx ly la lz p)
          (λ o l lo. entry_low t memo i j d o lo i _ x a)
          (λ o l lo. entry_low t memo i j d o lo j _ y b)
          (λ z l lz. entry_low t memo i j d z lz j _ y b)
          (λ z l lz. entry_low t memo i j d z lz i _ x a)

    agrees : every 27 (agree_in f h) ≡ true → (l : ℕ) → l < 27 → Agree t s i j (rest l)
    unfolding agree_at
    agrees all l lt = record {
      same = λ a b x y o la lb lx ly lo.
          by_change t s i j (rest l) a b x y o (λ p q. (both_change a b x y la lb lx ly p q).0 (rw q at (in_place f h x y a b lx ly la lb p all)) o l lo lt);
    }

    module _ (a : (l : ℕ) → l < 27 → Agree t s i j (rest l)) where
      at_each : (x y v w : ℕ) → x < 3 → y < 3 → v < 3 → w < 3 → eqb v x ≡ false → agree_at f h x y v w ≡ true
      unfolding agree_at
      at_each x y v w lx ly lv lw e = go (eqb w y) refl
        where
          go : (b : Bool) → eqb w y ≡ b → cond b true (agree_of f h (steps_at x w v) (steps_at y x w) (steps_at y v w) (steps_at x y v)) ≡ true
          go true q = refl
          go false q = (both_change v w x y lv lw lx ly e q).1 (λ o l lo lt. (a l lt).same v w x y o lv lw lx ly lo)

      in_each : (k : ℕ) → k < 27 → agree_in f h k ≡ true
      unfolding agree_in
      in_each k lk = go (eqb (k % 3) (k / 9)) refl
        where
          here : (w : ℕ) → w < 3 → eqb (k % 3) (k / 9) ≡ false → agree_at f h (k / 9) (k / 3 % 3) (k % 3) w ≡ true
          here w lw e = at_each (k / 9) (k / 3 % 3) (k % 3) w (omega arith) (omega arith) (omega arith) lw e

          go : (b : Bool) → eqb (k % 3) (k / 9) ≡ b →
              cond b true (agree_at f h (k / 9) (k / 3 % 3) (k % 3) 0 &&
              (agree_at f h (k / 9) (k / 3 % 3) (k % 3) 1 && agree_at f h (k / 9) (k / 3 % 3) (k % 3) 2)) ≡ true
          go true e = refl
          go false e = and (here 0 (omega arith) e) (and (here 1 (omega arith) e) (here 2 (omega arith) e))

      all_agree_lem : every 27 (agree_in f h) ≡ true
      all_agree_lem = every_of (agree_in f h) 27 in_each

pub lanes_tell : (memo : Memo) (g : List ℕ) (i j r : ℕ) (f h : List (List ℕ)) (b : Bool) → Steps memo g i j r f → Steps memo g j i r h →
    b ≡ every 27 (agree_in f h) → LanesTell memo g i j r b
lanes_tell memo g i j r f h b sf sh e = record {
  sound = λ q. record { at = λ t l lt d. agrees t memo g i j r d f h sf sh (sym e ∙ q) l lt };
  whole = λ t d a. e ∙ all_agree_lem t memo g i j r d f h sf sh a;
}
