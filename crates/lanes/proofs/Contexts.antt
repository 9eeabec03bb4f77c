-- Every vector of the other columns is a context of the outer columns and a lane. Assumes nothing.
use Prim.Native.Nat.{ℕ, zero, suc, ◌+◌, ◌-◌, ◌*◌, ◌/◌, ◌%◌, ◌<◌, ◌≤◌}
use mathlib.Core.Path.{◌≡◌, refl, sym, ◌∙◌}
use mathlib.Core.Bool.{Bool, true, false, cond, ◌&&◌, ◌||◌}
use mathlib.Core.List.{List}
use mathlib.Core.Logic.{⊎_elim}
use native.Mathlib.Omega.{arith}
use lib.Bits.{bit_and}
use lib.Dec.{eqb}
use lib.ListN.{length}
use Rattle.base.specs.Limits.{row_limit}
use Rattle.base.proofs.Bools.{lt_or_ge}
use Rattle.table.specs.Table.{Table}
use Rattle.memo.specs.declared.Memo.{Memo}
use Rattle.memo.specs.Memo.{MemoOf}
use Rattle.memo.specs.Rows.{all_rows, cell_at}
use Rattle.memo.specs.Pair.{others_of}
use Rattle.planes.specs.Words.{bit}
use Rattle.lanes.specs.Columns.{top_of, matching, lane_at, Lanes}
use Rattle.planes.specs.Planes.{lane_rows}
use Rattle.exchange.specs.Lanes.{Agree}
use Rattle.exchange.proofs.Entered.{given_of}
use Rattle.exchange.specs.Pairs.{PairAgrees, Tells}
use Rattle.lanes.specs.Pairs.{OuterTell}
use Rattle.planes.proofs.Bits.{bit_and_lem, bit_ext, bit_past}
use Rattle.planes.proofs.Answers.{row_in}
use Rattle.planes.proofs.Planes.{last_of}
use Rattle.lanes.proofs.Tops.{matching_bit, matching_past}

-- the digits of the columns other than i and j
squeeze : ℕ → ℕ → ℕ → ℕ → ℕ
squeeze i j zero v = 0
squeeze i j (suc k) v = cond (eqb k i || eqb k j) (squeeze i j k (v / 3)) (squeeze i j k (v / 3) * 3 + v % 3)

others_matching : (s : List (List ℕ)) (all i j k v : ℕ) → others_of s all i j k v ≡ matching s all i j k (squeeze i j k v)
unfolding others_of matching squeeze
others_matching s all i j zero v = refl
others_matching s all i j (suc k) v = go (eqb k i || eqb k j) (squeeze i j k (v / 3)) (others_matching s all i j k (v / 3))
  where
    go : (b : Bool) (c : ℕ) → others_of s all i j k (v / 3) ≡ matching s all i j k c →
        cond b (others_of s all i j k (v / 3)) (bit_and (others_of s all i j k (v / 3)) (cell_at s k (v % 3)))
        ≡ cond b (matching s all i j k (cond b c (c * 3 + v % 3)))
        (bit_and (matching s all i j k (cond b c (c * 3 + v % 3) / 3)) (cell_at s k (cond b c (c * 3 + v % 3) % 3)))
    go true c e = e
    go false c e =
        let p : (c * 3 + v % 3) / 3 ≡ c = omega arith in
        let q : (c * 3 + v % 3) % 3 ≡ v % 3 = omega arith in
        rw (p, q, e)

-- and the vector that has them, with zero for i and j
widen : ℕ → ℕ → ℕ → ℕ → ℕ
widen i j zero c = 0
widen i j (suc k) c = cond (eqb k i || eqb k j) (widen i j k c * 3) (widen i j k (c / 3) * 3 + c % 3)

others_wide : (s : List (List ℕ)) (all i j k c : ℕ) → others_of s all i j k (widen i j k c) ≡ matching s all i j k c
unfolding others_of matching widen
others_wide s all i j zero c = refl
others_wide s all i j (suc k) c = go (eqb k i || eqb k j) (others_wide s all i j k c) (others_wide s all i j k (c / 3))
  where
    wide : Bool → ℕ
    wide b = cond b (widen i j k c * 3) (widen i j k (c / 3) * 3 + c % 3)

    go : (b : Bool) → others_of s all i j k (widen i j k c) ≡ matching s all i j k c →
        others_of s all i j k (widen i j k (c / 3)) ≡ matching s all i j k (c / 3) →
        cond b (others_of s all i j k (wide b / 3)) (bit_and (others_of s all i j k (wide b / 3)) (cell_at s k (wide b % 3)))
        ≡ cond b (matching s all i j k c) (bit_and (matching s all i j k (c / 3)) (cell_at s k (c % 3)))
    go true e h = let p : widen i j k c * 3 / 3 ≡ widen i j k c = omega arith in rw p e
    go false e h =
        let p : (widen i j k (c / 3) * 3 + c % 3) / 3 ≡ widen i j k (c / 3) = omega arith in
        let q : (widen i j k (c / 3) * 3 + c % 3) % 3 ≡ c % 3 = omega arith in
        rw (p, q, h)

low_same : (y z a : ℕ) → z ≡ a * 9 + y → y % 3 ≡ z % 3
low_same y z a e = omega arith

regroup : (x v u t : Bool) → (((x && v) && u) && t) ≡ (x && (t && (u && v)))
regroup false v u t = refl
regroup true true true true = refl
regroup true true true false = refl
regroup true true false true = refl
regroup true true false false = refl
regroup true false true true = refl
regroup true false true false = refl
regroup true false false true = refl
regroup true false false false = refl

module _ (s : List (List ℕ)) (all i j n t u v m : ℕ) (g : List ℕ) (et : t ≡ top_of i j n) (eu : u ≡ top_of i j (t - 1)) (ev : v ≡ top_of i j (u - 1))
    (lm : m ≤ row_limit) (few : (r : ℕ) → m ≤ r → bit all r ≡ false) (h : Lanes s t u v m g) where
  -- three columns come off
  three : (c r : ℕ) → bit (matching s all i j n c) r
      ≡ (bit (matching s all i j (v - 1) (c / 27)) r && (lane_at s t (c % 3) r && (lane_at s u (c / 3 % 3) r && lane_at s v (c / 9 % 3) r)))
  three c r =
      let a : bit (matching s all i j n c) r ≡ (bit (matching s all i j (t - 1) (c / 3)) r && lane_at s t (c % 3) r) = rw et (matching_bit i j s all n c r) in
      let b : bit (matching s all i j (t - 1) (c / 3)) r ≡ (bit (matching s all i j (u - 1) (c / 3 / 3)) r && lane_at s u (c / 3 % 3) r) =
      rw eu (matching_bit i j s all (t - 1) (c / 3) r) in
      let d : bit (matching s all i j (u - 1) (c / 3 / 3)) r
      ≡ (bit (matching s all i j (v - 1) (c / 3 / 3 / 3)) r && lane_at s v (c / 3 / 3 % 3) r) = rw ev (matching_bit i j s all (u - 1) (c / 3 / 3) r) in
      let p : c / 3 / 3 / 3 ≡ c / 27 = omega arith in
      let q : c / 3 / 3 ≡ c / 9 = omega arith in
      a ∙ rw (b, d, p, q) (regroup (bit (matching s all i j (v - 1) (c / 27)) r) (lane_at s v (c / 9 % 3) r) (lane_at s u (c / 3 % 3) r)
      (lane_at s t (c % 3) r))

  lane_of : (c r : ℕ) → r < m → bit (lane_rows g (c % 27)) r ≡ (lane_at s t (c % 3) r && (lane_at s u (c / 3 % 3) r && lane_at s v (c / 9 % 3) r))
  lane_of c r lr =
      let p : c % 27 % 3 ≡ c % 3 = omega arith in
      let q : c % 27 / 3 % 3 ≡ c / 3 % 3 = low_same (c % 27 / 3) (c / 3) (c / 27) (omega arith) in
      let w : c % 27 / 9 ≡ c / 9 % 3 = sym (last_of (c / 9) (c / 27) (c % 27 / 9) (omega arith) (omega arith)) in
      row_in g r (c % 27) (omega arith) ∙ (rw (p, q, w) at ((h.row r lr).at (c % 27) (omega arith)))

  split : (c : ℕ) → matching s all i j n c ≡ bit_and (matching s all i j (v - 1) (c / 27)) (lane_rows g (c % 27))
  split c = bit_ext _ _ (λ r. ⊎_elim
      (λ (l : r < m). three c r ∙ rw (← lane_of c r l) (sym (bit_and_lem (matching s all i j (v - 1) (c / 27)) (lane_rows g (c % 27)) r)))
      (λ (l : m ≤ r). matching_past i j s all n c r (few r l)
      ∙ sym (bit_and_lem (matching s all i j (v - 1) (c / 27)) (lane_rows g (c % 27)) r ∙ rw (matching_past i j s all (v - 1) (c / 27) r (few r l))))
      (lt_or_ge r m))

module _ (t : Table) (memo : Memo) (i j : ℕ) (M : MemoOf t memo) (li : i < memo.inputs) (lj : j < memo.inputs) where
  abbrev s : List (List ℕ)
  s = memo.cells

  abbrev all : ℕ
  all = memo.all

  abbrev n : ℕ
  n = memo.inputs

  abbrev m : ℕ
  m = memo.rows

  pub pair_by : (p q w : ℕ) (g : List ℕ) (b : Bool) → p ≡ top_of i j n → q ≡ top_of i j (p - 1) → w ≡ top_of i j (q - 1) → Lanes s p q w m g →
      OuterTell memo g i j (w - 1) all b → Tells t i j b
  unfolding all_rows
  pair_by p q w g b ep eq ew lanes a = record {
    sound = λ y. record {
      at = λ v.
          let c = squeeze i j n v in
          let r = rw (← (others_matching s all i j n v ∙ parts c)) at (((a.sound y).at (c / 27)).at t (c % 27) (omega arith) (given_of t memo i j M li lj)) in
          rw (M.cells_are, M.all_are, M.inputs_are) at r;
    };
    whole = λ y. a.whole t (given_of t memo i j M li lj) (λ c l lt.
        rw (others_wide s all i j n (c * 27 + l), lane_parts c l lt) at (vector y (widen i j n (c * 27 + l))));
  }
    where
      few : (r : ℕ) → m ≤ r → bit all r ≡ false
      few r l = rw M.all_are (bit_past (λ (i : ℕ). true) (length t.rows) r (rw M.rows_are at l))

      parts : (c : ℕ) → matching s all i j n c ≡ bit_and (matching s all i j (w - 1) (c / 27)) (lane_rows g (c % 27))
      parts c = split s all i j n p q w m g ep eq ew (rw M.rows_are M.small.rows) few lanes c

      vector : PairAgrees t i j → (v : ℕ) → Agree t s i j (others_of s all i j n v)
      vector y v = rw (M.cells_are, M.all_are, M.inputs_are) (y.at v)

      lane_parts : (c l : ℕ) → l < 27 → matching s all i j n (c * 27 + l) ≡ bit_and (matching s all i j (w - 1) c) (lane_rows g l)
      lane_parts c l lt =
          let x : (c * 27 + l) / 27 ≡ c = omega arith in
          let y : (c * 27 + l) % 27 ≡ l = omega arith in
          rw (x, y) at (parts (c * 27 + l))
