-- What is the same in every lane is the same for every vector. Assumes nothing.
use Prim.Native.Nat.{ℕ, zero, suc, ◌+◌, ◌-◌, ◌*◌, ◌/◌, ◌%◌, ◌^◌, ◌<◌, ◌≤◌}
use mathlib.Core.Path.{◌≡◌, refl, sym, ap, ◌∙◌}
use mathlib.Core.Bool.{Bool, true, or-true}
use mathlib.Core.List.{List}
use mathlib.Core.Logic.{◌≢◌}
use native.Mathlib.Nat.{mul_comm}
use native.Mathlib.Omega.{arith}
use lib.Bits.{bit_and}
use lib.Dec.{eqb}
use borrow.Author.Tests.{eqb-true, eq-eqb}
use Rattle.base.specs.Search.{every}
use Rattle.base.proofs.Search.{every_at, every_of}
use Rattle.table.specs.Table.{Table}
use Rattle.orders.specs.Digits.{digit_of, put_digit}
use Rattle.orders.proofs.Digits.{digit_is, digit_low, digit_le, put_is, put_lt}
use Rattle.memo.specs.declared.Memo.{Memo}
use Rattle.memo.specs.Memo.{MemoOf}
use Rattle.memo.specs.Rows.{cell_at, rest_of}
use Rattle.memo.specs.Pair.{others_of, first_then, second_then}
use Rattle.memo.proofs.Others.{others_comm, others_put, rest_others, digit_same, digit_other}
use Rattle.exchange.specs.Lanes.{Agree}
use Rattle.exchange.specs.Pairs.{Tells}
use Rattle.planes.proofs.Planes.{last_of}
use Rattle.cube.specs.Lanes.{put_by}
use Rattle.cube.specs.Steps.{step_in, Steps, same_in, Same}

-- ---- the lanes of a vector

put_by_lem : (w p d l : ℕ) → w ≡ 3 ^ p → put_by w d l ≡ put_digit d p l
put_by_lem w p d l e = rw (e, ← digit_is l p, mul_comm (3 ^ p) (digit_of l p), mul_comm (3 ^ p) d) (omega (arith, digit_le p l, put_is d p l))

-- only the digits of the columns count
others_same : (s : List (List ℕ)) (all i j k v w : ℕ) → ((p : ℕ) → p < k → digit_of v p ≡ digit_of w p) → others_of s all i j k v ≡ others_of s all i j k w
unfolding others_of digit_of
others_same s all i j zero v w h = refl
others_same s all i j (suc k) v w h =
    let e : v % 3 ≡ w % 3 = h 0 (omega arith) in
    rw (e, others_same s all i j k (v / 3) (w / 3) (λ p l. h (suc p) (omega arith)))

low_digits : (v p : ℕ) → p < 3 → digit_of (v % 27) p ≡ digit_of v p
unfolding digit_of
low_digits v zero h = omega arith
low_digits v (suc zero) h = last_of (v % 27 / 3) (v % 27 / 9) (v / 3 % 3) (omega arith) (omega arith)
low_digits v (suc (suc zero)) h = last_of (v % 27 / 3 / 3) 0 (v / 3 / 3 % 3) (omega arith) (omega arith)
low_digits v (suc (suc (suc p))) h = absurd (omega arith)

module _ (t : Table) (memo : Memo) where
  abbrev s : List (List ℕ)
  s = memo.cells

  abbrev all : ℕ
  all = memo.all

  abbrev n : ℕ
  n = memo.inputs

  -- one column steps while the other still has its old value, and then the other
  one_way : (i j : ℕ) → i < n → j < n → i ≢ j → (a b o l : ℕ) → b < 3 →
      step_in t memo j b (step_in t memo i a o (put_digit b (n - suc j) l)) l
      ≡ first_then t s i j (others_of s all i j n l) a b (digit_of l (n - suc i)) (digit_of l (n - suc j)) o
  unfolding first_then
  one_way i j li lj ne a b o l lb =
      let first : rest_of s all i n (put_digit b (n - suc j) l) ≡ bit_and (others_of s all i j n l) (cell_at s j b) =
      rest_others s all i j n (put_digit b (n - suc j) l) ne lj
      ∙ rw (others_put s all i j j n l b (rw (eq-eqb j j refl) (or-true (eqb j i))) lb lj, digit_same b (n - suc j) l lb) in
      let then : rest_of s all j n l ≡ bit_and (others_of s all i j n l) (cell_at s i (digit_of l (n - suc i))) =
      rest_others s all j i n l (λ e. ne (sym e)) li ∙ rw (others_comm s all j i n l) in
      rw (first, then, digit_other b (n - suc j) (n - suc i) l lb (λ e. ne (omega arith)))

  turned : (i j rest a b x y o : ℕ) → first_then t s j i rest b a y x o ≡ second_then t s i j rest a b x y o
  unfolding first_then second_then
  turned i j rest a b x y o = refl

  module _ (i j v w : ℕ) (li : i < n) (lj : j < n) (ne : i ≢ j) (ev : v ≡ 3 ^ (n - suc i)) (ew : w ≡ 3 ^ (n - suc j)) where
    same_is : (a b o l : ℕ) → a < 3 → b < 3 →
        same_in (step_in t memo i) (step_in t memo j) v w a b o l
        ≡ eqb (first_then t s i j (others_of s all i j n l) a b (digit_of l (n - suc i)) (digit_of l (n - suc j)) o)
        (second_then t s i j (others_of s all i j n l) a b (digit_of l (n - suc i)) (digit_of l (n - suc j)) o)
    unfolding same_in
    same_is a b o l la lb =
        rw (
          put_by_lem w (n - suc j) b l ew,
          put_by_lem v (n - suc i) a l ev,
          one_way i j li lj ne a b o l lb,
          one_way j i lj li (λ e. ne (sym e)) b a o l la,
          others_comm s all j i n l,
        )
        (ap (eqb (first_then t s i j (others_of s all i j n l) a b (digit_of l (n - suc i)) (digit_of l (n - suc j)) o))
        (turned i j (others_of s all i j n l) a b (digit_of l (n - suc i)) (digit_of l (n - suc j)) o))

    module _ (r : Bool) (ln : n ≤ 3)
        (e : r ≡ every 27 (λ (k : ℕ). every 27 (same_in (step_in t memo i) (step_in t memo j) v w (k / 9) (k / 3 % 3) (k % 3)))) where
      lane_agrees : r ≡ true → (a b o l : ℕ) → a < 3 → b < 3 → o < 3 → l < 27 →
          first_then t s i j (others_of s all i j n l) a b (digit_of l (n - suc i)) (digit_of l (n - suc j)) o
          ≡ second_then t s i j (others_of s all i j n l) a b (digit_of l (n - suc i)) (digit_of l (n - suc j)) o
      lane_agrees h a b o l la lb lo lt = go ((a * 3 + b) * 3 + o) refl
        where
          go : (k : ℕ) → k ≡ (a * 3 + b) * 3 + o →
              first_then t s i j (others_of s all i j n l) a b (digit_of l (n - suc i)) (digit_of l (n - suc j)) o
              ≡ second_then t s i j (others_of s all i j n l) a b (digit_of l (n - suc i)) (digit_of l (n - suc j)) o
          go k q =
              let ea : k / 9 ≡ a = omega arith in
              let eb : k / 3 % 3 ≡ b = last_of (k / 3) a b lb (omega arith) in
              let eo : k % 3 ≡ o = omega arith in
              let all_lanes = every_at (λ (k : ℕ). every 27 (same_in (step_in t memo i) (step_in t memo j) v w (k / 9) (k / 3 % 3) (k % 3))) 27 k
              (sym e ∙ h) (omega arith) in
              let here = every_at (same_in (step_in t memo i) (step_in t memo j) v w a b o) 27 l (rw (ea, eb, eo) at all_lanes) lt in
              eqb-true _ _ (sym (same_is a b o l la lb) ∙ here)

      -- every vector and every new value of the two columns is a lane
      sound : r ≡ true → (v : ℕ) → Agree t s i j (others_of s all i j n v)
      sound h v = record {
        same = λ a b x y o la lb lx ly lo.
            let l = put_digit y (n - suc j) (put_digit x (n - suc i) (v % 27)) in
            let lt : l < 27 = put_lt y (n - suc j) 3 (put_digit x (n - suc i) (v % 27)) ly (omega arith)
            (put_lt x (n - suc i) 3 (v % 27) lx (omega arith) (omega arith)) in
            let ex : digit_of l (n - suc i) ≡ x = digit_other y (n - suc j) (n - suc i) (put_digit x (n - suc i) (v % 27)) ly (λ q. ne (omega arith))
            ∙ digit_same x (n - suc i) (v % 27) lx in
            let ey : digit_of l (n - suc j) ≡ y = digit_same y (n - suc j) (put_digit x (n - suc i) (v % 27)) ly in
            let er : others_of s all i j n l ≡ others_of s all i j n v =
            others_put s all i j j n (put_digit x (n - suc i) (v % 27)) y (rw (eq-eqb j j refl) (or-true (eqb j i))) ly lj
            ∙ others_put s all i j i n (v % 27) x (rw (eq-eqb i i refl)) lx li
            ∙ others_same s all i j n (v % 27) v (λ p lp. low_digits v p (omega arith)) in
            rw (er, ex, ey) at (lane_agrees h a b o l la lb lo lt);
      }

      whole : ((v : ℕ) → Agree t s i j (others_of s all i j n v)) → r ≡ true
      whole h =
          e ∙ every_of _ 27 (λ k lk. every_of _ 27 (λ l lt.
          same_is (k / 9) (k / 3 % 3) (k % 3) l (omega arith) (omega arith)
          ∙ eq-eqb _ _ ((h l).same (k / 9) (k / 3 % 3) (digit_of l (n - suc i)) (digit_of l (n - suc j)) (k % 3) (omega arith) (omega arith)
          (digit_low l (n - suc i)) (digit_low l (n - suc j)) (omega arith))))

pub tells_by : (t : Table) (memo : Memo) (i j v w : ℕ) (p q : List (List ℕ)) (r : Bool) → memo.inputs ≤ 3 → i < j → j < memo.inputs → MemoOf t memo →
    Steps memo i p → Steps memo j q → v ≡ 3 ^ (memo.inputs - suc i) → w ≡ 3 ^ (memo.inputs - suc j) → Same p q v w r → Tells t i j r
tells_by t memo i j v w p q r ln lt lj M hp hq ev ew h = record {
  sound = λ y. record {
    at = λ c.
        let a = sound t memo i j v w (omega arith) lj apart ev ew r ln told y c in
        rw (M.cells_are, M.all_are, M.inputs_are) at a;
  };
  whole = λ y. whole t memo i j v w (omega arith) lj apart ev ew r ln told (λ c. rw (M.cells_are, M.all_are, M.inputs_are) (y.at c));
}
  where
    apart : i ≢ j
    apart e = omega arith

    told : r ≡ every 27 (λ (k : ℕ). every 27 (same_in (step_in t memo i) (step_in t memo j) v w (k / 9) (k / 3 % 3) (k % 3)))
    told = h.is _ _ (hp.tell t M) (hq.tell t M)
