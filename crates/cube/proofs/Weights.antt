-- The digits of a lane. Assumes nothing.
use Prim.Native.Nat.{ℕ, zero, suc, ◌+◌, ◌-◌, ◌*◌, ◌/◌, ◌%◌, ◌^◌, ◌<◌, ◌≤◌}
use mathlib.Core.Path.{◌≡◌, refl, sym, ap, ◌∙◌}
use mathlib.Core.Bool.{Bool, true, cond, ◌&&◌}
use mathlib.Core.List.{List, [], ◌∷◌}
use native.Mathlib.Nat.{mul-one, mul-zero, add-zero}
use native.Mathlib.Omega.{arith}
use lib.Bits.{bit_and, bit_or}
use lib.Dec.{eqb}
use lib.ListN.{get_or}
use Rattle.base.specs.Search.{every}
use Rattle.memo.specs.Rows.{cell_at}
use Rattle.planes.specs.Words.{bit, Told}
use Rattle.planes.proofs.Bits.{bit_or_lem}
use Rattle.exchange.proofs.Composed.{picks}
use Rattle.exchange.proofs.Patterns.{digit_words, same, pattern}
use Rattle.cube.specs.declared.Digit.{Digit}
use Rattle.cube.specs.declared.Digit.TheVariants.{One, Three, Nine}
use Rattle.cube.specs.Lanes.{weight_of, Zeros, put_by, Copied, Moved, ColumnLanes}
use Rattle.cube.proofs.Shifts.{up_and, down_bit, cut_bit}

-- ---- what holds of every weight

pub weight_low : (g : Digit) (w : ℕ) → w ≡ weight_of g → (w ≤ 9) × (0 < w)
weight_low One w e = rw e (omega arith, omega arith)
weight_low Three w e = rw e (omega arith, omega arith)
weight_low Nine w e = rw e (omega arith, omega arith)

pub times_low : (g : Digit) (w d : ℕ) → w ≡ weight_of g → d < 3 → w * d < 32
times_low One w d e h = rw e (omega arith)
times_low Three w d e h = rw e (omega arith)
times_low Nine w d e h = rw e (omega arith)

put_low : (g : Digit) (d l : ℕ) → d < 3 → l < 27 → put_by (weight_of g) d l < 27
put_low One d l h k = omega arith
put_low Three d l h k = omega arith
put_low Nine d l h k = omega arith

-- ---- the lanes of a digit

zeros_by : (w z : ℕ) →
    every 27 (λ (l : ℕ). same (bit (z * 2 ^ (w * 0)) l) (eqb (l / w % 3) 0)) ≡ true →
    every 27 (λ (l : ℕ). same (bit (z * 2 ^ (w * 1)) l) (eqb (l / w % 3) 1)) ≡ true →
    every 27 (λ (l : ℕ). same (bit (z * 2 ^ (w * 2)) l) (eqb (l / w % 3) 2)) ≡ true → Zeros w z
zeros_by w z p q r = record { at = go }
  where
    go : (d l : ℕ) → d < 3 → l < 27 → bit (z * 2 ^ (w * d)) l ≡ eqb (l / w % 3) d
    go zero l h k = pattern (z * 2 ^ (w * 0)) 0 (λ (l : ℕ). l / w % 3) p l k
    go (suc zero) l h k = pattern (z * 2 ^ (w * 1)) 1 (λ (l : ℕ). l / w % 3) q l k
    go (suc (suc zero)) l h k = pattern (z * 2 ^ (w * 2)) 2 (λ (l : ℕ). l / w % 3) r l k
    go (suc (suc (suc d))) l h k = absurd (omega arith)

pub zeros_one : Zeros 1 19173961
unfolding every same bit
zeros_one = zeros_by 1 19173961 refl refl refl

pub zeros_three : Zeros 3 1838599
unfolding every same bit
zeros_three = zeros_by 3 1838599 refl refl refl

pub zeros_nine : Zeros 9 511
unfolding every same bit
zeros_nine = zeros_by 9 511 refl refl refl

-- the words as the code shifts them
module _ (w z : ℕ) (h : Zeros w z) (l : ℕ) (lt : l < 27) where
  pub first_digit : bit z l ≡ eqb (l / w % 3) 0
  first_digit = rw (mul-zero w, mul-one z) at (h.at 0 l (omega arith) lt)

  pub second_digit : bit (z * 2 ^ w % 2 ^ 32) l ≡ eqb (l / w % 3) 1
  second_digit = cut_bit (z * 2 ^ w) l lt ∙ (rw (mul-one w) at (h.at 1 l (omega arith) lt))

  pub third_digit : bit (z * 2 ^ (w + w) % 2 ^ 32) l ≡ eqb (l / w % 3) 2
  third_digit = let e : w * 2 ≡ w + w = omega arith in cut_bit (z * 2 ^ (w + w)) l lt ∙ (rw e at (h.at 2 l (omega arith) lt))

pub column_by : (s : List (List ℕ)) (k w c r z p q v : ℕ) → Zeros w z →
    p ≡ cond (bit (cell_at s k c) r) z 0 → q ≡ cond (bit (cell_at s k (c + 1)) r) (z * 2 ^ w % 2 ^ 32) 0 →
    v ≡ cond (bit (cell_at s k (c + 2)) r) (z * 2 ^ (w + w) % 2 ^ 32) 0 →
    ColumnLanes s k w c r (bit_or p (bit_or q v))
column_by s k w c r z p q v h ep eq ev = record {
  at = λ l lt.
      let e : p ≡ cond (bit (cell_at s k (c + 0)) r) z 0 = rw (add-zero c) ep in
      rw (e, eq, ev)
      (digit_words (λ (d : ℕ). bit (cell_at s k (c + d)) r) z (z * 2 ^ w % 2 ^ 32) (z * 2 ^ (w + w) % 2 ^ 32) (l / w % 3) l (omega arith)
      (first_digit w z h l lt) (second_digit w z h l lt) (third_digit w z h l lt));
}

-- ---- a digit that is replaced

module _ (p w d z : ℕ) (h : Zeros w z) (l : ℕ) (lt : l < 27) where
  abbrev q : ℕ
  q = bit_and z (p / 2 ^ (w * d))

  abbrev from : ℕ → Bool
  from k = bit (p / 2 ^ (w * d)) (l - w * k)

  term : (k : ℕ) → k < 3 → bit (q * 2 ^ (w * k)) l ≡ (eqb (l / w % 3) k && from k)
  term k lk = up_and z (p / 2 ^ (w * d)) (w * k) l ∙ rw (h.at k l lk lt)

  first_term : bit q l ≡ (eqb (l / w % 3) 0 && from 0)
  first_term = let t : bit (q * 2 ^ (w * 0)) l ≡ (eqb (l / w % 3) 0 && from 0) = term 0 (omega arith) in
      ap (λ (x : ℕ). bit x l) (sym (rw (mul-zero w) (mul-one q))) ∙ t

  second_term : bit (q * 2 ^ w % 2 ^ 32) l ≡ (eqb (l / w % 3) 1 && from 1)
  second_term = cut_bit (q * 2 ^ w) l lt ∙ ap (λ (x : ℕ). bit (q * 2 ^ x) l) (sym (mul-one w)) ∙ term 1 (omega arith)

  third_term : bit (q * 2 ^ (w + w) % 2 ^ 32) l ≡ (eqb (l / w % 3) 2 && from 2)
  third_term = let e : w + w ≡ w * 2 = omega arith in cut_bit (q * 2 ^ (w + w)) l lt ∙ ap (λ (x : ℕ). bit (q * 2 ^ x) l) e ∙ term 2 (omega arith)

  copied_at : bit (bit_or q (bit_or (q * 2 ^ w % 2 ^ 32) (q * 2 ^ (w + w) % 2 ^ 32))) l ≡ bit p (put_by w d l)
  copied_at =
      bit_or_lem q (bit_or (q * 2 ^ w % 2 ^ 32) (q * 2 ^ (w + w) % 2 ^ 32)) l
      ∙ rw (bit_or_lem (q * 2 ^ w % 2 ^ 32) (q * 2 ^ (w + w) % 2 ^ 32) l, first_term, second_term, third_term)
      (picks (l / w % 3) from (omega arith) ∙ down_bit p (w * d) (l - w * (l / w % 3)))

pub copied_by : (p w d z q : ℕ) → Zeros w z → q ≡ bit_and z (p / 2 ^ (w * d)) → Copied p w d (bit_or q (bit_or (q * 2 ^ w % 2 ^ 32) (q * 2 ^ (w + w) % 2 ^ 32)))
copied_by p w d z q h e = record { at = λ l lt. rw e (copied_at p w d z h l lt) }

pub moved_by : (p : List ℕ) (h : Digit) (d a b c : ℕ) → d < 3 → Copied (get_or p 0 0) (weight_of h) d a → Copied (get_or p 1 0) (weight_of h) d b →
    Copied (get_or p 2 0) (weight_of h) d c →
    Moved p (weight_of h) d (a ∷ b ∷ c ∷ [])
moved_by p h d a b c hd ca cb cc' = record { told = λ f t. record { at = λ m l lm lt. go f t m l lm lt } }
  where
    go : (f : ℕ → ℕ) → Told 3 p f → (m l : ℕ) → m < 3 → l < 27 → bit (get_or (a ∷ b ∷ c ∷ []) m 0) l ≡ eqb (f (put_by (weight_of h) d l)) m
    go f t zero l lm lt = ca.at l lt ∙ t.at 0 (put_by (weight_of h) d l) lm (put_low h d l hd lt)
    go f t (suc zero) l lm lt = cb.at l lt ∙ t.at 1 (put_by (weight_of h) d l) lm (put_low h d l hd lt)
    go f t (suc (suc zero)) l lm lt = cc'.at l lt ∙ t.at 2 (put_by (weight_of h) d l) lm (put_low h d l hd lt)
    go f t (suc (suc (suc m))) l lm lt = absurd (omega arith)
