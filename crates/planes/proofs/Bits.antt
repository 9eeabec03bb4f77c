-- Words as sets. Assumes nothing.
use Prim.Native.Nat.{ℕ, zero, suc, ◌+◌, ◌-◌, ◌*◌, ◌/◌, ◌%◌, ◌^◌, ◌<◌, ◌≤◌, min, max}
use mathlib.Core.Path.{◌≡◌, refl, sym, ap, ◌∙◌}
use mathlib.Core.Bool.{Bool, true, false, cond, ◌&&◌, ◌||◌, xor}
use native.Mathlib.Nat.{pow-suc, div-div-eq-div-mul, div-one, mul_comm}
use native.Mathlib.Omega.{arith}
use lib.Bits.{bit_and, bit_or, bit_xor, differ, and_step, or_step, xor_step, and_mask}
use lib.Count.{count_trailing_zeros, under}
use lib.Dec.{eqb}
use borrow.Author.Tests.{eq-eqb, ne_eqb}
use Rattle.base.proofs.Bools.{clash}
use Rattle.symbol.specs.Masks.{mask_from, mask_of}
use Rattle.planes.specs.Words.{bit}

-- a digit is 0 or 1
data Digit : ℕ → Type 0 where
  off : Digit 0
  on : Digit 1

digit : (d : ℕ) → d < 2 → Digit d
digit zero h = off
digit (suc zero) h = on
digit (suc (suc d)) h = absurd (omega arith)

low_digit : (m : ℕ) → Digit (m % 2)
low_digit m = digit (m % 2) (omega arith)

min_digit : {x y : ℕ} → Digit x → Digit y → (eqb (min x y) 1 ≡ (eqb x 1 && eqb y 1)) × (min x y < 2)
min_digit off off = (refl, omega arith)
min_digit off on = (refl, omega arith)
min_digit on off = (refl, omega arith)
min_digit on on = (refl, omega arith)

max_digit : {x y : ℕ} → Digit x → Digit y → (eqb (max x y) 1 ≡ (eqb x 1 || eqb y 1)) × (max x y < 2)
max_digit off off = (refl, omega arith)
max_digit off on = (refl, omega arith)
max_digit on off = (refl, omega arith)
max_digit on on = (refl, omega arith)

differ_digit : {x y : ℕ} → Digit x → Digit y → (eqb (differ x y) 1 ≡ xor (eqb x 1) (eqb y 1)) × (differ x y < 2)
unfolding xor
differ_digit off off = (refl, omega arith)
differ_digit off on = (refl, omega arith)
differ_digit on off = (refl, omega arith)
differ_digit on on = (refl, omega arith)

-- a number with a lowest digit put below it
module _ (x y d : ℕ) (h : d < 2) (e : y ≡ x * 2 + d) where
  half_is : y / 2 ≡ x
  half_is = omega arith

  low_is : y % 2 ≡ d
  low_is = omega arith

pub bit_and_lem : (a b k : ℕ) → bit (bit_and a b) k ≡ (bit a k && bit b k)
unfolding bit
bit_and_lem a b zero =
    let d = min_digit (low_digit a) (low_digit b) in
    ap (λ (m : ℕ). eqb m 1) (low_is (bit_and (a / 2) (b / 2)) (bit_and a b) (min (a % 2) (b % 2)) d.1 (and_step a b)) ∙ d.0
bit_and_lem a b (suc k) =
    let d = min_digit (low_digit a) (low_digit b) in
    ap (λ (m : ℕ). bit m k) (half_is (bit_and (a / 2) (b / 2)) (bit_and a b) (min (a % 2) (b % 2)) d.1 (and_step a b)) ∙ bit_and_lem (a / 2) (b / 2) k

pub bit_or_lem : (a b k : ℕ) → bit (bit_or a b) k ≡ (bit a k || bit b k)
unfolding bit
bit_or_lem a b zero =
    let d = max_digit (low_digit a) (low_digit b) in
    ap (λ (m : ℕ). eqb m 1) (low_is (bit_or (a / 2) (b / 2)) (bit_or a b) (max (a % 2) (b % 2)) d.1 (or_step a b)) ∙ d.0
bit_or_lem a b (suc k) =
    let d = max_digit (low_digit a) (low_digit b) in
    ap (λ (m : ℕ). bit m k) (half_is (bit_or (a / 2) (b / 2)) (bit_or a b) (max (a % 2) (b % 2)) d.1 (or_step a b)) ∙ bit_or_lem (a / 2) (b / 2) k

pub bit_xor_lem : (a b k : ℕ) → bit (bit_xor a b) k ≡ xor (bit a k) (bit b k)
unfolding bit
bit_xor_lem a b zero =
    let d = differ_digit (low_digit a) (low_digit b) in
    ap (λ (m : ℕ). eqb m 1) (low_is (bit_xor (a / 2) (b / 2)) (bit_xor a b) (differ (a % 2) (b % 2)) d.1 (xor_step a b)) ∙ d.0
bit_xor_lem a b (suc k) =
    let d = differ_digit (low_digit a) (low_digit b) in
    ap (λ (m : ℕ). bit m k) (half_is (bit_xor (a / 2) (b / 2)) (bit_xor a b) (differ (a % 2) (b % 2)) d.1 (xor_step a b)) ∙ bit_xor_lem (a / 2) (b / 2) k

pub bit_zero : (k : ℕ) → bit 0 k ≡ false
unfolding bit
bit_zero zero = refl
bit_zero (suc k) = bit_zero k

-- sets with the same numbers in them
same_digit : {x y : ℕ} → Digit x → Digit y → eqb x 1 ≡ eqb y 1 → x ≡ y
same_digit off off e = refl
same_digit off on e = clash (sym e)
same_digit on off e = clash e
same_digit on on e = refl

ext_below : (n a b : ℕ) → a ≤ n → b ≤ n → ((k : ℕ) → bit a k ≡ bit b k) → a ≡ b
unfolding bit
ext_below zero a b h l e = omega arith
ext_below (suc n) a b h l e =
    let p : a / 2 ≡ b / 2 = ext_below n (a / 2) (b / 2) (omega arith) (omega arith) (λ k. e (suc k)) in
    let q : a % 2 ≡ b % 2 = same_digit (low_digit a) (low_digit b) (e 0) in
    omega arith

pub bit_ext : (a b : ℕ) → ((k : ℕ) → bit a k ≡ bit b k) → a ≡ b
bit_ext a b e = ext_below (a + b) a b (omega arith) (omega arith) e

-- the numbers of a mask
digit_of_lem : (b : Bool) → (cond b 1 0 < 2) × (eqb (cond b 1 0) 1 ≡ b)
digit_of_lem true = (omega arith, refl)
digit_of_lem false = (omega arith, refl)

from_bit : (f : ℕ → Bool) (i m k : ℕ) → k < m → bit (mask_from f i m) k ≡ f (i + k)
unfolding bit mask_from
from_bit f i zero k h = absurd (omega arith)
from_bit f i (suc m) zero h =
    let d = digit_of_lem (f i) in
    ap (λ (x : ℕ). eqb x 1) (low_is (mask_from f (suc i) m) _ (cond (f i) 1 0) d.0 refl) ∙ d.1 ∙ ap f (omega arith)
from_bit f i (suc m) (suc k) h =
    let d = digit_of_lem (f i) in
    ap (λ (x : ℕ). bit x k) (half_is (mask_from f (suc i) m) _ (cond (f i) 1 0) d.0 refl) ∙ from_bit f (suc i) m k (omega arith) ∙ ap f (omega arith)

past_bit : (f : ℕ → Bool) (i m k : ℕ) → m ≤ k → bit (mask_from f i m) k ≡ false
unfolding bit mask_from
past_bit f i zero k h = bit_zero k
past_bit f i (suc m) zero h = absurd (omega arith)
past_bit f i (suc m) (suc k) h =
    let d = digit_of_lem (f i) in
    ap (λ (x : ℕ). bit x k) (half_is (mask_from f (suc i) m) _ (cond (f i) 1 0) d.0 refl) ∙ past_bit f (suc i) m k (omega arith)

pub bit_mask : (f : ℕ → Bool) (n k : ℕ) → k < n → bit (mask_of n f) k ≡ f k
unfolding mask_of
bit_mask f n k h = from_bit f 0 n k h ∙ ap f (omega arith)

pub bit_past : (f : ℕ → Bool) (n k : ℕ) → n ≤ k → bit (mask_of n f) k ≡ false
unfolding mask_of
bit_past f n k h = past_bit f 0 n k h

-- the lowest number of a set
lowest_step : (m t : ℕ) {d : ℕ} → Digit d → m % 2 ≡ d → 0 < m → (0 < m / 2 → bit (m / 2) t ≡ true) → bit m (under d t) ≡ true
unfolding bit
lowest_step m t off e h go = go (omega arith)
lowest_step m t on e h go = rw e

pub lowest_in : (w m : ℕ) → 0 < m → m < 2 ^ w → bit m (count_trailing_zeros w m) ≡ true
unfolding count_trailing_zeros
lowest_in zero m h l = absurd (omega arith)
lowest_in (suc w) m h l =
    lowest_step m (count_trailing_zeros w (m / 2)) (low_digit m) refl h (λ p. lowest_in w (m / 2) p (omega (arith, pow-suc 2 w)))

below_step : (w m t : ℕ) {d : ℕ} → Digit d → m % 2 ≡ d → 0 < m → (0 < m / 2 → t < w) → under d t < suc w
below_step w m t off e h go = omega (arith, go (omega arith))
below_step w m t on e h go = omega arith

pub lowest_lt : (w m : ℕ) → 0 < m → m < 2 ^ w → count_trailing_zeros w m < w
unfolding count_trailing_zeros
lowest_lt zero m h l = absurd (omega arith)
lowest_lt (suc w) m h l =
    below_step w m (count_trailing_zeros w (m / 2)) (low_digit m) refl h (λ p. lowest_lt w (m / 2) p (omega (arith, pow-suc 2 w)))

none_first : (m t : ℕ) {d : ℕ} → Digit d → m % 2 ≡ d → 0 < under d t → bit m 0 ≡ false
unfolding bit
none_first m t off e h = rw e
none_first m t on e h = absurd (omega arith)

none_step : (m t k : ℕ) {d : ℕ} → Digit d → m % 2 ≡ d → suc k < under d t → (k < t → bit (m / 2) k ≡ false) → bit m (suc k) ≡ false
unfolding bit
none_step m t k off e h go = go (omega arith)
none_step m t k on e h go = absurd (omega arith)

pub below_lowest : (w m k : ℕ) → k < count_trailing_zeros w m → bit m k ≡ false
unfolding count_trailing_zeros
below_lowest zero m k h = absurd (omega arith)
below_lowest (suc w) m zero h = none_first m (count_trailing_zeros w (m / 2)) (low_digit m) refl h
below_lowest (suc w) m (suc k) h =
    none_step m (count_trailing_zeros w (m / 2)) k (low_digit m) refl h (λ p. below_lowest w (m / 2) k p)

is_first : (m t : ℕ) {d : ℕ} → Digit d → m % 2 ≡ d → bit m 0 ≡ true → under d t ≡ 0
unfolding bit
is_first m t off e h = clash (sym h ∙ rw e)
is_first m t on e h = refl

is_step : (m t r : ℕ) {d : ℕ} → Digit d → m % 2 ≡ d → bit m 0 ≡ false → t ≡ r → under d t ≡ suc r
unfolding bit
is_step m t r off e h go = ap suc go
is_step m t r on e h go = clash (let z : bit m 0 ≡ true = rw e in sym z ∙ h)

pub lowest_is : (w m r : ℕ) → r < w → bit m r ≡ true → ((k : ℕ) → k < r → bit m k ≡ false) → count_trailing_zeros w m ≡ r
unfolding count_trailing_zeros bit
lowest_is zero m r h e n = absurd (omega arith)
lowest_is (suc w) m zero h e n = is_first m (count_trailing_zeros w (m / 2)) (low_digit m) refl e
lowest_is (suc w) m (suc r) h e n =
    is_step m (count_trailing_zeros w (m / 2)) r (low_digit m) refl (n 0 (omega arith)) (lowest_is w (m / 2) r (omega arith) e (λ k l. n (suc k) (omega arith)))

-- the set without its lowest number
twice : (b : Bool) → (b && b) ≡ b
twice true = refl
twice false = refl

clear_step : (m k t : ℕ) {d : ℕ} → Digit d → m % 2 ≡ d → 0 < m → (k ≡ under d t → ⊥) →
    ((q : ℕ) → 0 < m / 2 → (q ≡ t → ⊥) → (bit (m / 2) q && bit (m / 2 - 1) q) ≡ bit (m / 2) q) → (bit m k && bit (m - 1) k) ≡ bit m k
unfolding bit
clear_step m zero t off e h n go = rw e
clear_step m zero t on e h n go = absurd (n refl)
clear_step m (suc k) t off e h n go =
    let p : (m - 1) / 2 ≡ m / 2 - 1 = omega arith in
    rw p (go k (omega arith) (λ q. n (ap suc q)))
clear_step m (suc k) t on e h n go = let p : (m - 1) / 2 ≡ m / 2 = omega arith in rw p (twice (bit (m / 2) k))

clear_both : (w m k : ℕ) → 0 < m → m < 2 ^ w → (k ≡ count_trailing_zeros w m → ⊥) → (bit m k && bit (m - 1) k) ≡ bit m k
unfolding count_trailing_zeros
clear_both zero m k h l e = absurd (omega arith)
clear_both (suc w) m k h l e =
    clear_step m k (count_trailing_zeros w (m / 2)) (low_digit m) refl h e (λ q p n. clear_both w (m / 2) q p (omega (arith, pow-suc 2 w)) n)

pub clear_lowest : (w m k : ℕ) → 0 < m → m < 2 ^ w → (k ≡ count_trailing_zeros w m → ⊥) → bit (bit_and m (m - 1)) k ≡ bit m k
clear_lowest w m k h l e = bit_and_lem m (m - 1) k ∙ clear_both w m k h l e

-- one number of a set, by a shift
pub bit_shift : (m r : ℕ) → bit m r ≡ eqb (m / 2 ^ r % 2) 1
unfolding bit
bit_shift m zero = ap (λ (x : ℕ). eqb (x % 2) 1) (sym (div-one m))
bit_shift m (suc r) = bit_shift (m / 2) r ∙ ap (λ (x : ℕ). eqb (x % 2) 1)
    (div-div-eq-div-mul m 2 (2 ^ r) ∙ ap (λ (x : ℕ). m / x) (mul_comm 2 (2 ^ r) ∙ sym (pow-suc 2 r)))

-- the test of a shifted word
shifted : (m r : ℕ) → bit m r ≡ eqb (bit_and (m / 2 ^ r) 1) 1
shifted m r = bit_shift m r ∙ ap (λ (x : ℕ). eqb x 1) (sym (and_mask (m / 2 ^ r) 1))

pub shift_in : (m r p : ℕ) → bit_and (m / 2 ^ r) 1 ≡ 1 → p ≡ cond (bit m r) p 0
shift_in m r p e = let z : bit m r ≡ true = shifted m r ∙ eq-eqb (bit_and (m / 2 ^ r) 1) 1 e in rw z

pub shift_out : (m r p : ℕ) → (bit_and (m / 2 ^ r) 1 ≡ 1 → ⊥) → 0 ≡ cond (bit m r) p 0
shift_out m r p e = let z : bit m r ≡ false = shifted m r ∙ ne_eqb (bit_and (m / 2 ^ r) 1) 1 e in rw z
