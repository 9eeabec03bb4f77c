-- A vector's number: one value read off it, and one value put into it. Assumes nothing.
use Prim.Native.Nat.{ℕ, zero, suc, ◌+◌, ◌-◌, ◌*◌, ◌/◌, ◌%◌, ◌^◌, ◌<◌, ◌≤◌}
use mathlib.Core.Path.{◌≡◌, sym, ◌∙◌}
use mathlib.Core.Logic.{⊎_elim}
use mathlib.Core.List.{[], ◌∷◌}
use native.Mathlib.Nat.{pow-suc, mul_comm, mul_assoc, div-div-eq-div-mul, div-one, eq-or-lt_of_le, pow-le-pow_right}
use native.Mathlib.Omega.{arith}
use lib.Dec.{lit<}
use lib.ListN.{get_or, set, get_or-append}
use lib.Seq.{get_or_at, set_at, set-append_left}
use Rattle.value.specs.Value.{value_of}
use Rattle.value.specs.declared.Ternary.TheVariants.{V0}
use Rattle.orders.specs.Digits.{digit_of, put_digit}
use Rattle.orders.specs.Vectors.{at, put, vector_of}
use Rattle.orders.proofs.Candidates.{length_vector_of}

pub digit_is : (v m : ℕ) → digit_of v m ≡ v / 3 ^ m % 3
unfolding digit_of
digit_is v zero = rw (div-one v)
digit_is v (suc m) = rw (digit_is (v / 3) m, div-div-eq-div-mul v 3 (3 ^ m), pow-suc 3 m, mul_comm 3 (3 ^ m))

pub digit_low : (v m : ℕ) → digit_of v m < 3
digit_low v m = rw (digit_is v m) (omega arith)

pub power_pos : (m : ℕ) → 0 < 3 ^ m
power_pos zero = omega arith
power_pos (suc m) = rw (pow-suc 3 m) (omega (arith, power_pos m))

pub power_le : (m k : ℕ) → m ≤ k → 3 ^ m ≤ 3 ^ k
power_le m k h = pow-le-pow_right {n = 3} (lit< tt) {i = m} {j = k} h

thrice : (a w : ℕ) → a * (w * 3) ≡ a * w * 3
thrice a w = sym (mul_assoc a w 3)

put_sum : (x m v : ℕ) → put_digit x m v + digit_of v m * 3 ^ m ≡ v + x * 3 ^ m
unfolding digit_of put_digit
put_sum x zero v = omega arith
put_sum x (suc m) v = rw (pow-suc 3 m, thrice (digit_of (v / 3) m) (3 ^ m), thrice x (3 ^ m)) (omega (arith, put_sum x m (v / 3)))

-- how code replaces a digit
pub put_is : (x m v : ℕ) → v + x * 3 ^ m - digit_of v m * 3 ^ m ≡ put_digit x m v
put_is x m v = omega (arith, put_sum x m v)

pub digit_le : (m v : ℕ) → digit_of v m * 3 ^ m ≤ v
digit_le m v = omega (arith, put_sum 0 m v)

pub put_lt : (x m n v : ℕ) → x < 3 → m < n → v < 3 ^ n → put_digit x m v < 3 ^ n
unfolding put_digit
put_lt x m zero v h l b = absurd (omega arith)
put_lt x zero (suc n) v h l b = rw (pow-suc 3 n) (let c : v < 3 ^ n * 3 = rw (pow-suc 3 n) at b in omega arith)
put_lt x (suc m) (suc n) v h l b =
    let c : v < 3 ^ n * 3 = rw (pow-suc 3 n) at b in
    rw (pow-suc 3 n) (omega (arith, put_lt x m n (v / 3) h (omega arith) (omega arith)))

-- ---- the vector of a number, by columns

pub last_value : (n v : ℕ) → get_or (vector_of (suc n) v) n V0 ≡ value_of (v % 3)
unfolding vector_of
last_value n v = get_or_at (vector_of n (v / 3)) (value_of (v % 3)) [] V0 n (length_vector_of n (v / 3))

pub earlier_value : (n k v : ℕ) → k < n → get_or (vector_of (suc n) v) k V0 ≡ get_or (vector_of n (v / 3)) k V0
unfolding vector_of
earlier_value n k v h = get_or-append (vector_of n (v / 3)) (value_of (v % 3) ∷ []) V0 k (omega (arith, length_vector_of n (v / 3)))

column_digit : (n k v : ℕ) → k < n → get_or (vector_of n v) k V0 ≡ value_of (digit_of v (n - suc k))
unfolding digit_of
column_digit zero k v h = absurd (omega arith)
column_digit (suc n) k v h =
    ⊎_elim
    (λ (e : suc k ≡ suc n). let q : k ≡ n = omega arith in let z : suc n - suc k ≡ 0 = omega arith in rw (z, q) (last_value n v))
    (λ (l : suc k < suc n). let z : suc n - suc k ≡ suc (n - suc k) = omega arith in rw z (earlier_value n k v (omega arith) ∙ column_digit n k (v / 3) (omega arith)))
    (eq-or-lt_of_le h)

pub value_digit : (n j v : ℕ) → 1 ≤ j → j ≤ n → at (vector_of n v) j ≡ value_of (digit_of v (n - j))
value_digit n zero v a b = absurd (omega arith)
value_digit n (suc k) v a b = column_digit n k v b

column_put : (n k x v : ℕ) → x < 3 → k < n → vector_of n (put_digit x (n - suc k) v) ≡ set (vector_of n v) k (value_of x)
unfolding put_digit vector_of
column_put zero k x v h l = absurd (omega arith)
column_put (suc n) k x v h l =
    ⊎_elim
    (λ (e : suc k ≡ suc n).
    let q : k ≡ n = omega arith in
    let z : suc n - suc k ≡ 0 = omega arith in
    let a : (v / 3 * 3 + x) / 3 ≡ v / 3 = omega arith in
    let b : (v / 3 * 3 + x) % 3 ≡ x = omega arith in
    rw (z, a, b, q) (sym (set_at (vector_of n (v / 3)) (value_of (v % 3)) [] (value_of x) n (length_vector_of n (v / 3)))))
    (λ (g : suc k < suc n).
    let z : suc n - suc k ≡ suc (n - suc k) = omega arith in
    let p : ℕ = put_digit x (n - suc k) (v / 3) in
    let a : (p * 3 + v % 3) / 3 ≡ p = omega arith in
    let b : (p * 3 + v % 3) % 3 ≡ v % 3 = omega arith in
    rw (z, a, b, column_put n k x (v / 3) h (omega arith)) (sym (set-append_left (vector_of n (v / 3)) (value_of (v % 3) ∷ []) k (value_of x) (omega (arith, length_vector_of n (v / 3))))))
    (eq-or-lt_of_le l)

-- the vector of a number with one digit replaced
pub vector_put : (n j x v : ℕ) → x < 3 → 1 ≤ j → j ≤ n → vector_of n (put_digit x (n - j) v) ≡ put (vector_of n v) j (value_of x)
vector_put n zero x v h a b = absurd (omega arith)
vector_put n (suc k) x v h a b = column_put n k x v h b
