-- The rows that match in all columns but two. Assumes nothing.
use Prim.Native.Nat.{ℕ, zero, suc, ◌+◌, ◌-◌, ◌*◌, ◌/◌, ◌%◌, ◌<◌, ◌≤◌, min}
use mathlib.Core.Path.{◌≡◌, refl, sym, ap, ◌∙◌}
use mathlib.Core.Logic.{◌≢◌, ⊎_elim}
use mathlib.Core.Bool.{Bool, true, false, cond, ◌||◌}
use mathlib.Core.List.{List}
use native.Mathlib.Nat.{eq-or-lt_of_le}
use native.Mathlib.Numerals.{unary_clauses}
use native.Mathlib.Omega.{arith}
use lib.Arith.{bin_ind}
use lib.Bits.{bit_and, and_step}
use lib.Dec.{eqb}
use borrow.Author.Tests.{eq-eqb, ne_eqb}
use Rattle.orders.specs.Digits.{digit_of, put_digit}
use Rattle.memo.specs.Rows.{cell_at, rest_of}
use Rattle.memo.specs.Pair.{others_of}

-- ---- sets in any order

min_swap : (p q r : ℕ) → min (min p q) r ≡ min (min p r) q
min_swap zero q r = simp unary_clauses refl
min_swap (suc p) zero zero = simp unary_clauses refl
min_swap (suc p) zero (suc r) = simp unary_clauses refl
min_swap (suc p) (suc q) zero = simp unary_clauses refl
min_swap (suc p) (suc q) (suc r) = simp unary_clauses (ap suc (min_swap p q r))

min_low : (p q : ℕ) → p < 2 → min p q < 2
min_low zero q h = omega arith
min_low (suc zero) zero h = omega arith
min_low (suc zero) (suc q) h = omega arith
min_low (suc (suc p)) q h = absurd (omega arith)

and_half : (a b : ℕ) → bit_and a b / 2 ≡ bit_and (a / 2) (b / 2)
and_half a b = omega (arith, and_step a b, min_low (a % 2) (b % 2) (omega arith))

and_low : (a b : ℕ) → bit_and a b % 2 ≡ min (a % 2) (b % 2)
and_low a b = omega (arith, and_step a b, min_low (a % 2) (b % 2) (omega arith))

pub and_swap : (a b c : ℕ) → bit_and (bit_and a b) c ≡ bit_and (bit_and a c) b
and_swap =
    bin_ind (λ (n : ℕ). (b c : ℕ) → bit_and (bit_and n b) c ≡ bit_and (bit_and n c) b) (λ b c. refl)
    (λ n ih b c.
    and_step (bit_and n b) c
    ∙ rw (and_half n b, and_low n b, and_half n c, and_low n c, ih (b / 2) (c / 2), min_swap (n % 2) (b % 2) (c % 2)) refl
    ∙ sym (and_step (bit_and n c) b))

-- ---- digits that are replaced

pub digit_same : (x m v : ℕ) → x < 3 → digit_of (put_digit x m v) m ≡ x
unfolding digit_of put_digit
digit_same x zero v h = omega arith
digit_same x (suc m) v h =
    let a : (put_digit x m (v / 3) * 3 + v % 3) / 3 ≡ put_digit x m (v / 3) = omega arith in
    rw a (digit_same x m (v / 3) h)

pub digit_other : (x m k v : ℕ) → x < 3 → m ≢ k → digit_of (put_digit x m v) k ≡ digit_of v k
unfolding digit_of put_digit
digit_other x zero zero v h ne = absurd (ne refl)
digit_other x zero (suc k) v h ne = let a : (v / 3 * 3 + x) / 3 ≡ v / 3 = omega arith in rw a
digit_other x (suc m) zero v h ne = omega arith
digit_other x (suc m) (suc k) v h ne =
    let a : (put_digit x m (v / 3) * 3 + v % 3) / 3 ≡ put_digit x m (v / 3) = omega arith in
    rw a (digit_other x m k (v / 3) h (λ e. ne (ap suc e)))

-- ---- two columns left out

or_comm : (a b : Bool) → (a || b) ≡ (b || a)
or_comm true true = refl
or_comm true false = refl
or_comm false true = refl
or_comm false false = refl

module _ (s : List (List ℕ)) (all : ℕ) where
  pub others_comm : (i j k v : ℕ) → others_of s all i j k v ≡ others_of s all j i k v
  unfolding others_of
  others_comm i j zero v = refl
  others_comm i j (suc k) v = rw (or_comm (eqb k i) (eqb k j), others_comm i j k (v / 3))

  -- what stands in a column that is left out does not count
  pub others_put : (i j p k v x : ℕ) → (eqb p i || eqb p j) ≡ true → x < 3 → p < k → others_of s all i j k (put_digit x (k - suc p) v) ≡ others_of s all i j k v
  unfolding others_of put_digit
  others_put i j p zero v x e h l = absurd (omega arith)
  others_put i j p (suc k) v x e h l =
      ⊎_elim
      (λ (q : suc p ≡ suc k).
      let z : suc k - suc p ≡ 0 = omega arith in
      let w : p ≡ k = omega arith in
      let f : (eqb k i || eqb k j) ≡ true = rw w at e in
      let a : (v / 3 * 3 + x) / 3 ≡ v / 3 = omega arith in
      rw (z, f, a))
      (λ (g : suc p < suc k).
      let z : suc k - suc p ≡ suc (k - suc p) = omega arith in
      let d : ℕ = put_digit x (k - suc p) (v / 3) in
      let a : (d * 3 + v % 3) / 3 ≡ d = omega arith in
      let b : (d * 3 + v % 3) % 3 ≡ v % 3 = omega arith in
      rw (z, a, b, others_put i j p k (v / 3) x e h (omega arith)))
      (eq-or-lt_of_le l)

  below : (i j k v : ℕ) → k ≤ j → rest_of s all i k v ≡ others_of s all i j k v
  unfolding rest_of others_of
  below i j zero v h = refl
  below i j (suc k) v h = rw (ne_eqb k j (λ z. omega arith), below i j k (v / 3) (omega arith)) (go (eqb k i))
    where
      go : (b : Bool) →
          cond b (others_of s all i j k (v / 3)) (bit_and (others_of s all i j k (v / 3)) (cell_at s k (v % 3)))
          ≡ cond (b || false) (others_of s all i j k (v / 3)) (bit_and (others_of s all i j k (v / 3)) (cell_at s k (v % 3)))
      go true = refl
      go false = refl

  -- all columns but i are all but i and j, and j
  pub rest_others : (i j k v : ℕ) → i ≢ j → j < k → rest_of s all i k v ≡ bit_and (others_of s all i j k v) (cell_at s j (digit_of v (k - suc j)))
  unfolding rest_of others_of digit_of
  rest_others i j zero v ne h = absurd (omega arith)
  rest_others i j (suc k) v ne h = ⊎_elim last (λ g. earlier g (rest_others i j k (v / 3) ne (omega arith))) (eq-or-lt_of_le h)
    where
      last : suc j ≡ suc k → rest_of s all i (suc k) v ≡ bit_and (others_of s all i j (suc k) v) (cell_at s j (digit_of v (suc k - suc j)))
      last q =
          let z : suc k - suc j ≡ 0 = omega arith in
          let w : j ≡ k = omega arith in
          rw (z, ne_eqb k i (λ e. ne (omega arith)), eq-eqb k j (sym w), ← w, below i j j (v / 3) (omega arith))

      earlier : suc j < suc k → rest_of s all i k (v / 3) ≡ bit_and (others_of s all i j k (v / 3)) (cell_at s j (digit_of (v / 3) (k - suc j))) →
          rest_of s all i (suc k) v ≡ bit_and (others_of s all i j (suc k) v) (cell_at s j (digit_of v (suc k - suc j)))
      earlier g more =
          let z : suc k - suc j ≡ suc (k - suc j) = omega arith in
          rw (z, ne_eqb k j (λ e. omega arith), more) (go (eqb k i))
        where
          go : (b : Bool) →
              cond b (bit_and (others_of s all i j k (v / 3)) (cell_at s j (digit_of (v / 3) (k - suc j))))
              (bit_and (bit_and (others_of s all i j k (v / 3)) (cell_at s j (digit_of (v / 3) (k - suc j)))) (cell_at s k (v % 3)))
              ≡ bit_and (cond (b || false) (others_of s all i j k (v / 3)) (bit_and (others_of s all i j k (v / 3)) (cell_at s k (v % 3))))
              (cell_at s j (digit_of (v / 3) (k - suc j)))
          go true = refl
          go false = and_swap (others_of s all i j k (v / 3)) (cell_at s j (digit_of (v / 3) (k - suc j))) (cell_at s k (v % 3))
