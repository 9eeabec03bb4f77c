-- Counting through the candidates is the check of a pair. Assumes nothing.
use mathlib.Core.Path.{◌≡◌, refl, sym, ap, ◌∙◌}
use mathlib.Core.Logic.{◌≢◌, ◌↔◌, ◌⊎◌, inl, inr}
use mathlib.Core.List.{List, [], ◌∷◌, ◌++◌, append_assoc, append-nil}
use Prim.Native.Nat.{ℕ, zero, suc, ◌+◌, ◌*◌, ◌/◌, ◌%◌, ◌^◌, ◌≤◌, ◌<◌}
use native.Mathlib.Nat.{pow-suc, zero-add, add-zero}
use native.Mathlib.Decide.{ℕ_discrete}
use native.Mathlib.Omega.{arith}
use lib.ListN.{length, length-append}
use borrow.Author.Tests.{eq-eqb, eqb-true}
use mathlib.Core.Bool.{true}
use Rattle.value.specs.Value.{rank_of, value_of, same_value}
use Rattle.value.specs.declared.Ternary.{Ternary}
use Rattle.value.specs.declared.Ternary.TheVariants.{V0, V1, Vx}
use Rattle.orders.specs.Vectors.{at, put, Vector, vector_of, number_from}
use Rattle.orders.specs.Order.{Step, Laws, eval_order, Family}
use Rattle.orders.specs.Pairs.{pair_order, PairAgrees}
use Rattle.orders.specs.Verdict.{candidates, previous_at, first_now, second_now, old_at, current_at, first_output, second_output, Disagrees}
use Rattle.orders.proofs.Places.{at_other, at_same, vector_put, two_puts, only_two}
use Rattle.orders.proofs.Pairs.{still_agrees}

pub value_rank : (x : Ternary) → value_of (rank_of x) ≡ x
unfolding value_of rank_of
value_rank V0 = refl
value_rank V1 = refl
value_rank Vx = refl

pub rank_value : (k : ℕ) → k < 3 → rank_of (value_of k) ≡ k
unfolding value_of rank_of
rank_value zero h = refl
rank_value (suc zero) h = refl
rank_value (suc (suc zero)) h = refl
rank_value (suc (suc (suc k))) h = absurd (omega arith)

pub rank_low : (x : Ternary) → rank_of x < 3
unfolding rank_of
rank_low V0 = omega arith
rank_low V1 = omega arith
rank_low Vx = omega arith

pub rank_same : (x y : Ternary) → rank_of x ≡ rank_of y → x ≡ y
rank_same x y e = sym (value_rank x) ∙ ap value_of e ∙ value_rank y

-- the test of equal values
pub same_of : (x y : Ternary) → x ≡ y → same_value x y ≡ true
unfolding same_value
same_of x y e = eq-eqb (rank_of x) (rank_of y) (ap rank_of e)

pub of_same : (x y : Ternary) → same_value x y ≡ true → x ≡ y
unfolding same_value
of_same x y e = rank_same x y (eqb-true (rank_of x) (rank_of y) e)

pub decide : (x y : Ternary) → Dec (x ≡ y)
decide x y = go (ℕ_discrete (rank_of x) (rank_of y))
  where
    go : Dec (rank_of x ≡ rank_of y) → Dec (x ≡ y)
    go (yes e) = yes (rank_same x y e)
    go (no ne) = no (λ e. ne (ap rank_of e))

vector_from : (m acc : ℕ) (v : List Ternary) → vector_of (length v + m) (number_from acc v) ≡ vector_of m acc ++ v
unfolding number_from vector_of
vector_from m acc [] = rw (zero-add m, append-nil (vector_of m acc))
vector_from m acc (x ∷ v) =
    let k : suc (length v) + m ≡ length v + suc m = omega arith in
    let a : (acc * 3 + rank_of x) / 3 ≡ acc = omega (arith, rank_low x) in
    let b : (acc * 3 + rank_of x) % 3 ≡ rank_of x = omega (arith, rank_low x) in
    rw k (vector_from (suc m) (acc * 3 + rank_of x) v ∙ rw (a, b, value_rank x) (append_assoc (vector_of m acc) (x ∷ []) v))

from_lt : (acc b : ℕ) (v : List Ternary) → acc < b → number_from acc v < b * 3 ^ length v
unfolding number_from
from_lt acc b [] h = omega arith
from_lt acc b (x ∷ v) h = rw (pow-suc 3 (length v)) (omega (arith, from_lt (acc * 3 + rank_of x) (b * 3) v (omega (arith, rank_low x))))

pub length_vector_of : (n c : ℕ) → length (vector_of n c) ≡ n
unfolding vector_of
length_vector_of zero c = refl
length_vector_of (suc n) c = omega (arith, length-append (vector_of n (c / 3)) (value_of (c % 3) ∷ []), length_vector_of n (c / 3))

pub vector_number : (n c : ℕ) → Vector n (vector_of n c)
vector_number n c = record { size = length_vector_of n c }

no_inputs : vector_of 0 0 ≡ []
unfolding vector_of
no_inputs = refl

-- every vector has a number
pub numbered : {n : ℕ} {v : List Ternary} → Vector n v → (c : ℕ) × (c < 3 ^ n) × (vector_of n c ≡ v)
numbered {n} {v} g = (number_from 0 v, small, rw (← g.size) whole)
  where
    small : number_from 0 v < 3 ^ n
    small = rw (← g.size) (omega (arith, from_lt 0 1 v (omega arith)))

    whole : vector_of (length v) (number_from 0 v) ≡ v
    whole = rw (add-zero (length v), no_inputs) at (vector_from 0 0 v)

module _ (n : ℕ) (phi : Step) (Ok : List Ternary → List Ternary → Type 0) (i j : ℕ) where
  -- a pair agrees exactly where none of its candidates is a disagreement
  pub pair_iff : Family n Ok → PairAgrees n Ok phi i j ↔ ((r : ℕ) → r < candidates n → Disagrees n Ok phi i j r → ⊥)
  pair_iff F = (λ a r h d. d.differ (a (previous_at n r) (current_at n i j r) (old_at r) d.admitted (only_two (previous_at n r) i j (first_now r) (second_now r))), search)
    where
      Agree : List Ternary → Ternary → Ternary → Ternary → Type 0
      Agree prev x y old = eval_order phi prev (put (put prev i x) j y) old (pair_order n i j) ≡ eval_order phi prev (put (put prev i x) j y) old (pair_order n j i)

      fine : (r : ℕ) → (Disagrees n Ok phi i j r → ⊥) → Ok (previous_at n r) (current_at n i j r) → Dec (first_output n phi i j r ≡ second_output n phi i j r) → first_output n phi i j r ≡ second_output n phi i j r
      fine r q ok (yes e) = e
      fine r q ok (no ne) = absurd (q (record { admitted = ok; differ = ne }))

      move : (r : ℕ) (x y old : Ternary) (prev : List Ternary) → previous_at n r ≡ prev → first_now r ≡ x → second_now r ≡ y → old_at r ≡ old →
          (Disagrees n Ok phi i j r → ⊥) → Ok prev (put (put prev i x) j y) → Agree prev x y old
      move r x y old prev a b c d q ok = rw (a, b, c, d) at (fine r q (rw (a, b, c) ok) (decide (first_output n phi i j r) (second_output n phi i j r)))

      search : ((r : ℕ) → r < candidates n → Disagrees n Ok phi i j r → ⊥) → PairAgrees n Ok phi i j
      search all prev cur old ok only =
          let e : put (put prev i (at cur i)) j (at cur j) ≡ cur = two_puts i j (F.first ok) (F.second ok) only in
          let v : (c : ℕ) × (c < 3 ^ n) × (vector_of n c ≡ prev) = numbered (F.first ok) in
          let x : ℕ = rank_of (at cur i) in
          let y : ℕ = rank_of (at cur j) in
          let o : ℕ = rank_of old in
          let hx : x < 3 = rank_low (at cur i) in
          let hy : y < 3 = rank_low (at cur j) in
          let ho : o < 3 = rank_low old in
          let r : ℕ = v.0 * 27 + (x * 9 + (y * 3 + o)) in
          let q : r / 27 ≡ v.0 = omega arith in
          let qx : r / 9 % 3 ≡ x = omega arith in
          let qy : r / 3 % 3 ≡ y = omega arith in
          let qo : r % 3 ≡ o = omega arith in
          rw e at (move r (at cur i) (at cur j) old prev (rw q v.2) (rw qx (value_rank (at cur i))) (rw qy (value_rank (at cur j))) (rw qo (value_rank old))
          (all r (omega (arith, v.1))) (rw e ok))

  -- a disagreement changes both inputs
  pub both_change : Laws n phi → i ≢ j → (r : ℕ) → 1 ≤ i → i ≤ n → 1 ≤ j → j ≤ n → Disagrees n Ok phi i j r →
      (at (previous_at n r) i ≢ first_now r) × (at (previous_at n r) j ≢ second_now r)
  both_change L ne r a b c d q = (
    λ e. q.differ (agree (inl (e ∙ sym ei))),
    λ e. q.differ (agree (inr (e ∙ sym ej))),
  )
    where
      p : List Ternary
      p = previous_at n r

      g : Vector n p
      g = vector_number n (r / 27)

      h : Vector n (current_at n i j r)
      h = vector_put j (second_now r) (vector_put i (first_now r) g)

      ei : at (current_at n i j r) i ≡ first_now r
      ei = at_other (put p i (first_now r)) j i (second_now r) ne ∙ at_same p i (first_now r) a (omega (arith, g.size))

      ej : at (current_at n i j r) j ≡ second_now r
      ej = at_same (put p i (first_now r)) j (second_now r) c (omega (arith, (vector_put i (first_now r) g).size))

      agree : (at p i ≡ at (current_at n i j r) i) ⊎ (at p j ≡ at (current_at n i j r) j) → first_output n phi i j r ≡ second_output n phi i j r
      agree s = still_agrees L (old_at r) g h i j ne (only_two p i j (first_now r) (second_now r)) s
