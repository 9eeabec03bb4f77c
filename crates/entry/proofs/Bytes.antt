-- Each byte of a field by its place. Assumes nothing.
use mathlib.Core.Path.{◌≡◌, sym, ap, ◌∙◌}
use mathlib.Core.List.{List, map}
use Prim.Native.Nat.{ℕ, suc, ◌+◌, ◌≤◌, ◌<◌}
use native.Mathlib.Omega.{arith}
use lib.ListN.{length, get_or, length-map, get_or-eq_default}
use Rattle.std.proofs.lemmas.List.{get_or-map}
use Rattle.base.specs.Listed.{listed}
use Rattle.base.proofs.Listed.{listed_length, listed_at}
use Rattle.value.specs.Value.{byte_of}
use Rattle.value.specs.declared.Ternary.{Ternary}
use Rattle.value.specs.declared.Ternary.TheVariants.{V0}
use Rattle.orders.specs.Vectors.{at, put, vector_of}
use Rattle.verdict.specs.Meaning.{now}
use Rattle.verdict.specs.declared.Witness.{Witness}
use Rattle.orders.proofs.Places.{length_put, at_same, at_other}
use Rattle.orders.proofs.Candidates.{length_vector_of}
use Rattle.verdict.proofs.Meaning.{now_length}
use Rattle.entry.specs.Entry.{digit_of}

-- ---- mapped lists

pub map_past : {A : Type 0} (f : A → ℕ) (l : List A) (k : ℕ) → length l ≤ k → get_or (map f l) k 0 ≡ 0
map_past f l k h = get_or-eq_default (map f l) 0 (omega (arith, length-map l f))

-- ---- numbers of an order

pub order_is : (f : ℕ → ℕ) (n k x r : ℕ) → r ≡ digit_of x → k < n → f k ≡ x → r ≡ get_or (map digit_of (listed f n)) k 0
order_is f n k x r e h g =
    e ∙ ap digit_of (sym (listed_at f n k 0 h ∙ g)) ∙ sym (get_or-map digit_of (listed f n) k 0 0 (omega (arith, listed_length f n)))

pub order_past : (f : ℕ → ℕ) (n k : ℕ) → n ≤ k → 0 ≡ get_or (map digit_of (listed f n)) k 0
order_past f n k h = sym (map_past digit_of (listed f n) k (omega (arith, listed_length f n)))

-- ---- values of a vector

pub now_past : (n : ℕ) (w : Witness) (k : ℕ) → n ≤ k → V0 ≡ get_or (now n w) k V0
now_past n w k h = sym (get_or-eq_default (now n w) V0 (omega (arith, now_length n w)))

-- place k is that of input k + 1
module _ (n : ℕ) (w : Witness) (k : ℕ) (h : k < n) where
  long : length (put (vector_of n w.previous) w.first w.first_now) ≡ n
  long = length_put (vector_of n w.previous) w.first w.first_now ∙ length_vector_of n w.previous

  one_more : k + 1 ≡ suc k
  one_more = omega arith

  pub now_at_second : k + 1 ≡ w.second → w.second_now ≡ get_or (now n w) k V0
  now_at_second e =
      let q : w.second ≡ suc k = omega arith in
      sym
      (ap (at (now n w)) (sym q)
      ∙ at_same (put (vector_of n w.previous) w.first w.first_now) w.second w.second_now (omega arith) (omega (arith, long)))

  pub now_at_first : (k + 1 ≡ w.second → ⊥) → k + 1 ≡ w.first → w.first_now ≡ get_or (now n w) k V0
  now_at_first a e =
      let q : w.first ≡ suc k = omega arith in
      sym
      (at_other (put (vector_of n w.previous) w.first w.first_now) w.second (suc k) w.second_now (λ z. a (omega arith))
      ∙ ap (at (put (vector_of n w.previous) w.first w.first_now)) (sym q)
      ∙ at_same (vector_of n w.previous) w.first w.first_now (omega arith) (omega (arith, length_vector_of n w.previous)))

  pub now_at_other : (k + 1 ≡ w.second → ⊥) → (k + 1 ≡ w.first → ⊥) → get_or (vector_of n w.previous) k V0 ≡ get_or (now n w) k V0
  now_at_other a b =
      sym
      (at_other (put (vector_of n w.previous) w.first w.first_now) w.second (suc k) w.second_now (λ z. a (omega arith))
      ∙ at_other (vector_of n w.previous) w.first (suc k) w.first_now (λ z. b (omega arith)))

-- ---- the bytes of vectors

pub vector_byte_past : (n c k : ℕ) → n ≤ k → 0 ≡ get_or (map byte_of (vector_of n c)) k 0
vector_byte_past n c k h = sym (map_past byte_of (vector_of n c) k (omega (arith, length_vector_of n c)))

pub vector_byte_at : (n c k : ℕ) (v : Ternary) (r : ℕ) → k < n → v ≡ get_or (vector_of n c) k V0 → r ≡ byte_of v → r ≡ get_or (map byte_of (vector_of n c)) k 0
vector_byte_at n c k v r h e g = g ∙ ap byte_of e ∙ sym (get_or-map byte_of (vector_of n c) k V0 0 (omega (arith, length_vector_of n c)))

pub now_byte_past : (n : ℕ) (w : Witness) (k : ℕ) → n ≤ k → 0 ≡ get_or (map byte_of (now n w)) k 0
now_byte_past n w k h = sym (map_past byte_of (now n w) k (omega (arith, now_length n w)))

pub now_byte_at : (n : ℕ) (w : Witness) (k : ℕ) (v : Ternary) (r : ℕ) → k < n → v ≡ get_or (now n w) k V0 → r ≡ byte_of v → r ≡ get_or (map byte_of (now n w)) k 0
now_byte_at n w k v r h e g = g ∙ ap byte_of e ∙ sym (get_or-map byte_of (now n w) k V0 0 (omega (arith, now_length n w)))
