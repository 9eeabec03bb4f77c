-- Vectors and their numbers. Assumes nothing.
use mathlib.Core.Path.{◌≡◌, refl, ◌∙◌}
use mathlib.Core.List.{List, [], ◌∷◌, ◌++◌, append_assoc, append-nil}
use Prim.Native.Nat.{ℕ, zero, suc, ◌+◌, ◌*◌, ◌/◌, ◌%◌, ◌^◌, ◌<◌}
use native.Mathlib.Nat.{pow-suc, zero-add, add-zero}
use native.Mathlib.Omega.{arith}
use lib.ListN.{length}
use Rattle.value.specs.Value.{rank_of, value_of}
use Rattle.value.specs.declared.Ternary.{Ternary}
use Rattle.orders.specs.Vectors.{vector_of}
use Rattle.orders.proofs.Candidates.{value_rank, rank_value, rank_low}
use Rattle.verdict.specs.Numbers.{number_from}

vector_number_from : (m c : ℕ) (v : List Ternary) → vector_of (length v + m) (number_from c v) ≡ vector_of m c ++ v
unfolding number_from vector_of
vector_number_from m c [] = rw (zero-add m, append-nil (vector_of m c))
vector_number_from m c (x ∷ v) =
    let k : suc (length v) + m ≡ length v + suc m = omega arith in
    let a : (c * 3 + rank_of x) / 3 ≡ c = omega (arith, rank_low x) in
    let b : (c * 3 + rank_of x) % 3 ≡ rank_of x = omega (arith, rank_low x) in
    rw k (vector_number_from (suc m) (c * 3 + rank_of x) v ∙ rw (a, b, value_rank x) (append_assoc (vector_of m c) (x ∷ []) v))

-- a vector is the vector of its number
pub vector_number : (v : List Ternary) → vector_of (length v) (number_from 0 v) ≡ v
unfolding vector_of
vector_number v = rw (add-zero (length v)) at (vector_number_from 0 0 v)

pub number_snoc : (c : ℕ) (v : List Ternary) (x : Ternary) → number_from c (v ++ (x ∷ [])) ≡ number_from c v * 3 + rank_of x
unfolding number_from
number_snoc c [] x = refl
number_snoc c (y ∷ v) x = number_snoc (c * 3 + rank_of y) v x

-- a number below 3 ^ n is the number of its vector
pub number_vector : (n c : ℕ) → c < 3 ^ n → number_from 0 (vector_of n c) ≡ c
unfolding vector_of number_from
number_vector zero c h = omega arith
number_vector (suc n) c h =
    number_snoc 0 (vector_of n (c / 3)) (value_of (c % 3))
    ∙ omega (arith, number_vector n (c / 3) (omega (arith, pow-suc 3 n)), rank_value (c % 3) (omega arith))

number_below_from : (c b : ℕ) (v : List Ternary) → c < b → number_from c v < b * 3 ^ length v
unfolding number_from
number_below_from c b [] h = omega arith
number_below_from c b (x ∷ v) h = rw (pow-suc 3 (length v)) (omega (arith, number_below_from (c * 3 + rank_of x) (b * 3) v (omega (arith, rank_low x))))

pub number_below : (v : List Ternary) → number_from 0 v < 3 ^ length v
number_below v = omega (arith, number_below_from 0 1 v (omega arith))
