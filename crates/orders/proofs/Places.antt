-- A vector's places. Assumes nothing.
use mathlib.Core.Path.{◌≡◌, refl, sym, ap, ◌∙◌}
use mathlib.Core.Logic.{◌≢◌, ◌⊎◌, inl, inr}
use mathlib.Core.List.{List}
use Prim.Native.Nat.{ℕ, zero, suc, ◌≤◌, ◌<◌}
use native.Mathlib.Decide.{ℕ_discrete, dec_lt}
use native.Mathlib.Omega.{arith}
use lib.ListN.{length, get_or, set, length-set, get_or-eq_default}
use lib.Seq.{get_or-set_same, get_or-set_other, set-get_or, set-set, set_comm, set_out, ext_get_or}
use Rattle.value.specs.declared.Ternary.{Ternary}
use Rattle.value.specs.declared.Ternary.TheVariants.{V0}
use Rattle.orders.specs.Vectors.{at, put, Vector}
use Rattle.orders.specs.Order.{Family, Every}
use Rattle.orders.specs.Pairs.{OnlyTwo}

-- past its end a vector has the default, and what is put there is lost
pub at_out : (v : List Ternary) (k : ℕ) → length v < k → at v k ≡ V0
at_out v zero h = refl
at_out v (suc k) h = get_or-eq_default v V0 (omega arith)

pub at_other : (v : List Ternary) (k j : ℕ) (x : Ternary) → j ≢ k → at (put v k x) j ≡ at v j
at_other v zero j x h = refl
at_other v (suc k) zero x h = refl
at_other v (suc k) (suc j) x h = get_or-set_other v k j x V0 (λ e. h (ap suc e))

pub at_same : (v : List Ternary) (k : ℕ) (x : Ternary) → 1 ≤ k → k ≤ length v → at (put v k x) k ≡ x
at_same v zero x a b = absurd (omega arith)
at_same v (suc k) x a b = get_or-set_same v k x V0 (omega arith)

-- input j takes its current value, whether or not the vectors have a j
pub at_step : (v w : List Ternary) (j : ℕ) → length v ≡ length w → at (put v j (at w j)) j ≡ at w j
at_step v w zero e = refl
at_step v w (suc k) e = go (dec_lt k (length v))
  where
    go : Dec (k < length v) → get_or (set v k (get_or w k V0)) k V0 ≡ get_or w k V0
    go (yes h) = get_or-set_same v k (get_or w k V0) V0 h
    go (no h) = rw (set_out v k (get_or w k V0) (omega arith), get_or-eq_default v V0 {n = k} (omega arith), get_or-eq_default w V0 {n = k} (omega arith))

pub put_at : (v : List Ternary) (k : ℕ) → put v k (at v k) ≡ v
put_at v zero = refl
put_at v (suc k) = set-get_or v k V0

-- a value put, and the earlier one put back
pub put_back : (v : List Ternary) (j : ℕ) (x : Ternary) → put (put v j x) j (at v j) ≡ v
put_back v zero x = refl
put_back v (suc k) x = set-set v k x (get_or v k V0) ∙ put_at v (suc k)

pub put_comm : (v : List Ternary) (i j : ℕ) (x y : Ternary) → i ≢ j → put (put v i x) j y ≡ put (put v j y) i x
put_comm v zero zero x y h = refl
put_comm v zero (suc j) x y h = refl
put_comm v (suc i) zero x y h = refl
put_comm v (suc i) (suc j) x y h = set_comm v i j x y (λ e. h (ap suc e))

pub length_put : (v : List Ternary) (k : ℕ) (x : Ternary) → length (put v k x) ≡ length v
length_put v zero x = refl
length_put v (suc k) x = length-set v k x

pub vector_put : {n : ℕ} {v : List Ternary} (k : ℕ) (x : Ternary) → Vector n v → Vector n (put v k x)
vector_put {v} k x g = record { size = length_put v k x ∙ g.size }

-- two inputs that took their current values, in either order
pub put_both : (v w : List Ternary) (i j : ℕ) → put (put v i (at w i)) j (at w j) ≡ put (put v j (at w j)) i (at w i)
put_both v w i j = go (ℕ_discrete i j)
  where
    go : Dec (i ≡ j) → put (put v i (at w i)) j (at w j) ≡ put (put v j (at w j)) i (at w i)
    go (yes e) = rw e
    go (no ne) = put_comm v i j (at w i) (at w j) ne

pub same_size : {n : ℕ} {v w : List Ternary} → Vector n v → Vector n w → length v ≡ length w
same_size g h = g.size ∙ sym h.size

-- after input k took its current value, each input has its current value or the one it had
pub at_cases : (v w : List Ternary) (k j : ℕ) → length v ≡ length w → (at (put v k (at w k)) j ≡ at w j) ⊎ (at (put v k (at w k)) j ≡ at v j)
at_cases v w k j e = go (ℕ_discrete j k)
  where
    go : Dec (j ≡ k) → (at (put v k (at w k)) j ≡ at w j) ⊎ (at (put v k (at w k)) j ≡ at v j)
    go (yes q) = inl (rw q (at_step v w k e))
    go (no q) = inr (at_other v k j (at w k) q)

-- vectors of one length are equal by their values
pub ext_at : (v w : List Ternary) → length v ≡ length w → ((k : ℕ) → k ≤ length v → at v k ≡ at w k) → v ≡ w
ext_at v w e q = ext_get_or V0 v w e (λ i h. q (suc i) h)

-- two vectors that differ only in i and j: the second is the first with two values put
pub two_puts : {n : ℕ} (i j : ℕ) {prev cur : List Ternary} → Vector n prev → Vector n cur → OnlyTwo i j prev cur →
    put (put prev i (at cur i)) j (at cur j) ≡ cur
two_puts {n} i j {prev} {cur} g h q = ext_at d cur (same_size (vector_put j (at cur j) r) h) (λ k _. go k (ℕ_discrete k i) (ℕ_discrete k j))
  where
    p : List Ternary
    p = put prev i (at cur i)

    d : List Ternary
    d = put p j (at cur j)

    r : Vector n p
    r = vector_put i (at cur i) g

    go : (k : ℕ) → Dec (k ≡ i) → Dec (k ≡ j) → at d k ≡ at cur k
    go k a (yes e) = rw e (at_step p cur j (same_size r h))
    go k (yes e) (no b) = at_other p j k (at cur j) b ∙ rw e (at_step prev cur i (same_size g h))
    go k (no a) (no b) = at_other p j k (at cur j) b ∙ at_other prev i k (at cur i) a ∙ q k a b

pub only_two : (v : List Ternary) (i j : ℕ) (x y : Ternary) → OnlyTwo i j v (put (put v i x) j y)
only_two v i j x y k p q = sym (at_other (put v i x) j k y q ∙ at_other v i k x p)

-- all pairs of vectors are a family
pub every_family : (n : ℕ) → Family n (Every n)
every_family n = record { first = λ o. o.0; second = λ o. o.1; fewer = λ o g h q. (g, h) }
