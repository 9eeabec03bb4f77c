-- Lists of numbers with the same counts are joined by exchanges of neighbours. Assumes nothing.
use mathlib.Core.Path.{◌≡◌, refl, sym, ap, ◌∙◌, subst}
use mathlib.Core.Logic.{◌≢◌, ite}
use mathlib.Core.List.{List, [], ◌∷◌}
use Prim.Native.Nat.{ℕ, zero, suc, ◌+◌, ◌≤◌, ◌<◌}
use native.Mathlib.Decide.{ℕ_discrete, dec_lt}
use native.Mathlib.Omega.{arith}
use Rattle.orders.specs.Order.{hit, count, Full}
use Rattle.orders.specs.Pairs.{rise, without, others, pair_order, Joined, same, swap, skip, then}

pub hit_same : (k x : ℕ) → k ≡ x → hit k x ≡ 1
hit_same k x h = go (ℕ_discrete k x)
  where
    go : (d : Dec (k ≡ x)) → ite {C = ℕ} d 1 0 ≡ 1
    go (yes e) = refl
    go (no ne) = absurd (ne h)

pub hit_self : (k : ℕ) → hit k k ≡ 1
hit_self k = hit_same k k refl

pub hit_other : (k x : ℕ) → k ≢ x → hit k x ≡ 0
hit_other k x h = go (ℕ_discrete k x)
  where
    go : (d : Dec (k ≡ x)) → ite {C = ℕ} d 1 0 ≡ 0
    go (yes e) = absurd (h e)
    go (no ne) = refl

pub remove : ℕ → List ℕ → List ℕ
remove x [] = []
remove x (y ∷ m) = ite (ℕ_discrete x y) m (y ∷ remove x m)

module _ {P : ℕ → ℕ → Type 0} where
  pub count_joined : {l m : List ℕ} (k : ℕ) → Joined P l m → count k l ≡ count k m
  count_joined k same = refl
  count_joined k (swap p) = omega arith
  count_joined k (skip {k = x} d) = ap (λ (c : ℕ). hit k x + c) (count_joined k d)
  count_joined k (then d e) = count_joined k d ∙ count_joined k e

  module _ (all : (i j : ℕ) → P i j) where
    pub front : (x : ℕ) (m : List ℕ) → 1 ≤ count x m → Joined P (x ∷ remove x m) m
    unfolding remove
    front x [] h = absurd (omega arith)
    front x (y ∷ m) h = go (ℕ_discrete x y) (front x m) h
      where
        go : (d : Dec (x ≡ y)) → (1 ≤ count x m → Joined P (x ∷ remove x m) m) → 1 ≤ ite d 1 0 + count x m → Joined P (x ∷ ite d m (y ∷ remove x m)) (y ∷ m)
        go (yes e) below t = subst (λ (z : ℕ). Joined P (x ∷ m) (z ∷ m)) e same
        go (no ne) below t = then (swap (all x y)) (skip (below (omega arith)))

    pub joined_of_count : (l m : List ℕ) → ((k : ℕ) → count k l ≡ count k m) → Joined P l m
    joined_of_count [] [] q = same
    joined_of_count [] (y ∷ m) q = absurd (omega (arith, q y, hit_self y))
    joined_of_count (x ∷ l) m q =
        let f : Joined P (x ∷ remove x m) m = front x m (omega (arith, q x, hit_self x)) in
        then (skip (joined_of_count l (remove x m) (λ k. omega (arith, q k, count_joined k f)))) f

-- ---- the rising order, and the two orders that the check of a pair compares

count_below : (a m k : ℕ) → k < a → count k (rise a m) ≡ 0
count_below a zero k p = refl
count_below a (suc m) k p = omega (arith, hit_other k a (omega arith), count_below (suc a) m k (omega arith))

count_above : (a m k : ℕ) → a + m ≤ k → count k (rise a m) ≡ 0
count_above a zero k p = refl
count_above a (suc m) k p = omega (arith, hit_other k a (omega arith), count_above (suc a) m k (omega arith))

pub count_rise : (a m k : ℕ) → a ≤ k → k < a + m → count k (rise a m) ≡ 1
count_rise a zero k p q = omega arith
count_rise a (suc m) k p q = go (ℕ_discrete k a) (λ ne. count_rise (suc a) m k (omega arith) (omega arith))
  where
    go : Dec (k ≡ a) → (k ≢ a → count k (rise (suc a) m) ≡ 1) → hit k a + count k (rise (suc a) m) ≡ 1
    go (yes e) below = omega (arith, hit_same k a e, count_below (suc a) m k (omega arith))
    go (no ne) below = omega (arith, hit_other k a ne, below ne)

count_without : (i k : ℕ) (l : List ℕ) → k ≢ i → count k (without i l) ≡ count k l
count_without i k [] h = refl
count_without i k (x ∷ l) h = go (ℕ_discrete i x) (count_without i k l h)
  where
    go : (d : Dec (i ≡ x)) → count k (without i l) ≡ count k l → count k (ite d (without i l) (x ∷ without i l)) ≡ hit k x + count k l
    go (yes e) below = omega (arith, below, hit_other k x (omega arith))
    go (no ne) below = omega arith

pub count_gone : (i : ℕ) (l : List ℕ) → count i (without i l) ≡ 0
count_gone i [] = refl
count_gone i (x ∷ l) = go (ℕ_discrete i x) (count_gone i l)
  where
    go : (d : Dec (i ≡ x)) → count i (without i l) ≡ 0 → count i (ite d (without i l) (x ∷ without i l)) ≡ 0
    go (yes e) below = below
    go (no ne) below = omega (arith, hit_other i x ne)

-- the list behind a pair, in the check of that pair, has neither of the two
module _ (n i j : ℕ) (ne : i ≢ j) where
  gone_i : (k : ℕ) → k ≡ i → count k (others n i j) ≡ 0
  gone_i k e = rw e (count_gone i (without j (rise 1 n)))

  gone_j : (k : ℕ) → k ≡ j → count k (others n i j) ≡ 0
  gone_j k e = count_without i k (without j (rise 1 n)) (λ f. ne (sym f ∙ e)) ∙ rw e (count_gone j (rise 1 n))

  pub out_others : (k : ℕ) → 1 ≤ count k (others n i j) → (k ≢ i) × (k ≢ j)
  out_others k c = (λ e. omega (arith, gone_i k e), λ e. omega (arith, gone_j k e))

  pub full_pair : 1 ≤ i → i ≤ n → 1 ≤ j → j ≤ n → Full n (pair_order n i j)
  full_pair a b c d = record { each = λ k p q. once k p q (ℕ_discrete k i) (ℕ_discrete k j); zero_out = out 0 (omega arith) (omega arith) (count_below 1 n 0 (omega arith)); above_out = λ k h. out k (omega arith) (omega arith) (count_above 1 n k (omega arith)) }
    where
      rest : (k : ℕ) → k ≢ i → k ≢ j → count k (others n i j) ≡ count k (rise 1 n)
      rest k a b = count_without i k (without j (rise 1 n)) a ∙ count_without j k (rise 1 n) b

      out : (k : ℕ) → k ≢ i → k ≢ j → count k (rise 1 n) ≡ 0 → count k (pair_order n i j) ≡ 0
      out k a b r = omega (arith, hit_other k i a, hit_other k j b, rest k a b)

      once : (k : ℕ) → 1 ≤ k → k ≤ n → Dec (k ≡ i) → Dec (k ≡ j) → count k (pair_order n i j) ≡ 1
      once k p q (no x) (no y) = omega (arith, hit_other k i x, hit_other k j y, rest k x y, count_rise 1 n k p (omega arith))
      once k p q (yes x) (yes y) = absurd (ne (sym x ∙ y))
      once k p q (yes x) (no y) = omega (arith, hit_same k i x, hit_other k j y, gone_i k x)
      once k p q (no x) (yes y) = omega (arith, hit_other k i x, hit_same k j y, gone_j k y)

pub full_rise : (n : ℕ) → Full n (rise 1 n)
full_rise n = record { each = λ k a b. count_rise 1 n k a (omega arith); zero_out = count_below 1 n 0 (omega arith); above_out = λ k h. count_above 1 n k (omega arith) }

-- two full orders have the same counts
pub full_counts : {n : ℕ} {l m : List ℕ} → Full n l → Full n m → (k : ℕ) → count k l ≡ count k m
full_counts f g zero = f.zero_out ∙ sym g.zero_out
full_counts {n} {l} {m} f g (suc k) = go (dec_lt n (suc k))
  where
    go : Dec (n < suc k) → count (suc k) l ≡ count (suc k) m
    go (yes h) = f.above_out (suc k) h ∙ sym (g.above_out (suc k) h)
    go (no h) = f.each (suc k) (omega arith) (omega arith) ∙ sym (g.each (suc k) (omega arith) (omega arith))

pub full_of_counts : {n : ℕ} {l m : List ℕ} → Full n l → ((k : ℕ) → count k m ≡ count k l) → Full n m
full_of_counts f q = record { each = λ k a b. q k ∙ f.each k a b; zero_out = q 0 ∙ f.zero_out; above_out = λ k a. q k ∙ f.above_out k a }
