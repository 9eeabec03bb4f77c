-- An order of n different numbers of 1..n is a full order. Assumes nothing.
use mathlib.Core.Path.{◌≡◌, refl, sym, ap, ◌∙◌}
use mathlib.Core.Logic.{◌≢◌, ite}
use mathlib.Core.List.{List, [], ◌∷◌}
use Prim.Native.Nat.{ℕ, zero, suc, ◌+◌, ◌≤◌, ◌<◌}
use native.Mathlib.Decide.{ℕ_discrete, dec_lt}
use native.Mathlib.Omega.{arith}
use lib.ListN.{length, get_or}
use Rattle.orders.specs.Order.{hit, count, Full, Order}
use Rattle.orders.specs.Pairs.{rise, Joined, same, swap, skip, then}
use Rattle.orders.proofs.Counts.{hit_same, hit_self, hit_other, remove, front, count_joined, full_rise, full_of_counts, count_rise}

-- a number that is counted has a place
pub place : (k : ℕ) (l : List ℕ) → 1 ≤ count k l → (a : ℕ) × (a < length l) × (get_or l a 0 ≡ k)
place k [] h = absurd (omega arith)
place k (x ∷ l) h = go (ℕ_discrete k x) (place k l) h
  where
    go : (d : Dec (k ≡ x)) → (1 ≤ count k l → (a : ℕ) × (a < length l) × (get_or l a 0 ≡ k)) → 1 ≤ ite {C = ℕ} d 1 0 + count k l → (a : ℕ) × (a < suc (length l)) × (get_or (x ∷ l) a 0 ≡ k)
    go (yes e) below t = (0, omega arith, sym e)
    go (no ne) below t = let r : (a : ℕ) × (a < length l) × (get_or l a 0 ≡ k) = below (omega arith) in (suc r.0, omega (arith, r.1), r.2)

once : (k : ℕ) (l : List ℕ) → ((a b : ℕ) → a < b → b < length l → get_or l a 0 ≢ get_or l b 0) → count k l ≤ 1
once k [] q = omega arith
once k (x ∷ l) q = go (ℕ_discrete k x) (dec_lt 0 (count k l)) (once k l (λ a b h t. q (suc a) (suc b) (omega arith) (omega arith)))
  where
    go : Dec (k ≡ x) → Dec (0 < count k l) → count k l ≤ 1 → hit k x + count k l ≤ 1
    go (no ne) d tail = omega (arith, hit_other k x ne)
    go (yes e) (no z) tail = omega (arith, hit_same k x e)
    go (yes e) (yes p) tail = let r : (a : ℕ) × (a < length l) × (get_or l a 0 ≡ k) = place k l p in absurd (q 0 (suc r.0) (omega arith) (omega (arith, r.1)) (sym e ∙ sym r.2))

length_joined : {P : ℕ → ℕ → Type 0} {l m : List ℕ} → Joined P l m → length l ≡ length m
length_joined same = refl
length_joined (swap p) = refl
length_joined (skip d) = ap suc (length_joined d)
length_joined (then d e) = length_joined d ∙ length_joined e

-- the pigeonhole: a list that is within m and not shorter has m's counts
filled : (l m : List ℕ) → ((k : ℕ) → count k l ≤ count k m) → length m ≤ length l → (k : ℕ) → count k l ≡ count k m
filled [] [] q h k = refl
filled [] (y ∷ m) q h k = omega arith
filled (x ∷ l) m q h k =
    let f : Joined (λ _ _. Unit {0}) (x ∷ remove x m) m = front (λ _ _. tt) x m (omega (arith, q x, hit_self x)) in
    omega (arith, count_joined k f, filled l (remove x m) (λ i. omega (arith, q i, count_joined i f)) (omega (arith, length_joined f)) k)

length_rise : (a n : ℕ) → length (rise a n) ≡ n
length_rise a zero = refl
length_rise a (suc n) = ap suc (length_rise (suc a) n)

pub full_of_order : {n : ℕ} {l : List ℕ} → Order n l → length l ≡ n → Full n l
full_of_order {n} {l} o e = full_of_counts (full_rise n) (filled l (rise 1 n) (λ k. go k (dec_lt 0 (count k l))) (omega (arith, length_rise 1 n)))
  where
    go : (k : ℕ) → Dec (0 < count k l) → count k l ≤ count k (rise 1 n)
    go k (no z) = omega arith
    go k (yes p) =
        let r : (a : ℕ) × (a < length l) × (get_or l a 0 ≡ k) = place k l p in
        let i : (1 ≤ get_or l r.0 0) × (get_or l r.0 0 ≤ n) = o.inside r.0 r.1 in
        omega (arith, once k l o.differ, count_rise 1 n k (omega (arith, r.2, i.0)) (omega (arith, r.2, i.1)))
