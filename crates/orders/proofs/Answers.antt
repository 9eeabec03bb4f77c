-- No two verdicts are right; and independent is right exactly where all full orders agree. Assumes nothing.
use mathlib.Core.Path.{◌≡◌, refl, ap}
use mathlib.Core.Logic.{◌↔◌}
use mathlib.Core.List.{List}
use Prim.Native.Nat.{ℕ, ◌≤◌, ◌<◌}
use native.Mathlib.Decide.{dec_lt}
use native.Mathlib.Omega.{arith}
use Rattle.value.specs.declared.Ternary.{Ternary}
use Rattle.orders.specs.Order.{Step, Laws, Family, Independent}
use Rattle.orders.specs.Verdict.{Verdict, independent, dependent, candidates, Disagrees, First, Judged}
use Rattle.orders.proofs.Pairs.{independent_iff}
use Rattle.orders.proofs.Candidates.{pair_iff}

-- independent exactly where no candidate of any pair is a disagreement
pub judged_iff : {n : ℕ} {phi : Step} → Laws n phi → {Ok : List Ternary → List Ternary → Type 0} → Family n Ok →
    Independent n Ok phi ↔ ((i j r : ℕ) → 1 ≤ i → i < j → j ≤ n → r < candidates n → Disagrees n Ok phi i j r → ⊥)
judged_iff {n} {phi} L {Ok} F = (
  λ ind i j r a b c h. (pair_iff n phi Ok i j F).0 ((independent_iff L F).0 ind i j a b c) r h,
  λ all. (independent_iff L F).1 (λ i j a b c. (pair_iff n phi Ok i j F).1 (λ r h. all i j r a b c h)),
)

module _ {n : ℕ} {Ok : List Ternary → List Ternary → Type 0} {phi : Step} where
  not_before : {i j r a b s : ℕ} → First n Ok phi i j r → First n Ok phi a b s → (a < i) → ⊥
  not_before {s} f g h = f.before_i _ _ s g.one h g.rising g.last g.counted g.here

  pub same_first : {i j r a b s : ℕ} → First n Ok phi i j r → First n Ok phi a b s → dependent i j r ≡ dependent a b s
  same_first {i} {j} {r} {a} {b} {s} f g = go (dec_lt i a) (dec_lt a i)
    where
      third : (x : ℕ) → First n Ok phi i j x → dependent i j r ≡ dependent i j x
      third x h = pick (dec_lt r x) (dec_lt x r)
        where
          pick : Dec (r < x) → Dec (x < r) → dependent i j r ≡ dependent i j x
          pick (yes p) q = absurd (h.before_r r p f.here)
          pick (no p) (yes q) = absurd (f.before_r x q h.here)
          pick (no p) (no q) = ap (dependent i j) (omega arith)

      second : (y x : ℕ) → First n Ok phi i y x → dependent i j r ≡ dependent i y x
      second y x h = pick (dec_lt j y) (dec_lt y j)
        where
          pick : Dec (j < y) → Dec (y < j) → dependent i j r ≡ dependent i y x
          pick (yes p) q = absurd (h.before_j j r f.rising p f.counted f.here)
          pick (no p) (yes q) = absurd (f.before_j y x h.rising q h.counted h.here)
          pick (no p) (no q) =
              let e : y ≡ j = omega arith in
              rw e (third x (rw e at h))

      go : Dec (i < a) → Dec (a < i) → dependent i j r ≡ dependent a b s
      go (yes p) q = absurd (not_before g f p)
      go (no p) (yes q) = absurd (not_before f g q)
      go (no p) (no q) =
          let e : a ≡ i = omega arith in
          rw e (second b s (rw e at g))

module _ {n : ℕ} {Ok : List Ternary → List Ternary → Type 0} {phi : Step} (L : Laws n phi) (F : Family n Ok) where
  -- where there is a first disagreement, not all full orders agree
  pub first_dependent : {i j r : ℕ} → First n Ok phi i j r → Independent n Ok phi → ⊥
  first_dependent {i} {j} {r} f ind = (judged_iff L F).0 ind i j r f.one f.rising f.last f.counted f.here

  pub one_answer : (v w : Verdict) → Judged n Ok phi v → Judged n Ok phi w → v ≡ w
  one_answer independent independent p q = refl
  one_answer independent (dependent i j r) p q = absurd (first_dependent q p)
  one_answer (dependent i j r) independent p q = absurd (first_dependent p q)
  one_answer (dependent i j r) (dependent a b s) p q = same_first p q

  pub independent_exactly : (v : Verdict) → Judged n Ok phi v → (v ≡ independent) ↔ Independent n Ok phi
  independent_exactly independent p = (λ _. p, λ _. refl)
  independent_exactly (dependent i j r) p = (λ e. absurd (let z : ◌≡◌ {A = ℕ} 0 1 = cc in omega arith), λ ind. absurd (first_dependent p ind))
