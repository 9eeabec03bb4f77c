-- Each value of the vector that a number stands for, by its place. Assumes nothing.
use mathlib.Core.Path.{◌≡◌, refl, sym, ◌∙◌}
use mathlib.Core.Logic.{◌≢◌, ⊎_elim}
use mathlib.Core.List.{[], ◌∷◌}
use Prim.Native.Nat.{ℕ, zero, suc, ◌-◌, ◌/◌, ◌%◌, ◌≤◌, ◌<◌}
use native.Mathlib.Nat.{eq-or-lt_of_le, le_of_suc-le-suc}
use native.Mathlib.Omega.{arith}
use lib.ListN.{get_or, get_or-append, get_or-eq_default}
use lib.Seq.{get_or_at}
use Rattle.value.specs.Value.{value_of}
use Rattle.value.specs.declared.Ternary.{Ternary}
use Rattle.value.specs.declared.Ternary.TheVariants.{V0}
use Rattle.orders.specs.Vectors.{at, vector_of}
use Rattle.orders.proofs.Candidates.{length_vector_of}
use Rattle.handed.specs.Handed.{thirds}

pub thirds_step : (c m : ℕ) → 0 < m → thirds c m ≡ thirds (c / 3) (m - 1)
unfolding thirds
thirds_step c zero h = absurd (omega arith)
thirds_step c (suc m) h =
    let e : suc m - 1 ≡ m = omega arith in
    rw e

pub thirds_end : (c m : ℕ) → m ≤ 0 → thirds c m ≡ c
unfolding thirds
thirds_end c zero h = refl
thirds_end c (suc m) h = absurd (omega arith)

pub vector_at : (n c k : ℕ) → k < n → get_or (vector_of n c) k V0 ≡ value_of (thirds c (n - 1 - k) % 3)
unfolding vector_of
vector_at zero c k h = absurd (omega arith)
vector_at (suc n) c k h = ⊎_elim last (λ l. front l (vector_at n (c / 3) k l)) (eq-or-lt_of_le (le_of_suc-le-suc h))
  where
    last : k ≡ n → get_or (vector_of (suc n) c) k V0 ≡ value_of (thirds c (suc n - 1 - k) % 3)
    last e =
        let z : suc n - 1 - k ≤ 0 = omega arith in
        rw (thirds_end c (suc n - 1 - k) z) (get_or_at (vector_of n (c / 3)) (value_of (c % 3)) [] V0 k (length_vector_of n (c / 3) ∙ sym e))

    front : k < n → get_or (vector_of n (c / 3)) k V0 ≡ value_of (thirds (c / 3) (n - 1 - k) % 3) → get_or (vector_of (suc n) c) k V0 ≡ value_of (thirds c (suc n - 1 - k) % 3)
    front l below =
        let z : 0 < suc n - 1 - k = omega arith in
        let y : suc n - 1 - k - 1 ≡ n - 1 - k = omega arith in
        rw (thirds_step c (suc n - 1 - k) z, y)
        (get_or-append (vector_of n (c / 3)) (value_of (c % 3) ∷ []) V0 k (omega (arith, length_vector_of n (c / 3))) ∙ below)

pub vector_past : (n c k : ℕ) → n ≤ k → V0 ≡ get_or (vector_of n c) k V0
vector_past n c k h = sym (get_or-eq_default (vector_of n c) V0 (omega (arith, length_vector_of n c)))

pub input_is : (n c j : ℕ) (r : Ternary) → j ≢ 0 → r ≡ get_or (vector_of n c) (j - 1) V0 → r ≡ at (vector_of n c) j
input_is n c zero r h e = absurd (h refl)
input_is n c (suc j) r h e =
    let z : suc j - 1 ≡ j = omega arith in
    rw z at e
