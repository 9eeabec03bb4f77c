-- A loop that fills an array from the front. Assumes nothing.
use Prim.Native.Nat.{ℕ, ◌+◌, ◌<◌, ◌≤◌}
use mathlib.Core.Path.{◌≡◌, ◌∙◌}
use mathlib.Core.List.{List}
use mathlib.Core.Logic.{⊎_elim}
use native.Mathlib.Nat.{eq-or-lt_of_le}
use native.Mathlib.Omega.{arith}
use lib.ListN.{length, set, get_or, replicate, length-set, length-replicate}
use lib.Seq.{get_or-set_same, get_or-set_other}

module _ {A : Type 0} (d : A) (P : ℕ → A → Type 0) (n : ℕ) where
  -- l has n elements, and P holds of the first k of them
  pub record Each (l : List A) (k : ℕ) : Type 0 where
    pub long : length l ≡ n
    pub at : (e : ℕ) → e < k → P e (get_or l e d)

  pub each_none : (v : A) → Each (replicate n v) 0
  each_none v = record { long = length-replicate n v; at = λ e h. absurd (omega arith) }

  pub each_more : (l : List A) (k : ℕ) (v : A) → k < n → P k v → Each l k → Each (set l k v) (k + 1)
  each_more l k v h p s = record {
    long = length-set l k v ∙ s.long;
    at = λ e lt. ⊎_elim
        (λ (q : e ≡ k). rw (q, get_or-set_same l k v d (omega (arith, s.long))) p)
        (λ (q : e < k). rw (get_or-set_other l k e v d (λ z. omega arith)) (s.at e q))
        (eq-or-lt_of_le {n = e} {m = k} (omega arith));
  }

  pub each_all : (l : List A) (m k : ℕ) → m ≤ k → Each l k → (e : ℕ) → e < m → P e (get_or l e d)
  each_all l m k h s e lt = s.at e (omega arith)
