-- What a loop that writes leaves, as one list. Assumes nothing.
use mathlib.Core.Path.{◌≡◌, sym, ap, ◌∙◌}
use mathlib.Core.Logic.{⊎_elim}
use mathlib.Core.List.{List, ◌++◌}
use Prim.Native.Nat.{ℕ, ◌+◌, ◌-◌, ◌≤◌, ◌<◌}
use native.Mathlib.Omega.{arith}
use lib.ListN.{length, get_or, take, drop, length-append, length-drop, get_or-append}
use lib.Seq.{ext_get_or, length-take-le, get_or-take, get_or-drop, get_or-append-add}
use Rattle.base.specs.Listed.{listed}
use Rattle.base.proofs.Listed.{listed_length, listed_at}
use Rattle.base.proofs.Patched.{Patched}
use Rattle.base.proofs.Bools.{lt_or_ge}
use Rattle.book.specs.Book.{with_bytes}

module _ (f : ℕ → ℕ) (s : ℕ) (a l : List ℕ) (n : ℕ) (w : Patched f s a l n) (room : s + n ≤ length a) where
  front : length (take s a) ≡ s
  front = length-take-le s a (omega arith)

  back : List ℕ
  back = listed f n ++ drop (s + n) a

  byte : (k : ℕ) → get_or l k 0 ≡ get_or (take s a ++ back) k 0
  unfolding back
  byte k = ⊎_elim before (λ (g : s ≤ k). ⊎_elim (within g) (behind g) (lt_or_ge k (s + n))) (lt_or_ge k s)
    where
      before : k < s → get_or l k 0 ≡ get_or (take s a ++ back) k 0
      before h = w.below k h ∙ sym (get_or-append (take s a) back 0 k (omega (arith, front)) ∙ get_or-take s a k 0 h)

      far : s ≤ k → get_or (take s a ++ back) k 0 ≡ get_or back (k - s) 0
      far g =
          let e : k ≡ length (take s a) + (k - s) = omega (arith, front) in
          ap (λ (j : ℕ). get_or (take s a ++ back) j 0) e ∙ get_or-append-add (take s a) back (k - s) 0

      within : s ≤ k → k < s + n → get_or l k 0 ≡ get_or (take s a ++ back) k 0
      within g h =
          let e : k ≡ s + (k - s) = omega arith in
          ap (λ (j : ℕ). get_or l j 0) e
          ∙ w.inside (k - s) (omega arith)
          ∙ sym (far g ∙ get_or-append (listed f n) (drop (s + n) a) 0 (k - s) (omega (arith, listed_length f n)) ∙ listed_at f n (k - s) 0 (omega arith))

      behind : s ≤ k → s + n ≤ k → get_or l k 0 ≡ get_or (take s a ++ back) k 0
      behind g h =
          let e : k - s ≡ length (listed f n) + (k - (s + n)) = omega (arith, listed_length f n) in
          let z : (s + n) + (k - (s + n)) ≡ k = omega arith in
          w.above k h
          ∙ sym
          (far g
          ∙ ap (λ (j : ℕ). get_or back j 0) e
          ∙ get_or-append-add (listed f n) (drop (s + n) a) (k - (s + n)) 0
          ∙ get_or-drop (s + n) a (k - (s + n)) 0
          ∙ ap (λ (j : ℕ). get_or a j 0) z)

  pub patched_bytes : l ≡ with_bytes a s n (listed f n)
  unfolding back
  patched_bytes =
      ext_get_or 0 l (take s a ++ back) (w.long ∙ sym (length-append (take s a) back ∙ omega (arith, front, length-append (listed f n) (drop (s + n) a), listed_length f n, length-drop (s + n) a))) (λ k h. byte k)
