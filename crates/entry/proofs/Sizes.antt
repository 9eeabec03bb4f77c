-- What the length of a line tells of its verdict. Assumes nothing.
use mathlib.Core.Path.{◌≡◌, refl, sym, ap, ◌∙◌}
use mathlib.Core.Bool.{Bool, true, false, cond}
use Prim.Native.Nat.{ℕ, suc}
use native.Mathlib.Omega.{arith}
use lib.ListN.{length}
use Rattle.std.specs.Prelude.{Option, Some, None}
use Rattle.verdict.specs.Verdict as words
use Rattle.entry.specs.Entry.{entry}
use Rattle.handed.specs.Handed.{Handed, verdict_of, fits_layout}
use Rattle.entry.specs.Draft.{draft, length_of}
use Rattle.entry.proofs.Fields.{entry_length}
use Rattle.handed.proofs.Fit.{parts_of}
use Rattle.entry.proofs.Orders.{draft_verdict}

module _ (h : Handed) where
  settle : (b : Bool) → fits_layout h ≡ b → length_of h ≡ cond b (Some (suc (length (entry 0 (draft h))))) None
  settle b e = ap (λ (x : Bool). cond {A = Option ℕ} x (Some (suc (length (entry 0 (draft h))))) None) e

  not_so : (b : Bool) → fits_layout h ≡ b → None ≡ length_of h → fits_layout h ≡ false
  not_so true e z = absurd (let q : None ≡ Some (suc (length (entry 0 (draft h)))) = z ∙ settle true e in let u : ◌≡◌ {A = ℕ} 0 1 = cc in omega arith)
  not_so false e z = e

  so : (b : Bool) → fits_layout h ≡ b → (w : ℕ) → Some w ≡ length_of h → fits_layout h ≡ true
  so true e w z = e
  so false e w z = absurd (let q : Some w ≡ None = z ∙ settle false e in let u : ◌≡◌ {A = ℕ} 0 1 = cc in omega arith)

  -- no length: the verdict does not fit
  pub unfit_of : None ≡ length_of h → fits_layout h ≡ false
  unfit_of z = not_so (fits_layout h) refl z

  module _ (w : ℕ) (z : Some w ≡ length_of h) where
    pub fit_of : fits_layout h ≡ true
    fit_of = so (fits_layout h) refl w z

    pub drafted_of : draft h ≡ verdict_of h
    drafted_of = draft_verdict h (parts_of h fit_of).found

    -- else it is the length of the entry with its LF, wherever it starts
    pub size_of : (s : ℕ) → suc (length (entry s (verdict_of h))) ≡ w
    size_of s =
        let a : length (entry s (verdict_of h)) ≡ length (entry s (draft h)) = ap (λ (v : words.Verdict). length (entry s v)) (sym drafted_of) in
        let q : Some w ≡ Some (suc (length (entry 0 (draft h)))) = z ∙ settle true fit_of in
        let e : w ≡ suc (length (entry 0 (draft h))) = cc in
        omega (arith, a, entry_length s (draft h), entry_length 0 (draft h), e)
