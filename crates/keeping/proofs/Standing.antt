-- What it tells that a verdict's line stands in a book. Assumes nothing.
use Prim.Native.Nat.{ℕ, suc, ◌+◌, ◌≤◌, ◌<◌}
use mathlib.Core.Path.{◌≡◌, refl, sym, ap, ◌∙◌}
use mathlib.Core.Logic.{◌≢◌, ⊎_elim}
use mathlib.Core.Bool.{Bool, true, false, cond, ◌&&◌}
use mathlib.Core.List.{List, [], ◌∷◌, ◌++◌}
use native.Mathlib.Omega.{arith}
use borrow.Author.Tests.{eqb-true}
use Rattle.std.specs.Prelude.{None, Some}
use lib.ListN.{length, get_or, take, drop, length-append, length-drop, get_or-eq_default}
use lib.Seq.{take-add, length-take-le, get_or-take, get_or-drop, get_or-append_seam, ext_get_or}
use Rattle.base.proofs.Bools.{lt_or_ge}
use Rattle.base.proofs.Search.{every_at}
use Rattle.verdict.specs.Verdict as words
use Rattle.files.specs.Files.{LF}
use Rattle.entry.specs.Entry.{entry}
use Rattle.handed.specs.Handed.{Handed, verdict_of, fits_layout}
use Rattle.entry.specs.Draft.{length_of}
use Rattle.handed.proofs.Fit.{parts_of}
use Rattle.entry.proofs.Orders.{draft_verdict}
use Rattle.entry.proofs.Sizes.{unfit_of, fit_of, size_of}
use Rattle.book.specs.Book.{line_of}
use Rattle.listing.specs.Next.{stands_in}
use Rattle.keeping.specs.Keeping.{Ends, standing}

module _ (book : List ℕ) (s : ℕ) (h : Handed) where
  line_long : length (line_of s h) ≡ suc (length (entry s (verdict_of h)))
  line_long = length-append (entry s (verdict_of h)) (LF ∷ []) ∙ omega arith

  -- ---- from `standing` to the bytes

  by_tests : (a b : Bool) (n : ℕ) → cond (a && b) n 0 ≢ 0 → (a ≡ true) × (b ≡ true) × (cond (a && b) n 0 ≡ n)
  by_tests true true n z = (refl, refl, refl)
  by_tests true false n z = absurd (z refl)
  by_tests false b n z = absurd (z refl)

  module _ (there : standing book s h ≢ 0) where
    tests : (fits_layout h ≡ true) × (stands_in book s h (length (line_of s h)) ≡ true) × (standing book s h ≡ length (line_of s h))
    unfolding standing
    tests = by_tests (fits_layout h) (stands_in book s h (length (line_of s h))) (length (line_of s h)) there

    pub stands_fit : fits_layout h ≡ true
    stands_fit = tests.0

    pub stands_long : standing book s h ≡ length (line_of s h)
    stands_long = tests.2

    byte_there : (k : ℕ) → k < length (line_of s h) → get_or book (s + k) 0 ≡ get_or (line_of s h) k 0
    unfolding stands_in
    byte_there k l =
        eqb-true _ _ (every_at _ (length (line_of s h)) k tests.1 l)
        ∙ ap (λ (v : words.Verdict). get_or (entry s v ++ (LF ∷ [])) k 0) (draft_verdict h (parts_of h stands_fit).found)

    -- the last byte is no zero, so the book reaches as far
    pub stands_inside : s + length (line_of s h) ≤ length book
    stands_inside =
        let k : ℕ = length (entry s (verdict_of h)) in
        let e : get_or book (s + k) 0 ≡ LF = byte_there k (omega (arith, line_long)) ∙ get_or-append_seam (entry s (verdict_of h)) LF [] 0 in
        ⊎_elim (λ (l : s + k < length book). omega (arith, line_long))
        (λ (g : length book ≤ s + k). absurd (omega (arith, e, get_or-eq_default book 0 {n = s + k} g)))
        (lt_or_ge (s + k) (length book))

    pub stands_bytes : take (s + length (line_of s h)) book ≡ take s book ++ line_of s h
    stands_bytes =
        let n : ℕ = length (line_of s h) in
        let l : length (take (length (line_of s h)) (drop s book)) ≡ length (line_of s h) =
        length-take-le (length (line_of s h)) (drop s book) (omega (arith, length-drop s book, stands_inside)) in
        take-add s n book
        ∙ ap (λ (r : List ℕ). take s book ++ r)
        (ext_get_or 0 (take n (drop s book)) (line_of s h) l
        (λ k q. get_or-take n (drop s book) k 0 (omega (arith, l)) ∙ get_or-drop s book k 0 ∙ byte_there k (omega (arith, l))))

  -- ---- from the line's length and the comparison to where the line ends

  pub ends_nowhere : None ≡ length_of h → Ends book s h None
  unfolding standing
  ends_nowhere z = rw (unfit_of h z)

  module _ (w : ℕ) (size : Some w ≡ length_of h) (b : Bool) (q : b ≡ stands_in book s h w) where
    long : length (line_of s h) ≡ w
    long = line_long ∙ size_of h w size s

    compared : standing book s h ≡ cond b w 0
    unfolding standing
    compared = rw (fit_of h w size, long, ← q)

    pub ends_there : b ≡ true → Ends book s h (Some (s + w))
    ends_there e =
        let z : standing book s h ≡ w = rw e at compared in
        (λ y. omega (arith, size_of h w size s), ap (λ (n : ℕ). s + n) (sym z))

    pub ends_inside : b ≡ true → s + w ≤ length book
    ends_inside e = omega (arith, long, stands_inside (ends_there e).0)

    pub differs : b ≡ false → Ends book s h None
    differs e = rw e at compared
