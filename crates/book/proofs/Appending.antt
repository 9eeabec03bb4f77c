-- The outcomes of an append at a place. Assumes nothing.
use mathlib.Core.Path.{◌≡◌, ap, ◌∙◌}
use mathlib.Core.List.{List, [], ◌∷◌, ◌++◌}
use Prim.Native.Nat.{ℕ, ◌+◌, ◌-◌, ◌≤◌, ◌<◌, max}
use native.Mathlib.Omega.{arith}
use borrow.Author.Tests.{le-leb, lt-leb}
use lib.ListN.{length, get_or, length-append}
use Rattle.base.specs.Limits.{book_limit}
use Rattle.base.specs.Listed.{listed}
use Rattle.base.proofs.Listed.{listed_is}
use Rattle.verdict.specs.Verdict as words
use Rattle.files.specs.Files.{LF}
use Rattle.entry.specs.Entry.{entry}
use Rattle.handed.specs.Handed.{Handed, verdict_of}
use Rattle.entry.specs.Draft.{draft, length_of}
use Rattle.entry.proofs.Sizes.{unfit_of, fit_of, drafted_of, size_of}
use Rattle.std.specs.Prelude.{Some, None, Ok, Err}
use Rattle.refusal.specs.declared.Fault.TheVariants.{Layout, NoRoom}
use Rattle.book.specs.Book.{fault_at, limit_of, outcome, with_bytes, line_of, appended_at}

pub limit_le : (book : List ℕ) → (limit_of book ≤ length book) × (limit_of book ≤ book_limit)
limit_le book = (omega arith, omega arith)

module _ (book : List ℕ) (stated s : ℕ) (h : Handed) where
  pub at_unfit : None ≡ length_of h → outcome (Err (fault_at Layout 0)) book ≡ appended_at book stated s h
  unfolding appended_at
  at_unfit z = rw (unfit_of h z)

  module _ (w : ℕ) (z : Some w ≡ length_of h) (most : ℕ) (lim : most ≡ limit_of book) where
    long : length (line_of s h) ≡ w
    long = length-append (entry s (verdict_of h)) (LF ∷ []) ∙ omega (arith, size_of h w z s)

    pub at_tight : most - s < w → outcome (Err (fault_at NoRoom s)) book ≡ appended_at book stated s h
    unfolding appended_at
    at_tight g = rw (fit_of h w z, lt-leb (s + length (line_of s h)) (limit_of book) (omega (arith, long)))

    the_line : listed (λ k. get_or (entry s (draft h) ++ (LF ∷ [])) k 0) w ≡ line_of s h
    the_line =
        listed_is (λ k. get_or (entry s (draft h) ++ (LF ∷ [])) k 0) w (line_of s h) 0 long
        (λ k g. ap (λ (v : words.Verdict). get_or (entry s v ++ (LF ∷ [])) k 0) (drafted_of h w z))

    module _ (room : w ≤ most - s) where
      pub in_limit : s + w ≤ limit_of book
      in_limit = omega (arith, size_of h w z s)

      pub at_room : (m : ℕ) (after : List ℕ) → m ≡ max stated (s + w) →
          after ≡ with_bytes book s w (listed (λ k. get_or (entry s (draft h) ++ (LF ∷ [])) k 0) w) → outcome (Ok m) after ≡ appended_at book stated s h
      unfolding appended_at
      at_room m after e b =
          rw (fit_of h w z, le-leb (s + length (line_of s h)) (limit_of book) (omega (arith, long, in_limit)), long, ← the_line, ← b, ← e)
