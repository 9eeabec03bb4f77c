-- After any run, the way back from the good length meets the stored verdicts, the last first, each as fetch yields it. Assumes nothing.
use mathlib.Core.Path.{◌≡◌, sym, ap, ap₂, ◌∙◌}
use mathlib.Core.Bool.{true}
use mathlib.Core.List.{List, ◌++◌}
use Prim.Native.Nat.{ℕ, suc, ◌≤◌, ◌<◌}
use native.Mathlib.Omega.{arith}
use lib.ListN.{length, get_or, take}
use lib.Seq.{take-length}
use Rattle.base.specs.Limits.{book_limit}
use Rattle.handed.specs.Handed.{Handed, fits_layout}
use Rattle.book.specs.Book.{fetched}
use Rattle.book.specs.Runs.{book_of, AllFit, Event, Run, stored}
use Rattle.book.proofs.Kept.{Kept, standing, fetched_is, ahead, behind, fit_at, starts_at, ends_at, ahead_short}
use Rattle.book.proofs.Runs.{run_kept}
use Rattle.backward.specs.Back.{start_before, fetched_before}
use Rattle.backward.proofs.Way.{starts, fetches}

module _ {base : List Handed} {es : List Event} {f : List ℕ} (v : AllFit base) (l : length (book_of base) ≤ book_limit)
    (r : Run base es f) (rest : List ℕ) where
  abbrev hs : List Handed
  hs = stored base es

  kept : Kept f hs
  kept = run_kept v l r

  module _ (d : Handed) (i : ℕ) (inside : i < length hs) where
    abbrev before : List ℕ
    before = ahead f hs kept rest d i inside

    abbrev after : List ℕ
    after = behind f hs kept rest d i inside

    fits : fits_layout (get_or hs i d) ≡ true
    fits = fit_at d i kept.fit inside

    few : length before < 100000
    few = omega (arith, ahead_short f hs kept rest d i inside)

    -- the trailer of entry i + 1 points to where that entry starts, which is where the i entries before it end
    pub step_back : start_before (f ++ rest) (length (book_of (take (suc i) hs))) ≡ length (book_of (take i hs))
    step_back =
        ap₂ start_before (standing f hs kept rest d i inside) (ends_at f hs kept rest d i inside)
        ∙ starts before after (get_or hs i d) fits few
        ∙ sym (starts_at f hs kept rest d i inside)

    -- and what is read there is what fetch yields
    pub read_back : fetched_before (f ++ rest) (length (book_of (take (suc i) hs))) ≡ fetched (f ++ rest) (length f) (suc i)
    read_back =
        ap₂ fetched_before (standing f hs kept rest d i inside) (ends_at f hs kept rest d i inside)
        ∙ fetches before after (get_or hs i d) fits few
        ∙ sym (fetched_is f hs kept rest d i inside)

  -- the way begins at the good length, which is where all entries end
  pub begins : length (book_of (take (length hs) hs)) ≡ length (book_of hs)
  begins = ap (λ (x : List Handed). length (book_of x)) (take-length hs)
