-- Opening, line by line. Assumes nothing.
use mathlib.Core.Path.{◌≡◌, refl, ap, ◌∙◌}
use mathlib.Core.Bool.{true, false, cond}
use mathlib.Core.List.{List}
use Prim.Native.Nat.{ℕ, suc, ◌+◌, ◌-◌, ◌≤◌, ◌<◌}
use native.Mathlib.Omega.{arith}
use lib.ListN.{length, drop, length-drop}
use lib.Seq.{length-take-le}
use Rattle.files.specs.Parts.{split, between, next_mark}
use Rattle.files.specs.Files.{LF}
use Rattle.files.proofs.Parts.{next_ge, split_next, split_last}
use Rattle.line.specs.Told.{is_entry}
use Rattle.std.specs.Prelude.{Result, Ok, Err}
use Rattle.refusal.specs.declared.Fault.TheVariants.{Book}
use Rattle.refusal.specs.declared.Refusal.{Refusal}
use Rattle.book.specs.declared.Good.{Good}
use Rattle.book.specs.Book.{fault_at, opened_from, opened_file}

-- the answer from place s on, k entries ending there
abbrev pub from_here : List ℕ → ℕ → ℕ → Result Good Refusal
from_here f s k = opened_from s k (split LF (drop s f)).0 (split LF (drop s f)).1

pub at_start : (f : List ℕ) → opened_file f ≡ from_here f 0 0
unfolding opened_file
at_start f = refl

module _ (f : List ℕ) (s e k : ℕ) (inside : s ≤ length f) (q : e ≡ next_mark LF f s) where
  pub in_order : s ≤ e
  in_order = omega (arith, next_ge LF f s)

  turn : e < length f → from_here f s k ≡ cond (is_entry s (between s e f)) (from_here f (e + 1) (suc k)) (Err (fault_at Book s))
  turn h =
      let p = split_next LF (λ z. omega arith) f s e inside q h in
      let n : s + suc (length (between s e f)) ≡ e + 1 = omega (arith, in_order, length-take-le (e - s) (drop s f) (omega (arith, length-drop s f))) in
      ap (λ (x : List (List ℕ) × List ℕ). opened_from s k x.0 x.1) p
      ∙ ap
      (λ (m : ℕ). cond (is_entry s (between s e f))
      (opened_from m (suc k) (split LF (drop (e + 1) f)).0 (split LF (drop (e + 1) f)).1) (Err (fault_at Book s))) n

  pub line_fails : e < length f → is_entry s (between s e f) ≡ false → from_here f s k ≡ Err (fault_at Book s)
  line_fails h i = turn h ∙ rw i

  pub line_holds : e < length f → is_entry s (between s e f) ≡ true → from_here f s k ≡ from_here f (e + 1) (k + 1)
  line_holds h i =
      let m : suc k ≡ k + 1 = omega arith in
      turn h ∙ rw (i, m)

  pub no_line : length f ≤ e → from_here f s k ≡ Ok (record { entries = k; good = s; torn = length f - s })
  no_line h =
      ap (λ (x : List (List ℕ) × List ℕ). opened_from s k x.0 x.1) (split_last LF (λ z. omega arith) f s e inside q h)
      ∙ ap (λ (t : ℕ). Ok (record { entries = k; good = s; torn = t })) (length-drop s f)
