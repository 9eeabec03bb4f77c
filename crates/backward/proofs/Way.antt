-- The way back meets every entry, from the last to the first. Assumes nothing.
use mathlib.Core.Path.{◌≡◌, refl, ap, ◌∙◌}
use mathlib.Core.Bool.{Bool, true, false, cond}
use mathlib.Core.List.{List, ◌∷◌, ◌++◌, append_assoc}
use Prim.Native.Nat.{ℕ, suc, ◌+◌, ◌-◌, ◌*◌, ◌/◌, ◌≤◌, ◌<◌}
use native.Mathlib.Omega.{arith}
use borrow.Author.Tests.{lt-ltb, le-ltb, ne_eqb, eq-eqb, ltb-true}
use Rattle.std.specs.Prelude.{Ok}
use lib.Dec.{ltb}
use lib.ListN.{length, get_or, length-append}
use lib.Seq.{get_or-append-add}
use Rattle.files.specs.Parts.{join, between}
use Rattle.files.specs.Files.{LF}
use Rattle.files.proofs.Parts.{between_mid}
use Rattle.entry.specs.Entry.{space, digit_of, fields, trailer, entry}
use Rattle.handed.specs.Handed.{Handed, verdict_of, fits_layout}
use Rattle.line.proofs.Round.{entry_is, told_entry}
use Rattle.book.specs.Book.{entry_at}
use Rattle.backward.specs.Back.{number_said, pointed, start_before, fetched_before}

pub start_less : (f : List ℕ) (at : ℕ) → 0 < at → start_before f at < at
unfolding start_before
start_less f at h = go (ltb (pointed f at) at) refl
  where
    go : (b : Bool) → ltb (pointed f at) at ≡ b → cond b (pointed f at) 0 < at
    go true e = ltb-true (pointed f at) at e
    go false e = h

first_figure : (s : ℕ) → s < 100000 → digit_of (s / 10000) - 48 ≡ s / 10000
first_figure s h = omega arith

one_more : (a b : ℕ) → a ≡ b / 10 → a * 10 + (digit_of b - 48) ≡ b
one_more a b e = omega arith

-- five digits of a number below 100,000 say it
said_back : (s : ℕ) → s < 100000 → number_said (digit_of (s / 10000)) (digit_of (s / 1000)) (digit_of (s / 100)) (digit_of (s / 10)) (digit_of s) ≡ s
said_back s h =
    let e4 : s / 10000 ≡ s / 1000 / 10 = omega arith in
    let e3 : s / 1000 ≡ s / 100 / 10 = omega arith in
    let e2 : s / 100 ≡ s / 10 / 10 = omega arith in
    rw (first_figure s h, one_more (s / 10000) (s / 1000) e4, one_more (s / 1000) (s / 100) e3, one_more (s / 100) (s / 10) e2) (one_more (s / 10) s refl)

-- ---- an entry that stands in a book: s bytes before it, and its LF behind it

module _ (before after : List ℕ) (h : Handed) (fits : fits_layout h ≡ true) (small : length before < 100000) where
  abbrev s : ℕ
  s = length before

  abbrev line : List ℕ
  line = entry s (verdict_of h)

  abbrev book : List ℕ
  book = before ++ (line ++ (LF ∷ after))

  -- the place after its LF
  abbrev end : ℕ
  end = s + suc (length line)

  front : List ℕ
  front = join space (fields (verdict_of h))

  long : length line ≡ length front + 6
  unfolding entry front
  long = length-append (join space (fields (verdict_of h))) (trailer s)

  pub book_long : length book ≡ end + length after
  book_long = length-append before (line ++ (LF ∷ after)) ∙ omega (arith, length-append line (LF ∷ after))

  -- byte j of the trailer and the LF
  tail_byte : (j : ℕ) (k : ℕ) → k + j ≡ 7 → 1 ≤ k → get_or book (end - k) 0 ≡ get_or (trailer s ++ (LF ∷ after)) j 0
  unfolding entry front
  tail_byte j k e l =
      let z : end - k ≡ s + (length front + j) = omega (arith, long) in
      ap (λ (i : ℕ). get_or book i 0) z
      ∙ get_or-append-add before (line ++ (LF ∷ after)) (length front + j) 0
      ∙ ap (λ (r : List ℕ). get_or r (length front + j) 0) (append_assoc (join space (fields (verdict_of h))) (trailer s) (LF ∷ after))
      ∙ get_or-append-add (join space (fields (verdict_of h))) (trailer s ++ (LF ∷ after)) j 0

  points : pointed book end ≡ s
  unfolding pointed
  points =
      rw (
        le-ltb end 6 (omega (arith, long)),
        le-ltb (length book) end (omega (arith, book_long)),
        tail_byte 1 6 refl (omega arith),
        tail_byte 2 5 refl (omega arith),
        tail_byte 3 4 refl (omega arith),
        tail_byte 4 3 refl (omega arith),
        tail_byte 5 2 refl (omega arith),
      )
      (said_back s small)

  -- its trailer points to its start
  pub starts : start_before book end ≡ s
  unfolding start_before
  starts = rw (points, lt-ltb s end (omega arith))

  -- and the entry is fetched there
  pub fetches : fetched_before book end ≡ Ok (entry_at s (record { name_length = length h.name; inputs = h.inputs; rows = h.rows; finding = h.finding }))
  unfolding fetched_before
  fetches =
      let l : between s (end - 1) book ≡ line = between_mid LF before line (LF ∷ after) (end - 1) (omega arith) in
      rw (
        ne_eqb end 0 (λ z. omega arith),
        le-ltb (length book) end (omega (arith, book_long)),
        eq-eqb (get_or book (end - 1) 0) LF (tail_byte 6 1 refl (omega arith)),
        starts,
        l,
        entry_is s h fits,
        told_entry s h fits,
      )
