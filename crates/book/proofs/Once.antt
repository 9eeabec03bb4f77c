-- No two different answers satisfy the contract of a call; a refused append changes no byte, and any other only the entry's places. Assumes nothing.
use mathlib.Core.Path.{◌≡◌, refl, sym, ap, ◌∙◌}
use mathlib.Core.Bool.{Bool, true, false, cond}
use mathlib.Core.List.{List, ◌++◌}
use Prim.Native.Nat.{ℕ, ◌+◌, ◌-◌, ◌≤◌, ◌<◌, max}
use native.Mathlib.Omega.{arith}
use borrow.Author.Tests.{leb-true}
use lib.Dec.{leb}
use lib.ListN.{length, get_or, take, drop, length-append, length-drop, get_or-append}
use lib.Seq.{length-take-le, get_or-take, get_or-drop, get_or-append-add}
use Rattle.handed.specs.Handed.{Handed, fits_layout}
use Rattle.std.specs.Prelude.{Result, Ok, Err}
use Rattle.refusal.specs.declared.Fault.TheVariants.{Layout, NoRoom}
use Rattle.refusal.specs.declared.Refusal.{Refusal}
use Rattle.book.specs.declared.Good.{Good}
use Rattle.book.specs.declared.Entry.{Entry}
use Rattle.book.specs.Book.{fault_at, limit_of, opened, on_opened, Outcome, outcome, with_bytes, line_of, written, refusal, appended_at, appended, fetched}
use Rattle.book.proofs.Appending.{limit_le}

pub one_opening : (book : List ℕ) (stated : ℕ) (a b : Result Good Refusal) → a ≡ opened book stated → b ≡ opened book stated → a ≡ b
one_opening book stated a b p q = p ∙ sym q

pub one_fetch : (book : List ℕ) (stated k : ℕ) (a b : Result Entry Refusal) → a ≡ fetched book stated k → b ≡ fetched book stated k → a ≡ b
one_fetch book stated k a b p q = p ∙ sym q

pub one_append : (book : List ℕ) (stated : ℕ) (h : Handed) (a b : Result ℕ Refusal) (x y : List ℕ) →
    outcome a x ≡ appended book stated h → outcome b y ≡ appended book stated h → (a ≡ b) × (x ≡ y)
one_append book stated h a b x y p q = (ap (λ (o : Outcome). o.answer) (p ∙ sym q), ap (λ (o : Outcome). o.bytes) (p ∙ sym q))

-- ---- what an append leaves, whatever the book

-- the bytes are the book's own, or the book with a line at a place where it has room
pub data Left (book : List ℕ) : Outcome → Type 0 where
  same_bytes : (r : Refusal) → Left book (refusal book r)
  line_put : (m s : ℕ) (line : List ℕ) → s + length line ≤ length book → Left book (outcome (Ok m) (with_bytes book s (length line) line))

module _ (book : List ℕ) (stated : ℕ) (h : Handed) where
  at_tests : (s : ℕ) (x y : Bool) → leb (s + length (line_of s h)) (limit_of book) ≡ y →
      Left book (cond x (cond y (written book stated s (line_of s h)) (refusal book (fault_at NoRoom s))) (refusal book (fault_at Layout 0)))
  at_tests s true true e = line_put (max stated (s + length (line_of s h))) s (line_of s h) (omega (arith, leb-true (s + length (line_of s h)) (limit_of book) e, (limit_le book).0))
  at_tests s true false e = same_bytes (fault_at NoRoom s)
  at_tests s false y e = same_bytes (fault_at Layout 0)

  at_left : (s : ℕ) → Left book (appended_at book stated s h)
  unfolding appended_at
  at_left s = at_tests s (fits_layout h) (leb (s + length (line_of s h)) (limit_of book)) refl

  by_opening : (o : Result Good Refusal) → Left book (on_opened o (λ g. appended_at book stated g.good h) (refusal book))
  by_opening (Ok g) = at_left g.good
  by_opening (Err r) = same_bytes r

  pub append_leaves : Left book (appended book stated h)
  unfolding appended
  append_leaves = by_opening (opened book stated)

left_refused : {book : List ℕ} {o : Outcome} (r : Refusal) → Left book o → o.answer ≡ Err r → o.bytes ≡ book
left_refused r (same_bytes a) e = refl
left_refused r (line_put m s line room) e = absurd (let z : ◌≡◌ {A = ℕ} 0 1 = cc in omega arith)

-- a refused append changes no byte
pub refused_same : (book : List ℕ) (stated : ℕ) (h : Handed) (r : Refusal) → (appended book stated h).answer ≡ Err r → (appended book stated h).bytes ≡ book
refused_same book stated h r e = left_refused r (append_leaves book stated h) e

-- a line put at place s changes no other place, and not the length
module _ (book : List ℕ) (s : ℕ) (line : List ℕ) (room : s + length line ≤ length book) where
  front : length (take s book) ≡ s
  front = length-take-le s book (omega arith)

  pub put_length : length (with_bytes book s (length line) line) ≡ length book
  put_length =
      length-append (take s book) (line ++ drop (s + length line) book)
      ∙ omega (arith, front, length-append line (drop (s + length line) book), length-drop (s + length line) book)

  pub put_before : (k : ℕ) → k < s → get_or (with_bytes book s (length line) line) k 0 ≡ get_or book k 0
  put_before k h = get_or-append (take s book) (line ++ drop (s + length line) book) 0 k (omega (arith, front)) ∙ get_or-take s book k 0 h

  pub put_behind : (k : ℕ) → s + length line ≤ k → get_or (with_bytes book s (length line) line) k 0 ≡ get_or book k 0
  put_behind k h =
      let i : ℕ = k - (s + length line) in
      let e : k ≡ length (take s book) + (length line + (k - (s + length line))) = omega (arith, front) in
      let z : s + length line + (k - (s + length line)) ≡ k = omega arith in
      ap (λ (j : ℕ). get_or (with_bytes book s (length line) line) j 0) e
      ∙ get_or-append-add (take s book) (line ++ drop (s + length line) book) (length line + i) 0
      ∙ get_or-append-add line (drop (s + length line) book) i 0
      ∙ get_or-drop (s + length line) book i 0
      ∙ ap (λ (j : ℕ). get_or book j 0) z
