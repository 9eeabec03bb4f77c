-- A file that holds verdicts, and what the calls answer to it. Assumes nothing.
use mathlib.Core.Path.{◌≡◌, refl, sym, ap, ap₂, ◌∙◌}
use mathlib.Core.Bool.{Bool, true, false, cond}
use mathlib.Core.List.{List, [], ◌∷◌, ◌++◌, append_assoc}
use Prim.Native.Nat.{ℕ, zero, suc, ◌+◌, ◌-◌, ◌≤◌, ◌<◌, max}
use native.Mathlib.Omega.{arith}
use borrow.Author.Tests.{le-ltb, ne_eqb, leb-true}
use lib.Dec.{leb}
use lib.ListN.{length, get_or, take, drop, length-append}
use lib.Seq.{take-append_seam, drop-append_seam, take-append-le}
use Rattle.base.specs.Limits.{book_limit}
use Rattle.files.specs.Parts.{Without, join, split, after_mark, part_at}
use Rattle.files.specs.Files.{LF, good, whole, Cut}
use Rattle.files.proofs.Parts.{Clean, none, more, split_join, part_in, after_join, part_join, join_snoc}
use Rattle.files.proofs.Files.{Held, held_good, held_whole, held_cut, held_lines, after_append, length_whole}
use Rattle.entry.specs.Entry.{entry}
use Rattle.handed.specs.Handed.{Handed, verdict_of, fits_layout}
use Rattle.handed.proofs.Fit.{parts_of}
use Rattle.entry.proofs.Clean.{entry_line}
use Rattle.line.specs.Told.{Told, told_by}
use Rattle.line.proofs.Round.{told_entry, entry_is, name_of_entry, name_in_entry}
use Rattle.book.specs.declared.Good.{Good}
use Rattle.std.specs.Prelude.{Ok}
use Rattle.refusal.specs.declared.Fault.TheVariants.{Layout, NoRoom}
use Rattle.book.specs.declared.Entry.{Entry}
use Rattle.book.specs.Book.{fault_at, limit_of, opened_from, opened_file, opened, Outcome, line_of, written, with_bytes, refusal, appended_at, appended, entry_at, entry_of, fetched}
use Rattle.book.specs.Runs.{lines_from, book_of, AllFit, none_left, one_fits, held_in}
use Rattle.book.proofs.Appending.{limit_le}

-- ---- the lines of verdicts

entry_clean : (s : ℕ) (h : Handed) → fits_layout h ≡ true → Without LF (entry s (verdict_of h))
entry_clean s h f = entry_line s (verdict_of h) (parts_of h f).named

lines_clean : (s : ℕ) {hs : List Handed} → AllFit hs → Clean LF (lines_from s hs)
lines_clean s none_left = none
lines_clean s (one_fits {h} f fs) = more (entry_clean s h f) (lines_clean (s + suc (length (entry s (verdict_of h)))) fs)

lines_length : (s : ℕ) (hs : List Handed) → length (lines_from s hs) ≡ length hs
lines_length s [] = refl
lines_length s (h ∷ hs) = ap suc (lines_length (s + suc (length (entry s (verdict_of h)))) hs)

joined : (b : List ℕ) (bs : List (List ℕ)) → length (join LF (b ∷ bs)) ≡ suc (length b) + length (join LF bs)
joined b bs = length-append b (LF ∷ join LF bs) ∙ omega arith

lines_snoc : (s : ℕ) (hs : List Handed) (h : Handed) (n : ℕ) → n ≡ s + length (join LF (lines_from s hs)) → lines_from s (hs ++ (h ∷ [])) ≡ lines_from s hs ++ (entry n (verdict_of h) ∷ [])
lines_snoc s [] h n e =
    let z : n ≡ s = omega arith in
    rw z
lines_snoc s (a ∷ hs) h n e =
    let b : List ℕ = entry s (verdict_of a) in
    ap (λ (l : List (List ℕ)). b ∷ l) (lines_snoc (s + suc (length b)) hs h n (omega (arith, joined b (lines_from (s + suc (length b)) hs))))

-- a verdict more is a line more
pub book_snoc : (s : ℕ) (hs : List Handed) (h : Handed) (n : ℕ) → n ≡ s + length (join LF (lines_from s hs)) → join LF (lines_from s (hs ++ (h ∷ []))) ≡ join LF (lines_from s hs) ++ line_of n h
book_snoc s hs h n e = ap (join LF) (lines_snoc s hs h n e) ∙ join_snoc LF (lines_from s hs) (entry n (verdict_of h))

line_at : (s : ℕ) (hs : List Handed) (d : Handed) (k : ℕ) → k < length hs →
    get_or (lines_from s hs) k [] ≡ entry (s + length (join LF (take k (lines_from s hs)))) (verdict_of (get_or hs k d))
line_at s [] d k h = absurd (omega arith)
line_at s (a ∷ hs) d zero h =
    let z : s + 0 ≡ s = omega arith in
    rw z
line_at s (a ∷ hs) d (suc k) h =
    let b : List ℕ = entry s (verdict_of a) in
    let r : List (List ℕ) = take k (lines_from (s + suc (length b)) hs) in
    let z : s + suc (length b) + length (join LF r) ≡ s + length (join LF (b ∷ r)) = omega (arith, joined b r) in
    line_at (s + suc (length b)) hs d k (omega arith) ∙ ap (λ (n : ℕ). entry n (verdict_of (get_or hs k d))) z

pub fit_at : {hs : List Handed} (d : Handed) (k : ℕ) → AllFit hs → k < length hs → fits_layout (get_or hs k d) ≡ true
fit_at d k none_left h = absurd (omega arith)
fit_at d zero (one_fits f fs) h = f
fit_at d (suc k) (one_fits f fs) h = fit_at d k fs (omega arith)

pub fit_snoc : {hs : List Handed} (h : Handed) → AllFit hs → fits_layout h ≡ true → AllFit (hs ++ (h ∷ []))
fit_snoc h none_left g = one_fits g none_left
fit_snoc h (one_fits f fs) g = one_fits f (fit_snoc h fs g)

opened_lines : (s k : ℕ) {hs : List Handed} (t : List ℕ) → AllFit hs →
    opened_from s k (lines_from s hs) t ≡ Ok (record { entries = k + length hs; good = s + length (join LF (lines_from s hs)); torn = length t })
opened_lines s k t none_left =
    let a : k + 0 ≡ k = omega arith in
    let b : s + 0 ≡ s = omega arith in
    rw (a, b)
opened_lines s k t (one_fits {h} {hs} f fs) =
    let b : List ℕ = entry s (verdict_of h) in
    let m : ℕ = s + suc (length b) in
    let x : suc k + length hs ≡ k + suc (length hs) = omega arith in
    let y : m + length (join LF (lines_from m hs)) ≡ s + length (join LF (b ∷ lines_from m hs)) = omega (arith, joined b (lines_from m hs)) in
    rw (entry_is s h f) (opened_lines m (suc k) t fs ∙ rw (x, y))

-- the first i lines are the lines of the first i verdicts
take_lines : (s : ℕ) (hs : List Handed) (i : ℕ) → take i (lines_from s hs) ≡ lines_from s (take i hs)
take_lines s hs zero = refl
take_lines s [] (suc i) = refl
take_lines s (h ∷ hs) (suc i) = ap (λ (l : List (List ℕ)). entry s (verdict_of h) ∷ l) (take_lines (s + suc (length (entry s (verdict_of h)))) hs i)

-- one line more
one_line : (bs : List (List ℕ)) (i : ℕ) → i < length bs → length (join LF (take (suc i) bs)) ≡ length (join LF (take i bs)) + suc (length (get_or bs i []))
one_line [] i h = absurd (omega arith)
one_line (b ∷ bs) zero h = joined b [] ∙ omega arith
one_line (b ∷ bs) (suc i) h = joined b (take (suc i) bs) ∙ omega (arith, one_line bs i (omega arith), joined b (take i bs))

-- ---- a file that holds verdicts: their lines, then bytes without LF

pub record Kept (f : List ℕ) (hs : List Handed) : Type 0 where
  pub held : Held f (lines_from 0 hs)
  pub fit : AllFit hs
  pub short : length f ≤ book_limit

pub kept_book : (hs : List Handed) → AllFit hs → length (book_of hs) ≤ book_limit → Kept (book_of hs) hs
kept_book hs f l = record { held = held_lines (lines_from 0 hs); fit = f; short = l }

limit_ge : (book : List ℕ) (n : ℕ) → n ≤ length book → n ≤ book_limit → n ≤ limit_of book
limit_ge book n a b = omega arith

module _ (f : List ℕ) (hs : List Handed) (k : Kept f hs) (rest : List ℕ) where
  abbrev buffer : List ℕ
  buffer = f ++ rest

  abbrev place : ℕ
  place = length (book_of hs)

  pub place_good : good f ≡ place
  place_good = held_good k.held

  in_buffer : length f ≤ length buffer
  in_buffer = omega (arith, length-append f rest)

  -- ---- opening

  abbrev pub found : Good
  found = record { entries = length hs; good = length (book_of hs); torn = length f - length (book_of hs) }

  file_opened : opened_file f ≡ Ok found
  unfolding opened_file
  file_opened =
      let t : List ℕ = k.held.tail in
      let e : split LF f ≡ (lines_from 0 hs, t) = ap (split LF) k.held.file ∙ split_join LF t (lines_clean 0 k.fit) k.held.open_end in
      let n : length t ≡ length f - length (book_of hs) = omega (arith, length-append (book_of hs) t, ap length k.held.file) in
      let x : 0 + length hs ≡ length hs = omega arith in
      let y : 0 + length (book_of hs) ≡ length (book_of hs) = omega arith in
      ap (λ (p : List (List ℕ) × List ℕ). opened_from 0 0 p.0 p.1) e ∙ opened_lines 0 0 t k.fit ∙ rw (x, y, n)

  pub kept_opened : opened buffer (length f) ≡ Ok found
  unfolding opened
  kept_opened =
      rw (le-ltb (limit_of (f ++ rest)) (length f) (limit_ge (f ++ rest) (length f) in_buffer k.short), take-append_seam f rest) file_opened

  -- ---- fetch

  module _ (d : Handed) (i : ℕ) (inside : i < length hs) where
    abbrev pub one : Handed
    one = get_or hs i d

    abbrev pub start : ℕ
    start = length (join LF (take i (lines_from 0 hs)))

    tail : List ℕ
    tail = k.held.tail ++ rest

    bytes_are : buffer ≡ join LF (lines_from 0 hs) ++ tail
    unfolding tail
    bytes_are = ap (λ (l : List ℕ). l ++ rest) k.held.file ∙ append_assoc (join LF (lines_from 0 hs)) k.held.tail rest

    in_lines : i < length (lines_from 0 hs)
    in_lines = omega (arith, lines_length 0 hs)

    fits_one : fits_layout one ≡ true
    fits_one = fit_at d i k.fit inside

    line_is : get_or (lines_from 0 hs) i [] ≡ entry start (verdict_of one)
    line_is =
        let z : 0 + length (join LF (take i (lines_from 0 hs))) ≡ length (join LF (take i (lines_from 0 hs))) = omega arith in
        line_at 0 hs d i inside ∙ rw z

    abbrev pub told : Told
    told = record { name_length = length one.name; inputs = one.inputs; rows = one.rows; finding = one.finding }

    entry_found : entry_of buffer i ≡ entry_at start told
    unfolding entry_of
    entry_found =
        ap₂ entry_at
        (ap (after_mark LF i) bytes_are ∙ after_join LF tail i (lines_clean 0 k.fit) (omega (arith, in_lines)))
        (ap told_by (ap (part_at LF i) bytes_are ∙ part_join LF tail i (lines_clean 0 k.fit) in_lines ∙ line_is) ∙ told_entry start one fits_one)

    name_found : take (length one.name) (drop start buffer) ≡ one.name
    name_found =
        let b : List ℕ = entry start (verdict_of one) in
        let behind : List ℕ = LF ∷ (join LF (drop (suc i) (lines_from 0 hs)) ++ tail) in
        ap (λ (l : List ℕ). take (length one.name) (drop start l)) (bytes_are ∙ part_in LF (lines_from 0 hs) tail i in_lines)
        ∙ ap (take (length one.name)) (drop-append_seam (join LF (take i (lines_from 0 hs))) (get_or (lines_from 0 hs) i [] ++ behind) ∙ ap (λ (l : List ℕ). l ++ behind) line_is)
        ∙ take-append-le (length one.name) b behind (name_in_entry start one)
        ∙ name_of_entry start one fits_one

    pub fetched_is : fetched buffer (length f) (suc i) ≡ Ok (entry_at start told)
    unfolding fetched
    fetched_is =
        let less : suc i - 1 ≡ i = omega arith in
        rw (kept_opened, ne_eqb (suc i) 0 (λ z. omega arith), le-ltb (length hs) (suc i) (omega arith), less) (ap Ok entry_found)

    pub kept_fetched : (e : Entry) × (fetched buffer (length f) (suc i) ≡ Ok e) × (held_in buffer e ≡ get_or hs i d)
    kept_fetched = (entry_at start told, fetched_is, ap (λ (a : List ℕ). hand a) name_found)
      where
        hand : List ℕ → Handed
        hand a = record { name = a; inputs = one.inputs; rows = one.rows; finding = one.finding }

    -- what stands before the entry, and behind it
    abbrev pub ahead : List ℕ
    ahead = join LF (take i (lines_from 0 hs))

    abbrev pub behind : List ℕ
    behind = join LF (drop (suc i) (lines_from 0 hs)) ++ (k.held.tail ++ rest)

    pub standing : buffer ≡ ahead ++ (entry (length ahead) (verdict_of one) ++ (LF ∷ behind))
    unfolding tail
    standing = bytes_are ∙ part_in LF (lines_from 0 hs) tail i in_lines ∙ ap (λ (l : List ℕ). ahead ++ (l ++ (LF ∷ behind))) line_is

    -- where the first i entries end, and where the next one does
    pub starts_at : length (book_of (take i hs)) ≡ length ahead
    starts_at = ap (λ (l : List (List ℕ)). length (join LF l)) (sym (take_lines 0 hs i))

    pub ends_at : length (book_of (take (suc i) hs)) ≡ length ahead + suc (length (entry (length ahead) (verdict_of one)))
    ends_at =
        ap (λ (l : List (List ℕ)). length (join LF l)) (sym (take_lines 0 hs (suc i)))
        ∙ one_line (lines_from 0 hs) i in_lines
        ∙ ap (λ (l : List ℕ). length ahead + suc (length l)) line_is

    pub ahead_short : length ahead ≤ book_limit
    ahead_short =
        let r : List ℕ = get_or (lines_from 0 hs) i [] ++ (LF ∷ (join LF (drop (suc i) (lines_from 0 hs)) ++ k.held.tail)) in
        let e : length f ≡ length (ahead ++ r) = ap length (k.held.file ∙ part_in LF (lines_from 0 hs) k.held.tail i in_lines) in
        omega (arith, e, length-append ahead r, k.short)

  -- ---- append

  module _ (h : Handed) where
    abbrev line : List ℕ
    line = line_of place h

    at_place : appended buffer (length f) h ≡ appended_at buffer (length f) place h
    unfolding appended
    at_place = rw kept_opened

    -- an append that is not refused: the verdict fits, there is room, and this is the answer
    pub record Accepted (m : ℕ) : Type 0 where
      pub fits : fits_layout h ≡ true
      pub room : place + length line ≤ limit_of buffer
      pub stated : m ≡ max (length f) (place + length line)
      pub bytes : (appended buffer (length f) h).bytes ≡ with_bytes buffer place (length line) line

    by_tests : (x y : Bool) (m : ℕ) →
        (cond x (cond y (written buffer (length f) place line) (refusal buffer (fault_at NoRoom place))) (refusal buffer (fault_at Layout 0))).answer ≡ Ok m →
        (x ≡ true) × (y ≡ true) × (max (length f) (place + length line) ≡ m)
    by_tests true true m e = (refl, refl, cc)
    by_tests true false m e = absurd (let z : ◌≡◌ {A = ℕ} 0 1 = cc in omega arith)
    by_tests false y m e = absurd (let z : ◌≡◌ {A = ℕ} 0 1 = cc in omega arith)

    pub accepted : (m : ℕ) → (appended buffer (length f) h).answer ≡ Ok m → Accepted m
    unfolding appended_at
    accepted m e =
        let t = by_tests (fits_layout h) (leb (place + length line) (limit_of buffer)) m (sym (ap (λ (o : Outcome). o.answer) at_place) ∙ e) in
        record {
          fits = t.0;
          room = leb-true (place + length line) (limit_of buffer) t.1;
          stated = sym t.2;
          bytes = ap (λ (o : Outcome). o.bytes) at_place ∙ rw (t.0, t.1);
        }

    abbrev body : List ℕ
    body = entry place (verdict_of h)

    line_length_lem : length line ≡ suc (length body)
    line_length_lem = length-append (entry place (verdict_of h)) (LF ∷ []) ∙ omega arith

    -- the file after an append
    pub kept_whole : (m : ℕ) → (appended buffer (length f) h).answer ≡ Ok m → take m (appended buffer (length f) h).bytes ≡ whole f body
    kept_whole m e =
        let a : Accepted m = accepted m e in
        let t : take (length f) (f ++ rest) ≡ f = take-append_seam f rest in
        let g : good (take (length f) (f ++ rest)) ≡ place = ap good t ∙ place_good in
        rw place_good
        (ap₂ take a.stated a.bytes
        ∙ (rw (g, t) at (after_append (f ++ rest) body (length f) in_buffer (rw g (omega (arith, a.room, (limit_le buffer).0))))))

    pub kept_more : (m : ℕ) → (appended buffer (length f) h).answer ≡ Ok m → Kept (whole f body) (hs ++ (h ∷ []))
    kept_more m e =
        let a : Accepted m = accepted m e in
        record {
          held = rw (lines_snoc 0 hs h (length (book_of hs)) (omega arith)) (held_whole (entry (length (book_of hs)) (verdict_of h)) k.held);
          fit = fit_snoc h k.fit a.fits;
          short = omega (arith, length_whole f (entry (length (book_of hs)) (verdict_of h)), place_good, k.short, a.room, line_length_lem, (limit_le buffer).1);
        }

    -- a cut before the LF was held leaves the verdicts as they were
    pub kept_cut : (m : ℕ) (g : List ℕ) → (appended buffer (length f) h).answer ≡ Ok m → Cut f body g → Kept g hs
    kept_cut m g e c =
        let a : Accepted m = accepted m e in
        record {
          held = held_cut (entry place (verdict_of h)) g (entry_clean place h a.fits) k.held c;
          fit = k.fit;
          short = omega (arith, c.to, place_good, k.short, a.room, line_length_lem, (limit_le buffer).1);
        }
