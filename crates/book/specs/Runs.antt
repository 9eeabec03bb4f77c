-- Runs of appends, reopenings and cuts. Each call gets the file as held, its length stated, in a buffer with any further bytes behind it.
use Rattle.std.specs.Prelude.{◌≡◌, Ok, Err, true, List, [], ◌∷◌, ◌++◌, ℕ, suc, ◌+◌, length, take, drop}
use Rattle.files.specs.Parts.{join}
use Rattle.files.specs.Files.{LF, good, Cut}
use Rattle.entry.specs.Entry.{entry}
use Rattle.handed.specs.Handed.{Handed, verdict_of, fits_layout}
use Rattle.refusal.specs.declared.Refusal.{Refusal}
use Rattle.book.specs.declared.Entry.{Entry}
use Rattle.book.specs.Book.{appended}

-- the lines of verdicts from place s on, and the book that holds just these verdicts
abbrev pub lines_from : ℕ → List Handed → List (List ℕ)
lines_from s [] = []
lines_from s (h ∷ hs) = entry s (verdict_of h) ∷ lines_from (s + suc (length (entry s (verdict_of h)))) hs

abbrev pub book_of : List Handed → List ℕ
book_of hs = join LF (lines_from 0 hs)

-- verdicts that all fit the layout
pub data AllFit : List Handed → Type 0 where
  none_left : AllFit []
  one_fits : {h : Handed} {hs : List Handed} → fits_layout h ≡ true → AllFit hs → AllFit (h ∷ hs)

-- what happens to a book
pub data Event : Type 0 where
  append : Handed → Event
  append_refused : Handed → Event
  cut_before : Handed → Event
  cut_after : Handed → Event
  reopening : Event

-- a run, its latest event first, that begins with the book of `base` and leaves a file
pub data Run (base : List Handed) : List Event → List ℕ → Type 0 where
  begin : Run base [] (book_of base)
  -- an append that is not refused leaves as many of the buffer's bytes as it answers
  appends : {es : List Event} {f : List ℕ} (h : Handed) (rest : List ℕ) (m : ℕ) → Run base es f →
      (appended (f ++ rest) (length f) h).answer ≡ Ok m → Run base (append h ∷ es) (take m (appended (f ++ rest) (length f) h).bytes)
  refuses : {es : List Event} {f : List ℕ} (h : Handed) (rest : List ℕ) (r : Refusal) → Run base es f →
      (appended (f ++ rest) (length f) h).answer ≡ Err r → Run base (append_refused h ∷ es) (take (length f) (appended (f ++ rest) (length f) h).bytes)
  -- a cut during an append that would not have been refused, before its LF was held
  cuts_before : {es : List Event} {f : List ℕ} (h : Handed) (rest : List ℕ) (m : ℕ) (g : List ℕ) → Run base es f →
      (appended (f ++ rest) (length f) h).answer ≡ Ok m → Cut f (entry (good f) (verdict_of h)) g → Run base (cut_before h ∷ es) g
  -- after its LF was held, the file is what the whole append leaves
  cuts_after : {es : List Event} {f : List ℕ} (h : Handed) (rest : List ℕ) (m : ℕ) → Run base es f →
      (appended (f ++ rest) (length f) h).answer ≡ Ok m → Run base (cut_after h ∷ es) (take m (appended (f ++ rest) (length f) h).bytes)
  -- opening writes nothing
  reopens : {es : List Event} {f : List ℕ} → Run base es f → Run base (reopening ∷ es) f

-- the verdicts whose last byte was stored, in order
abbrev pub stored : List Handed → List Event → List Handed
stored base [] = base
stored base (append h ∷ es) = stored base es ++ (h ∷ [])
stored base (append_refused h ∷ es) = stored base es
stored base (cut_before h ∷ es) = stored base es
stored base (cut_after h ∷ es) = stored base es ++ (h ∷ [])
stored base (reopening ∷ es) = stored base es

-- the verdicts that were to be stored, refused ones aside; and how many cuts there were
abbrev pub asked : List Handed → List Event → List Handed
asked base [] = base
asked base (append h ∷ es) = asked base es ++ (h ∷ [])
asked base (append_refused h ∷ es) = asked base es
asked base (cut_before h ∷ es) = asked base es ++ (h ∷ [])
asked base (cut_after h ∷ es) = asked base es ++ (h ∷ [])
asked base (reopening ∷ es) = asked base es

abbrev pub cuts : List Event → ℕ
cuts [] = 0
cuts (append h ∷ es) = cuts es
cuts (append_refused h ∷ es) = cuts es
cuts (cut_before h ∷ es) = suc (cuts es)
cuts (cut_after h ∷ es) = suc (cuts es)
cuts (reopening ∷ es) = cuts es

-- the verdict that an entry of a lent book holds
abbrev pub held_in : List ℕ → Entry → Handed
held_in book e = record { name = take e.name_length (drop e.name_at book); inputs = e.inputs; rows = e.rows; finding = e.finding }
