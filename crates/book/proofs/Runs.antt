-- Demand 3: after any run of appends, refused ones too, reopenings and cuts, opening and fetch answer exactly the verdicts whose
-- last byte was stored, in order and unchanged; and each cut costs at most the entry being written. Assumes nothing.
use mathlib.Core.Path.{◌≡◌, ◌∙◌}
use mathlib.Core.List.Sublistᴰ
use mathlib.Core.List.{List, [], ◌∷◌, ◌++◌, append-nil, Sublistᴰ}
use Prim.Native.Nat.{ℕ, suc, ◌+◌, ◌-◌, ◌≤◌, ◌<◌}
use native.Mathlib.Omega.{arith}
use lib.ListN.{length, get_or, take, length-append}
use lib.Seq.{take-append_seam}
use Rattle.base.specs.Limits.{book_limit}
use Rattle.files.specs.Files.{good, Cut}
use Rattle.entry.specs.Entry.{entry}
use Rattle.handed.specs.Handed.{Handed, verdict_of}
use Rattle.std.specs.Prelude.{Ok, Err}
use Rattle.refusal.specs.declared.Refusal.{Refusal}
use Rattle.book.specs.declared.Entry.{Entry}
use Rattle.book.specs.Book.{opened, appended, fetched}
use Rattle.book.specs.Runs.{book_of, AllFit, none_left, Event, append, append_refused, cut_before, cut_after, reopening, Run, begin, appends, refuses, cuts_before, cuts_after, reopens, stored, asked, cuts, held_in}
use Rattle.book.proofs.Once.{refused_same}
use Rattle.book.proofs.Kept.{Kept, kept_book, place_good, kept_opened, kept_fetched, kept_whole, kept_more, kept_cut}

-- what an append that is not refused, a refused one, and a cut leave
module _ (f : List ℕ) (hs : List Handed) (k : Kept f hs) (rest : List ℕ) (h : Handed) where
  left_whole : (m : ℕ) → (appended (f ++ rest) (length f) h).answer ≡ Ok m → Kept (take m (appended (f ++ rest) (length f) h).bytes) (hs ++ (h ∷ []))
  left_whole m e = rw (kept_whole f hs k rest h m e) (kept_more f hs k rest h m e)

  left_same : (r : Refusal) → (appended (f ++ rest) (length f) h).answer ≡ Err r → Kept (take (length f) (appended (f ++ rest) (length f) h).bytes) hs
  left_same r e = rw (refused_same (f ++ rest) (length f) h r e, take-append_seam f rest) k

  left_cut : (m : ℕ) (g : List ℕ) → (appended (f ++ rest) (length f) h).answer ≡ Ok m → Cut f (entry (good f) (verdict_of h)) g → Kept g hs
  left_cut m g e c = kept_cut f hs k rest h m g e (rw (place_good f hs k rest) at c)

-- what a run keeps up
pub run_kept : {base : List Handed} {es : List Event} {f : List ℕ} → AllFit base → length (book_of base) ≤ book_limit → Run base es f → Kept f (stored base es)
run_kept {base} v l begin = kept_book base v l
run_kept {base} v l (appends {es} {f} h rest m r e) = left_whole f (stored base es) (run_kept v l r) rest h m e
run_kept {base} v l (refuses {es} {f} h rest r run e) = left_same f (stored base es) (run_kept v l run) rest h r e
run_kept {base} v l (cuts_before {es} {f} h rest m g r e c) = left_cut f (stored base es) (run_kept v l r) rest h m g e c
run_kept {base} v l (cuts_after {es} {f} h rest m r e) = left_whole f (stored base es) (run_kept v l r) rest h m e
run_kept v l (reopens r) = run_kept v l r

module _ {base : List Handed} {es : List Event} {f : List ℕ} (v : AllFit base) (l : length (book_of base) ≤ book_limit) (r : Run base es f) (rest : List ℕ) where
  -- opening answers as many entries as verdicts were stored, and the length of their entries
  pub reopened : opened (f ++ rest) (length f)
      ≡ Ok (record { entries = length (stored base es); good = length (book_of (stored base es)); torn = length f - length (book_of (stored base es)) })
  reopened = kept_opened f (stored base es) (run_kept v l r) rest

  -- fetch yields each of them, unchanged
  pub refetched : (d : Handed) (i : ℕ) → i < length (stored base es) →
      (e : Entry) × (fetched (f ++ rest) (length f) (suc i) ≡ Ok e) × (held_in (f ++ rest) e ≡ get_or (stored base es) i d)
  refetched d i h = kept_fetched f (stored base es) (run_kept v l r) rest d i h

-- a run that begins with an empty book
pub from_empty : {es : List Event} {f : List ℕ} → Run [] es f → (rest : List ℕ) →
    opened (f ++ rest) (length f)
    ≡ Ok (record { entries = length (stored [] es); good = length (book_of (stored [] es)); torn = length f - length (book_of (stored [] es)) })
from_empty r rest = reopened none_left (omega arith) r rest

-- ---- each cut costs at most the entry being written: what is stored is what was asked for, in order, without at most one for each cut

pub stored_sublist : (base : List Handed) (es : List Event) → Sublistᴰ (stored base es) (asked base es)
stored_sublist base [] = Sublistᴰ.refl base
stored_sublist base (append h ∷ es) = Sublistᴰ.append (stored_sublist base es) (Sublistᴰ.refl (h ∷ []))
stored_sublist base (append_refused h ∷ es) = stored_sublist base es
stored_sublist base (cut_before h ∷ es) = rw (← (append-nil (stored base es))) (Sublistᴰ.append (stored_sublist base es) (Sublistᴰ.nil-sublist (h ∷ [])))
stored_sublist base (cut_after h ∷ es) = Sublistᴰ.append (stored_sublist base es) (Sublistᴰ.refl (h ∷ []))
stored_sublist base (reopening ∷ es) = stored_sublist base es

snoc : (l : List Handed) (h : Handed) → length (l ++ (h ∷ [])) ≡ suc (length l)
snoc l h = length-append l (h ∷ []) ∙ omega arith

pub cost : (base : List Handed) (es : List Event) → length (asked base es) ≤ length (stored base es) + cuts es
cost base [] = omega arith
cost base (append h ∷ es) = omega (arith, cost base es, snoc (asked base es) h, snoc (stored base es) h)
cost base (append_refused h ∷ es) = cost base es
cost base (cut_before h ∷ es) = omega (arith, cost base es, snoc (asked base es) h)
cost base (cut_after h ∷ es) = omega (arith, cost base es, snoc (asked base es) h, snoc (stored base es) h)
cost base (reopening ∷ es) = cost base es
