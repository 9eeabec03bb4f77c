-- A turn of the keeper that is cut: reopening shows the entries that stood before it, and no other. Assumes nothing.
use Prim.Native.Nat.{ℕ, ◌-◌, ◌≤◌}
use mathlib.Core.Path.{◌≡◌, sym, ap, ◌∙◌}
use mathlib.Core.List.{List, ◌++◌}
use Rattle.std.specs.Prelude.{Ok}
use lib.ListN.{length, take, drop, take-append-drop}
use lib.Seq.{length-take-le}
use Rattle.base.specs.Limits.{book_limit}
use Rattle.files.specs.Parts.{Without}
use Rattle.files.specs.Files.{LF, Cut}
use Rattle.entry.specs.Entry.{entry}
use Rattle.handed.specs.Handed.{Handed, verdict_of}
use Rattle.book.specs.Book.{opened, appended}
use Rattle.book.specs.Runs.{book_of}
use Rattle.book.proofs.Kept.{Kept, kept_opened, kept_cut}
use Rattle.keeping.specs.Keeping.{Holds}

-- the file has what the book holds, and then torn bytes; f is appended to, and g is what the cut leaves
pub cut_shows : (text : List ℕ) (start : ℕ) (book : List ℕ) (at : ℕ) (k : Holds text start book at)
    (f : List ℕ) → take at f ≡ take at book → Without LF (drop at f) → length f ≤ book_limit
    → (h : Handed) (rest : List ℕ) (m : ℕ) → (appended (f ++ rest) (length f) h).answer ≡ Ok m
    → (g : List ℕ) → Cut f (entry at (verdict_of h)) g
    → (behind : List ℕ) → opened (g ++ behind) (length g) ≡ Ok (record { entries = length k.verdicts; good = at; torn = length g - at })
cut_shows text start book at k f front torn short h rest m e g c behind =
    let place : length (book_of k.verdicts) ≡ at = sym (ap length k.bytes) ∙ length-take-le at book k.inside in
    let kept : Kept f k.verdicts = record {
      held = record { tail = drop at f; file = sym (take-append-drop at f) ∙ ap (λ (l : List ℕ). l ++ drop at f) (front ∙ k.bytes); open_end = torn };
      fit = k.fit;
      short = short;
    } in
    rw place at (kept_opened g k.verdicts (kept_cut f k.verdicts kept rest h m g e (rw (← place) at c)) behind)
