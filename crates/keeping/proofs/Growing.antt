-- How what a book holds grows with each turn of the keeper. Assumes nothing.
use Prim.Native.Nat.{ℕ, ◌+◌, ◌≤◌, ◌<◌}
use mathlib.Core.Path.{◌≡◌, refl, sym, ap, subst, ◌∙◌}
use mathlib.Core.Bool.{Bool, true, false, cond}
use mathlib.Core.List.{List, [], ◌∷◌, ◌++◌, append_assoc}
use native.Mathlib.Omega.{arith}
use borrow.Author.Tests.{ltb-false}
use lib.Dec.{ltb}
use Rattle.std.specs.Prelude.{Result, Ok, Err}
use lib.ListN.{length, take, drop, length-append, take-append-drop}
use lib.Seq.{take_at, length-take-le}
use Rattle.base.specs.Limits.{book_limit}
use Rattle.files.specs.Files.{LF}
use Rattle.entry.specs.Entry.{entry}
use Rattle.handed.specs.Handed.{Handed, verdict_of, fits_layout}
use Rattle.book.specs.declared.Good.{Good}
use Rattle.refusal.specs.declared.Refusal.{Refusal}
use Rattle.book.specs.Book.{limit_of, opened, opened_file, on_opened, Outcome, outcome, line_of, refusal, appended_at, appended}
use Rattle.book.specs.Runs.{book_of, none_left}
use Rattle.book.proofs.Appending.{limit_le}
use Rattle.book.proofs.Kept.{Kept, kept_book, Accepted, accepted, fit_snoc, book_snoc}
use Rattle.grammar.proofs.Moves.{read_forward}
use Rattle.keeping.specs.declared.Settled.TheVariants.{Kept as KeptOn, Added}
use Rattle.keeping.specs.Keeping.{VerdictAt, no_verdict, one_verdict, Holds, standing, Settles}
use Rattle.keeping.proofs.Standing.{stands_fit, stands_long, stands_inside, stands_bytes}

-- ---- a verdict more

module _ (text : List ℕ) (start next : ℕ) (book : List ℕ) (at : ℕ) (k : Holds text start book at) (h : Handed) (v : VerdictAt text start next h) where
  place_is : length (book_of k.verdicts) ≡ at
  place_is = sym (ap length k.bytes) ∙ length-take-le at book k.inside

  grown : (left : List ℕ) (m : ℕ) → fits_layout h ≡ true → m ≤ length left → take m left ≡ take at book ++ line_of at h → Holds text next left m
  grown left m f i e =
      record {
        verdicts = k.verdicts ++ (h ∷ []);
        theirs = one_verdict h k.theirs v;
        fit = fit_snoc h k.fit f;
        inside = i;
        bytes = e ∙ ap (λ (l : List ℕ). l ++ line_of at h) k.bytes ∙ sym (book_snoc 0 k.verdicts h at (omega (arith, place_is)));
      }

  -- ---- its line stands there

  kept_on : (m : ℕ) → (standing book at h ≡ 0 → ⊥) → m ≡ at + standing book at h → Holds text next book m
  kept_on m there e =
      let z : m ≡ at + length (line_of at h) = e ∙ ap (λ (n : ℕ). at + n) (stands_long book at h there) in
      rw z (grown book (at + length (line_of at h)) (stands_fit book at h there) (stands_inside book at h there) (stands_bytes book at h there))

  -- ---- it is appended

  opened_there : (b : Bool) (r : Refusal) (o : Result Good Refusal) (found : Good → Outcome) (m : ℕ)
      → (on_opened (cond b (Err r) o) found (refusal book)).answer ≡ Ok m → b ≡ false
  opened_there true r o found m e = absurd (cc)
  opened_there false r o found m e = refl

  not_past : (m : ℕ) → (appended book at h).answer ≡ Ok m → at ≤ limit_of book
  unfolding appended opened
  not_past m e =
      ltb-false (limit_of book) at (opened_there (ltb (limit_of book) at) _ (opened_file (take at book)) (λ g. appended_at book at g.good h) m e)

  added_on : (left : List ℕ) (m : ℕ) → outcome (Ok m) left ≡ appended book at h → Holds text next left m × (at < m)
  added_on left m e =
      let f : List ℕ = take at book in
      let rest : List ℕ = drop at book in
      let line : List ℕ = line_of at h in
      let said : (appended book at h).answer ≡ Ok m = sym (ap (λ (o : Outcome). o.answer) e) in
      let whole : take at book ++ drop at book ≡ book = take-append-drop at book in
      let long : length (take at book) ≡ at = length-take-le at book k.inside in
      let room : length (book_of k.verdicts) ≤ book_limit = omega (arith, place_is, not_past m said, (limit_le book).1) in
      let kept : Kept (take at book) k.verdicts = subst (λ (l : List ℕ). Kept l k.verdicts) (sym k.bytes) (kept_book k.verdicts k.fit room) in
      let told : (appended (take at book ++ drop at book) (length (take at book)) h).answer ≡ Ok m = rw (whole, long) said in
      let a : Accepted (take at book) k.verdicts kept (drop at book) h m = accepted (take at book) k.verdicts kept (drop at book) h m told in
      let bytes : left ≡ take at book ++ (line_of at h ++ drop (at + length (line_of at h)) book) =
      ap (λ (o : Outcome). o.bytes) e ∙ (rw (whole, long, place_is) at a.bytes) in
      let end : m ≡ at + length (line_of at h) = let q = rw (long, place_is) at a.stated in omega (arith, q) in
      let shape : left ≡ (take at book ++ line_of at h) ++ drop (at + length (line_of at h)) book =
      bytes ∙ sym (append_assoc (take at book) (line_of at h) (drop (at + length (line_of at h)) book)) in
      let size : length (take at book ++ line_of at h) ≡ m = omega (arith, length-append (take at book) (line_of at h), long) in (
        grown left m a.fits
            (omega (arith, ap length shape, length-append (take at book ++ line_of at h) (drop (at + length (line_of at h)) book), size))
            (ap (take m) shape ∙ take_at (take at book ++ line_of at h) (drop (at + length (line_of at h)) book) m size),
        omega (arith, length-append (entry at (verdict_of h)) (LF ∷ [])),
      )

-- ---- what the keeper's loop cites

pub begun : (text book : List ℕ) → Holds text 0 book 0
begun text book = record { verdicts = []; theirs = no_verdict; fit = none_left; inside = omega arith; bytes = refl }

ahead : {text : List ℕ} {start next : ℕ} {h : Handed} → VerdictAt text start next h → (start < next) × (next ≤ length text)
ahead {text} {start} {next} v = read_forward text start next v.it v.comes

module _ (text : List ℕ) (start : ℕ) (area book : List ℕ) (at good : ℕ) (k : Holds text start book at) (next m : ℕ) (left : List ℕ) where
  pub kept_goes : Settles text start area book at good (Ok (KeptOn next m)) left → Holds text next left m × (start < next) × (next ≤ length text)
  kept_goes p =
      let f = ahead p.2 in
      rw (p.3.0, p.3.4) (kept_on text start p.1 book at k p.0 p.2 m p.3.2 p.3.3, f.0, f.1)

  pub added_goes : Settles text start area book at good (Ok (Added next m)) left → Holds text next left m × (start < next) × (next ≤ length text) × (at < m)
  added_goes p =
      let f = ahead p.2 in
      let a = added_on text start p.1 book at k p.0 p.2 left m p.3.2 in
      rw p.3.0 (a.0, f.0, f.1, a.1)
