-- One turn: from the verdict that comes next to what is answered, and how far a reading goes. Assumes nothing.
use Prim.Native.Nat.{ℕ, ◌+◌, ◌≤◌, ◌<◌}
use mathlib.Core.Path.{◌≡◌, refl, ap}
use mathlib.Core.Logic.{inl, inr}
use mathlib.Core.List.{List}
use Rattle.std.specs.Prelude.{Some, Result, Ok, Err, IsErrAnd}
use lib.ListN.{length}
use Rattle.table.specs.Table.{Table}
use Rattle.table.specs.Area.{decode}
use Rattle.formed.proofs.Exact.{formed_table}
use Rattle.grammar.proofs.Gives.{read_valid}
use Rattle.grammar.proofs.Moves.{read_forward}
use Rattle.verdict.specs.declared.Finding.{Finding}
use Rattle.refusal.specs.declared.Refusal.{Refusal}
use Rattle.reading.specs.Told.{out, read_into}
use Rattle.listing.specs.Next.{NextIs}
use Rattle.listing.proofs.Nexts.{TableRead, tells}
use Rattle.keeping.specs.declared.Settled.{Settled}
use Rattle.keeping.specs.declared.Settled.TheVariants.{Kept, Added, Differs, End}
use Rattle.keeping.specs.Keeping.{Primitives, one_more, CountIs, handed, VerdictAt, Places, Settles}

-- a reading that gives a table: one primitive more, further on
pub read_more : (text : List ℕ) (n at next : ℕ) (a b : List ℕ) → Primitives text n at → read_into text at a ≡ out (Ok (Some next)) b
    → Primitives text (n + 1) next × (at < next) × (next ≤ length text)
read_more text n at next a b p e =
    let t : TableRead text at next b = tells text at a (Ok (Some next)) b e in
    let f = read_forward text at next t.it t.comes in
    (one_more t.it p t.comes, f.0, f.1)

module _ (text : List ℕ) (start next : ℕ) (a b : List ℕ) (f : Finding) (w : NextIs text start a (Ok (Some (f, next))) b) where
  verdict_of_lem : VerdictAt text start next (handed (decode b) f)
  verdict_of_lem = record {
    it = w.0;
    comes = w.1;
    right = w.3;
    same = ap (λ (t : Table). handed t f) (formed_table b w.0 (read_valid text start next w.0 w.1) w.2);
  }

  pub settled : (book : List ℕ) (at good : ℕ) (r : Result Settled Refusal) (left : List ℕ) → Places (handed (decode b) f) next book at good r left
      → Settles text start a book at good r left
  settled book at good (Ok (Kept n e)) left p = (handed (decode b) f, next, verdict_of_lem, p)
  settled book at good (Ok (Added n e)) left p = (handed (decode b) f, next, verdict_of_lem, p)
  settled book at good (Ok Differs) left p = (handed (decode b) f, next, verdict_of_lem, p)
  settled book at good (Ok End) left p = absurd p
  settled book at good (Err x) left p = inr (handed (decode b) f, next, verdict_of_lem, p)

-- a text's refusal that `?` passes on
pub refused_text : (text : List ℕ) (start : ℕ) (a book : List ℕ) (at good : ℕ) (r : Refusal) (n : Result Settled Refusal) → IsErrAnd n (λ e. e ≡ r)
    → read_into text start a ≡ out (Err r) a → Settles text start a book at good n book
refused_text text start a book at good r (Ok v) p e = absurd p
refused_text text start a book at good r (Err x) p e = inl (rw p e, refl)

pub refused_count : (text : List ℕ) (area : List ℕ) (k at : ℕ) (left b : List ℕ) (r : Refusal) (n : Result ℕ Refusal) → IsErrAnd n (λ e. e ≡ r)
    → Primitives text k at → read_into text at left ≡ out (Err r) b → length left ≡ length area → CountIs text area n
refused_count text area k at left b r (Ok v) p w e l = absurd p
refused_count text area k at left b r (Err x) p w e l = (k, at, left, w, rw p (tells text at left (Err r) b e).0, l)
