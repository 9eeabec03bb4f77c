-- What reading's answer tells of the text and the area. Assumes nothing.
use Prim.Native.Nat.{ℕ, ◌≤◌, ◌<◌}
use mathlib.Core.Path.{◌≡◌, refl, sym, ◌∙◌}
use mathlib.Core.Bool.{Bool, true, false}
use mathlib.Core.List.{List}
use lib.Dec.{eqb}
use lib.ListN.{length}
use Rattle.std.specs.Prelude.{Option, None, Some, Result, Ok, Err, IsErrAnd}
use Rattle.base.proofs.Bools.{clash}
use Rattle.table.specs.Places.{area_size}
use Rattle.table.specs.Table.{Table}
use Rattle.table.specs.Area.{encode, decode}
use Rattle.formed.specs.Tests.{well_formed}
use Rattle.formed.proofs.Exact.{of_formed, formed_table}
use Rattle.step.specs.Step.{step_of}
use Rattle.grammar.specs.Reading.{Reading, table, end, refusal, read}
use Rattle.grammar.proofs.Gives.{read_valid}
use Rattle.grammar.proofs.Moves.{read_forward}
use Rattle.refusal.specs.declared.Refusal.{Refusal}
use Rattle.reading.specs.Told.{out, told, refused, read_into}
use Rattle.verdict.specs.declared.Finding.{Finding}
use Rattle.judge.specs.Answer.{Right}
use Rattle.judge.specs.Judge.{RightFinding}
use Rattle.listing.specs.Next.{NextIs}

-- a table is read from the text, and it stands in b
pub record TableRead (text : List ℕ) (start next : ℕ) (b : List ℕ) : Type 0 where
  pub it : Table
  pub comes : read text start ≡ table it next
  pub stands : b ≡ encode it

-- what an answer tells: a table that stands in the area, "end", or a refusal, which leave the area
abbrev pub Tells : List ℕ → ℕ → List ℕ → Result (Option ℕ) Refusal → List ℕ → Type 0
Tells text start a (Ok (Some next)) b = TableRead text start next b
Tells text start a (Ok None) b = (read text start ≡ end) × (b ≡ a)
Tells text start a (Err r) b = (read_into text start a ≡ out (Err r) a) × (b ≡ a)

module _ (text : List ℕ) (start : ℕ) (a : List ℕ) where
  -- an area of another size is refused
  refused_size : (r : Result (Option ℕ) Refusal) (b : List ℕ) → refused 10 0 a ≡ out r b → read_into text start a ≡ out r b
      → Tells text start a r b
  refused_size (Ok (Some next)) b q e = absurd (cc)
  refused_size (Ok None) b q e = absurd (cc)
  refused_size (Err r) b q e = let l : b ≡ a = cc in (rw l at e, l)

  by_reading : (g : Reading) → read text start ≡ g → (r : Result (Option ℕ) Refusal) (b : List ℕ) → told a g ≡ out r b
      → read_into text start a ≡ out r b → Tells text start a r b
  by_reading (table t n) c (Ok (Some next)) b q e = record { it = t; comes = cc; stands = cc }
  by_reading (table t n) c (Ok None) b q e = absurd (cc)
  by_reading (table t n) c (Err r) b q e = absurd (cc)
  by_reading end c (Ok (Some next)) b q e = absurd (cc)
  by_reading end c (Ok None) b q e = (c, cc)
  by_reading end c (Err r) b q e = absurd (cc)
  by_reading (refusal n p) c (Ok (Some next)) b q e = absurd (cc)
  by_reading (refusal n p) c (Ok None) b q e = absurd (cc)
  by_reading (refusal n p) c (Err r) b q e = let l : b ≡ a = cc in (rw l at e, l)

  by_size : (s : Bool) → eqb (length a) area_size ≡ s → (r : Result (Option ℕ) Refusal) (b : List ℕ) → read_into text start a ≡ out r b
      → Tells text start a r b
  unfolding read_into
  by_size true z r b e = by_reading (read text start) refl r b (rw z at e) e
  by_size false z r b e = refused_size r b (rw z at e) e

  pub tells : (r : Result (Option ℕ) Refusal) (b : List ℕ) → read_into text start a ≡ out r b → Tells text start a r b
  tells = by_size (eqb (length a) area_size) refl

-- a table that was read is judged, and never refused
pub judged_table : (text : List ℕ) (start next : ℕ) (b : List ℕ) (f : Finding) → TableRead text start next b → Right b (Ok f)
    → (t : Table) × (read text start ≡ table t next) × (b ≡ encode t) × RightFinding t.inputs (step_of t) f
judged_table text start next b f w r =
    let v = read_valid text start next w.it w.comes in
    let e : decode b ≡ w.it = formed_table b w.it v w.stands in
    (w.it, w.comes, w.stands, rw e at r.1)

pub never_refused : {A : Type 0} (text : List ℕ) (start next : ℕ) (b : List ℕ) (r : Refusal) → TableRead text start next b → Right b (Err r) → A
never_refused text start next b r w q =
    let v = read_valid text start next w.it w.comes in
    let g : well_formed b ≡ true = rw w.stands (of_formed w.it v) in
    clash (sym g ∙ q.0)

-- a refusal that `?` passes on
pub refused_next : (text : List ℕ) (start : ℕ) (a b : List ℕ) (r : Refusal) (n : Result (Option (Finding × ℕ)) Refusal) → IsErrAnd n (λ e. e ≡ r)
    → read_into text start a ≡ out (Err r) b → NextIs text start a n b
refused_next text start a b r (Ok v) h q = absurd h
refused_next text start a b r (Err e) h q = rw h (tells text start a (Err r) b q)

-- a verdict lies ahead, so that a walk over the text ends
pub moves : (text : List ℕ) (start next : ℕ) (f : Finding) (a b : List ℕ) → NextIs text start a (Ok (Some (f, next))) b → (start < next) × (next ≤ length text)
moves text start next f a b w = read_forward text start next w.0 w.1
