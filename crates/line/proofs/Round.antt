-- A verdict that fits, written and read again, is the same; and a line is an entry just where it is some fitting verdict's. Assumes nothing.
use mathlib.Core.Path.{◌≡◌, refl, sym, ap, ap₂, ◌∙◌}
use mathlib.Core.Logic.{◌↔◌, ⊎_elim}
use mathlib.Core.Bool.{true}
use mathlib.Core.List.{List, [], ◌∷◌, ◌++◌, map, append_assoc}
use Prim.Native.Nat.{ℕ, zero, suc, ◌-◌, ◌≤◌, ◌<◌}
use Prim.Native.Char.{code}
use native.Mathlib.Omega.{arith}
use borrow.Author.Tests.{eq-eqb, lt-ltb, le-ltb, eqb-true}
use lib.Dec.{eqb}
use lib.ListN.{length, get_or, take, length-map}
use lib.Seq.{take_all, take-append_seam, ext_get_or}
use Rattle.base.specs.Limits.{input_limit}
use Rattle.base.specs.Search.{every}
use Rattle.base.proofs.Search.{every_of, every_at}
use Rattle.base.proofs.Bools.{both, and, lt_or_ge}
use Rattle.value.specs.Value.{byte_of, read_byte}
use Rattle.value.specs.declared.Ternary.{Ternary}
use Rattle.value.specs.declared.Ternary.TheVariants.{V0, V1, Vx}
use Rattle.orders.specs.Vectors.{at}
use Rattle.verdict.specs.Numbers.{number_from}
use Rattle.verdict.specs.Verdict as words
use Rattle.verdict.specs.Meaning.{before, now, shown, meant, Sound}
use Rattle.verdict.specs.declared.Witness.{Witness}
use Rattle.verdict.specs.declared.Finding.{Finding}
use Rattle.verdict.specs.declared.Finding.TheVariants.{Independent, Dependent}
use Rattle.orders.proofs.Candidates.{length_vector_of}
use Rattle.verdict.proofs.Numbers.{number_vector}
use Rattle.verdict.proofs.Meaning.{now_length, now_first, now_second}
use Rattle.files.specs.Parts.{join}
use Rattle.files.proofs.Parts.{part_join}
use Rattle.entry.specs.Entry.{space, digit_of, decimal, witness_fields, finding_fields, fields, trailer, entry, Fitting}
use Rattle.handed.specs.Handed.{Handed, verdict_of, fits_layout}
use Rattle.std.proofs.lemmas.List.{get_or-map}
use Rattle.handed.proofs.Fit.{Parts, parts_of}
use Rattle.entry.proofs.Clean.{fields_clean}
use Rattle.entry.proofs.Fields.{entry_length}
use Rattle.entry.proofs.Fitting.{fits_fitting, fitting_handed}
use Rattle.line.specs.Told.{Told, value_in, number_in, field_in, byte_in, witness_in, finding_in, told_by, hand_of, handed_by, same_bytes, is_entry}

-- ---- characters read back

value_byte : (x : Ternary) → value_in (byte_of x) ≡ x
unfolding value_in byte_of read_byte
value_byte V0 = refl
value_byte V1 = refl
value_byte Vx = refl

values_bytes : (v : List Ternary) → map value_in (map byte_of v) ≡ v
values_bytes [] = refl
values_bytes (x ∷ v) = ap₂ (λ (y : Ternary) (u : List Ternary). y ∷ u) (value_byte x) (values_bytes v)

digit_back : (k : ℕ) → k ≤ 9 → digit_of k - 48 ≡ k
digit_back k h = omega arith

number_decimal : (k : ℕ) → k ≤ 99 → number_in (decimal k) ≡ k
unfolding number_in
number_decimal k h = ⊎_elim
    (λ (l : k < 10). rw (lt-ltb k 10 l) (omega arith))
    (λ (g : 10 ≤ k). rw (le-ltb k 10 g) (omega arith))
    (lt_or_ge k 10)

-- ---- each field of an entry

module _ (s : ℕ) (h : Handed) (p : Parts h) where
  line : List ℕ
  line = entry s (verdict_of h)

  field : (m : ℕ) → m < length (fields (verdict_of h)) → field_in m line ≡ get_or (fields (verdict_of h)) m []
  unfolding line entry
  field m l = part_join space (trailer s) m (fields_clean (verdict_of h) p.named) l

  name_back : field_in 0 line ≡ h.name
  name_back = field 0 (omega arith)

  name_taken : take (length h.name) line ≡ h.name
  unfolding line entry
  name_taken =
      rw (append_assoc h.name (space ∷ join space (decimal h.inputs ∷ decimal h.rows ∷ finding_fields (meant h.inputs h.finding))) (trailer s))
      (take-append_seam h.name ((space ∷ join space (decimal h.inputs ∷ decimal h.rows ∷ finding_fields (meant h.inputs h.finding))) ++ trailer s))

  inputs_back : number_in (field_in 1 line) ≡ h.inputs
  inputs_back = ap number_in (field 1 (omega arith)) ∙ number_decimal h.inputs (omega (arith, p.few_inputs))

  rows_back : number_in (field_in 2 line) ≡ h.rows
  rows_back = ap number_in (field 2 (omega arith)) ∙ number_decimal h.rows (omega (arith, p.few_rows))

  -- the finding's fields are those from 3 on
  later : (m : ℕ) → m < length (finding_fields (meant h.inputs h.finding)) → field_in (suc (suc (suc m))) line ≡ get_or (finding_fields (meant h.inputs h.finding)) m []
  later m l = field (suc (suc (suc m))) (omega arith)

-- ---- the witness

module _ (s : ℕ) (h : Handed) (p : Parts h) (w : Witness) (e : h.finding ≡ Dependent w) where
  n : ℕ
  n = h.inputs

  l : List ℕ
  l = entry s (verdict_of h)

  sound : Sound n w
  unfolding n
  sound = rw e at p.found

  told_field : (m : ℕ) → m < 8 → field_in (suc (suc (suc m))) l ≡ get_or (witness_fields (shown n w)) m []
  unfolding n l line meant
  told_field m g =
      let q : finding_fields (meant h.inputs h.finding) ≡ witness_fields (shown n w) = ap (λ (f : Finding). finding_fields (meant h.inputs f)) e in
      later s h p m (rw q g) ∙ ap (λ (f : List (List ℕ)). get_or f m []) q

  byte_of_lem : (m k : ℕ) → m < 8 → byte_in (suc (suc (suc m))) k l ≡ get_or (get_or (witness_fields (shown n w)) m []) k 0
  byte_of_lem m k g = ap (λ (f : List ℕ). get_or f k 0) (told_field m g)

  first_back : byte_in 7 0 l - 48 ≡ w.first
  unfolding n shown
  first_back = ap (λ (b : ℕ). b - 48) (byte_of_lem 4 0 (omega arith)) ∙ digit_back w.first (omega (arith, sound.apart, sound.to, p.few_inputs))

  second_back : byte_in 7 1 l - 48 ≡ w.second
  unfolding n shown
  second_back = ap (λ (b : ℕ). b - 48) (byte_of_lem 4 1 (omega arith)) ∙ digit_back w.second (omega (arith, sound.to, p.few_inputs))

  previous_back : number_from 0 (map value_in (take input_limit (field_in 4 l))) ≡ w.previous
  unfolding n shown
  previous_back =
      ap (λ (f : List ℕ). number_from 0 (map value_in (take input_limit f))) (told_field 1 (omega arith))
      ∙ ap (λ (f : List ℕ). number_from 0 (map value_in f)) (take_all input_limit (map byte_of (before n w)) (omega (arith, length-map (before n w) byte_of, length_vector_of n w.previous, p.few_inputs)))
      ∙ ap (number_from 0) (values_bytes (before n w))
      ∙ number_vector n w.previous sound.small

  now_back : (j : ℕ) (b : ℕ) → b ≡ j → 1 ≤ j → j ≤ n → value_in (byte_in 5 (b - 1) l) ≡ at (now n w) j
  unfolding n shown
  now_back zero b q a c = absurd (omega arith)
  now_back (suc j) b q a c =
      let z : b - 1 ≡ j = omega arith in
      rw z
      (ap value_in (byte_of_lem 2 j (omega arith) ∙ get_or-map byte_of (now n w) j V0 0 (omega (arith, now_length n w))) ∙ value_byte (get_or (now n w) j V0))

  lone_back : (m : ℕ) (x : Ternary) → m < 8 → get_or (witness_fields (shown n w)) m [] ≡ byte_of x ∷ [] → value_in (byte_in (suc (suc (suc m))) 0 l) ≡ x
  lone_back m x g q = ap value_in (byte_of_lem m 0 g ∙ ap (λ (f : List ℕ). get_or f 0 0) q) ∙ value_byte x

  witness_back : witness_in l ≡ w
  unfolding witness_in shown
  witness_back =
      rw (
        now_back w.first (byte_in 7 0 l - 48) first_back sound.from (omega (arith, sound.apart, sound.to)),
        now_back w.second (byte_in 7 1 l - 48) second_back (omega (arith, sound.from, sound.apart)) sound.to,
        now_first n w sound,
        now_second n w sound,
        first_back,
        second_back,
        previous_back,
        lone_back 3 w.old (omega arith) refl,
        lone_back 5 w.first_output (omega arith) refl,
        lone_back 7 w.second_output (omega arith) refl,
      )

  dependent_back : finding_in l ≡ h.finding
  unfolding shown
  dependent_back = rw (byte_of_lem 0 0 (omega arith), witness_back) (sym e)

independent_back : (s : ℕ) (h : Handed) → Parts h → h.finding ≡ Independent → finding_in (entry s (verdict_of h)) ≡ h.finding
unfolding meant line
independent_back s h p e =
    let q : finding_fields (meant h.inputs h.finding) ≡ (code "I" ∷ []) ∷ [] = ap (λ (f : Finding). finding_fields (meant h.inputs f)) e in
    let g : 0 < length (finding_fields (meant h.inputs h.finding)) = rw q (omega arith) in
    let b : byte_in 3 0 (entry s (verdict_of h)) ≡ code "I" = ap (λ (f : List ℕ). get_or f 0 0) (later s h p 0 g ∙ ap (λ (f : List (List ℕ)). get_or f 0 []) q) in
    rw b (sym e)

-- ---- the whole verdict

finding_back : (s : ℕ) (h : Handed) → Parts h → (f : Finding) → h.finding ≡ f → finding_in (entry s (verdict_of h)) ≡ h.finding
unfolding l
finding_back s h p Independent e = independent_back s h p e
finding_back s h p (Dependent w) e = dependent_back s h p w e

pub told_entry : (s : ℕ) (h : Handed) → fits_layout h ≡ true →
    told_by (entry s (verdict_of h)) ≡ record { name_length = length h.name; inputs = h.inputs; rows = h.rows; finding = h.finding }
unfolding told_by line
told_entry s h f =
    let p : Parts h = parts_of h f in
    rw (name_back s h p, inputs_back s h p, rows_back s h p, finding_back s h p h.finding refl)

-- an entry written and read back is the same verdict
pub handed_entry : (s : ℕ) (h : Handed) → fits_layout h ≡ true → handed_by (entry s (verdict_of h)) ≡ h
unfolding handed_by line
handed_entry s h f =
    let q : take (length h.name) (entry s (verdict_of h)) ≡ h.name = name_taken s h (parts_of h f) in
    ap (λ (t : Told). hand_of t (entry s (verdict_of h))) (told_entry s h f)
    ∙ ap (λ (a : List ℕ). hand a h.inputs h.rows h.finding) q
  where
    hand : List ℕ → ℕ → ℕ → Finding → Handed
    hand a n r g = record { name = a; inputs = n; rows = r; finding = g }

-- its name is the line's first bytes
pub name_of_entry : (s : ℕ) (h : Handed) → fits_layout h ≡ true → take (length h.name) (entry s (verdict_of h)) ≡ h.name
unfolding line
name_of_entry s h f = name_taken s h (parts_of h f)

pub name_in_entry : (s : ℕ) (h : Handed) → length h.name ≤ length (entry s (verdict_of h))
name_in_entry s h = omega (arith, entry_length s (verdict_of h))

-- ---- lines that are entries

same_of : (l m : List ℕ) → l ≡ m → same_bytes l m ≡ true
same_of l m e =
    and (eq-eqb (length l) (length m) (ap length e)) (every_of (λ k. eqb (get_or l k 0) (get_or m k 0)) (length l) (λ k h. eq-eqb (get_or l k 0) (get_or m k 0) (ap (λ (r : List ℕ). get_or r k 0) e)))

of_same : (l m : List ℕ) → same_bytes l m ≡ true → l ≡ m
of_same l m e =
    let p = both (eqb (length l) (length m)) (every (length l) (λ k. eqb (get_or l k 0) (get_or m k 0))) e in
    ext_get_or 0 l m (eqb-true (length l) (length m) p.0) (λ k h. eqb-true (get_or l k 0) (get_or m k 0) (every_at (λ k. eqb (get_or l k 0) (get_or m k 0)) (length l) k p.1 h))

-- the entry of a verdict that fits is an entry
pub entry_is : (s : ℕ) (h : Handed) → fits_layout h ≡ true → is_entry s (entry s (verdict_of h)) ≡ true
unfolding is_entry
entry_is s h f = rw (handed_entry s h f, f) (same_of (entry s (verdict_of h)) (entry s (verdict_of h)) refl)

-- a line that is an entry is that of the verdict it tells
pub entry_tells : (s : ℕ) (l : List ℕ) → is_entry s l ≡ true → (fits_layout (handed_by l) ≡ true) × (l ≡ entry s (verdict_of (handed_by l)))
unfolding is_entry
entry_tells s l e =
    let p = both (fits_layout (handed_by l)) (same_bytes l (entry s (verdict_of (handed_by l)))) e in
    (p.0, of_same l (entry s (verdict_of (handed_by l))) p.1)

-- the line of some fitting verdict, in document 01's words
abbrev pub Entry : ℕ → List ℕ → Type 0
Entry s l = (v : words.Verdict) × Fitting v × (l ≡ entry s v)

pub entry_iff : (s : ℕ) (l : List ℕ) → (is_entry s l ≡ true) ↔ Entry s l
entry_iff s l = (
  λ e.
      let t = entry_tells s l e in
      (verdict_of (handed_by l), fits_fitting (handed_by l) t.0, t.1),
  λ w.
      let g = fitting_handed w.0 w.1 in
      rw (w.2, ← g.2) (entry_is s g.0 g.1),
)

-- no two verdicts that fit have the same entry
pub entry_once : (s : ℕ) (v u : words.Verdict) → Fitting v → Fitting u → entry s v ≡ entry s u → v ≡ u
entry_once s v u f g e =
    let a = fitting_handed v f in
    let b = fitting_handed u g in
    let q : entry s (verdict_of a.0) ≡ entry s (verdict_of b.0) = rw (a.2, b.2) e in
    sym a.2 ∙ ap verdict_of (sym (handed_entry s a.0 a.1) ∙ ap handed_by q ∙ handed_entry s b.0 b.1) ∙ b.2
