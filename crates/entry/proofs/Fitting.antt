-- What fits by the test is what fits in document 01's words; the longest entry has 93 bytes. Assumes nothing.
use mathlib.Core.Path.{◌≡◌, sym, ap, ◌∙◌}
use mathlib.Core.Bool.{true}
use mathlib.Core.List.{List, [], ◌∷◌, ◌++◌}
use Prim.Native.Nat.{ℕ, ◌+◌, ◌*◌, ◌≤◌}
use native.Mathlib.Omega.{arith}
use borrow.Author.Tests.{lt-ltb}
use lib.ListN.{length, length-append}
use Rattle.base.specs.Limits.{input_limit}
use Rattle.verdict.specs.Verdict as words
use Rattle.verdict.specs.Meaning.{meant, Fits, fits_independent, fits_dependent, SoundFinding}
use Rattle.verdict.specs.declared.Finding.{Finding}
use Rattle.verdict.proofs.Meaning.{sound_fits, fits_meant}
use Rattle.base.proofs.Listed.{listed_length}
use Rattle.files.specs.Files.{LF}
use Rattle.files.specs.Parts.{join}
use Rattle.entry.specs.Entry.{space, decimal, finding_fields, entry, Fitting}
use Rattle.handed.specs.Handed.{Handed, verdict_of, fits_layout}
use Rattle.entry.specs.Draft.{order_at}
use Rattle.entry.proofs.Fields.{entry_length, witness_length, decimal_few}
use Rattle.handed.proofs.Fit.{Parts, parts_of, of_parts, name_short}
use Rattle.entry.proofs.Orders.{first_order, second_order}

-- ---- the test and the words

pub fits_fitting : (h : Handed) → fits_layout h ≡ true → Fitting (verdict_of h)
fits_fitting h e =
    let p : Parts h = parts_of h e in
    record {
      named = p.named;
      some_inputs = p.some_inputs;
      few_inputs = p.few_inputs;
      some_rows = p.some_rows;
      few_rows = p.few_rows;
      found = sound_fits h.inputs h.finding p.found;
    }

-- a verdict that fits is the meaning of one that is handed over, and of one only
pub fitting_handed : (v : words.Verdict) → Fitting v → (h : Handed) × (fits_layout h ≡ true) × (verdict_of h ≡ v)
fitting_handed v f =
    let g : (g : Finding) × SoundFinding v.inputs g × (meant v.inputs g ≡ v.finding) = fits_meant f.found in
    let h : Handed = record { name = v.name; inputs = v.inputs; rows = v.rows; finding = g.0 } in (
      h,
      of_parts h (record {
        named = f.named;
        some_inputs = f.some_inputs;
        few_inputs = f.few_inputs;
        some_rows = f.some_rows;
        few_rows = f.few_rows;
        found = g.1;
      }),
      ap (λ (x : words.Finding). verdict v.name v.inputs v.rows x) g.2,
    )
  where
    verdict : List ℕ → ℕ → ℕ → words.Finding → words.Verdict
    verdict a n r x = record { name = a; inputs = n; rows = r; finding = x }

-- ---- the longest entry

finding_long : (n : ℕ) (f : words.Finding) → n ≤ input_limit → Fits n f → length (join space (finding_fields f)) ≤ 4 * input_limit + 12
finding_long n f h fits_independent = omega arith
finding_long n f h (fits_dependent {w} i j d) =
    let a : length w.order1 ≡ n = ap length (d.order_1 ∙ sym (first_order n i j d.from d.apart d.to)) ∙ listed_length (order_at i j i j) n in
    let b : length w.order2 ≡ n = ap length (d.order_2 ∙ sym (second_order n i j d.from d.apart d.to)) ∙ listed_length (order_at i j j i) n in
    omega (arith, witness_length n w d.prev_long d.cur_long a b)

-- inputs take one digit
decimal_one : (n : ℕ) → n ≤ 9 → length (decimal n) ≡ 1
decimal_one n h = rw (lt-ltb n 10 (omega arith))

pub longest : (s : ℕ) (v : words.Verdict) → Fitting v → length (entry s v ++ (LF ∷ [])) ≤ 93
longest s v f =
    omega (
      arith,
      length-append (entry s v) (LF ∷ []),
      entry_length s v,
      name_short v.name f.named,
      decimal_one v.inputs f.few_inputs,
      decimal_few v.rows,
      finding_long v.inputs v.finding f.few_inputs f.found,
    )
