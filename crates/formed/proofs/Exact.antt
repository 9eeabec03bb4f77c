-- An area is well formed exactly where it is the encoding of a valid table. Assumes nothing.
use Prim.Native.Nat.{ℕ, ◌<◌, ◌≤◌}
use mathlib.Core.Path.{◌≡◌, refl, sym, ap, ◌∙◌}
use mathlib.Core.Bool.{Bool, true, false, not, ◌||◌}
use mathlib.Core.Logic.{◌↔◌}
use mathlib.Core.List.{List}
use native.Mathlib.Omega.{arith}
use lib.Dec.{eqb, leb}
use lib.ListN.{length}
use borrow.Author.Tests.{eqb-true, eq-eqb, le-leb, leb-true, not-true}
use Rattle.base.specs.Limits.{input_limit, row_limit, name_limit}
use Rattle.base.proofs.Bools.{both, and, clash}
use Rattle.base.proofs.Search.{every_at, every_of}
use Rattle.value.specs.declared.Ternary.{Ternary}
use Rattle.value.specs.declared.Ternary.TheVariants.{V0, V1, Vx}
use Rattle.value.specs.Value.{same_value, rank_of}
use Rattle.text.specs.Words.{is_name, name_fits}
use Rattle.table.specs.Places.{area_size}
use Rattle.table.specs.Table.{Row, Table, Shaped, row_at}
use Rattle.table.specs.Area.{encode, decode, canonical}
use Rattle.table.proofs.Encoding.{decode_encode, encode_decode, encoding_passes, encode_length}
use Rattle.formed.specs.Valid.{Contradict, Valid}
use Rattle.formed.specs.Tests.{contradict, columns_valid, row_valid, rows_valid, row_agrees, rows_agree, within, head_valid, valid, well_formed}
use Rattle.formed.proofs.Contradiction.{contradict_of, contradict_is}
use Rattle.formed.proofs.Rows.{one_edge, row_is, of_columns, of_row}

start_is : (s : Bool) (y : Ternary) → (s || same_value y Vx) ≡ true → s ≡ false → y ≡ Vx
unfolding same_value rank_of
start_is true y e f = clash f
start_is false V0 e f = clash (sym e)
start_is false V1 e f = clash (sym e)
start_is false Vx e f = refl

of_start : (s : Bool) (y : Ternary) → (s ≡ false → y ≡ Vx) → (s || same_value y Vx) ≡ true
unfolding same_value
of_start true y h = refl
of_start false y h = eq-eqb _ _ (ap rank_of (h refl))

not_contradict : (n : ℕ) (r q : Row) → contradict n r q ≡ false → Contradict n r q → ⊥
not_contradict n r q e c = clash (sym (contradict_of n r q c) ∙ e)

refuted : (n : ℕ) (r q : Row) → columns_valid n r ≡ true → (Contradict n r q → ⊥) → (b : Bool) → contradict n r q ≡ b → not b ≡ true
refuted n r q v h true e = absurd (h (contradict_is n r q (one_edge n r v) e))
refuted n r q v h false e = refl

within_is : (m limit : ℕ) → within m limit ≡ true → (1 ≤ m) × (m ≤ limit)
unfolding within
within_is m limit e = let p = both (leb 1 m) (leb m limit) e in (leb-true _ _ p.0, leb-true _ _ p.1)

of_within : (m limit : ℕ) → 1 ≤ m → m ≤ limit → within m limit ≡ true
unfolding within
of_within m limit l h = and (le-leb _ _ l) (le-leb _ _ h)

-- a valid head keeps the limits
pub head_inputs : (t : Table) → head_valid t ≡ true → t.inputs ≤ input_limit
unfolding head_valid
head_inputs t e = (within_is t.inputs input_limit (both (within t.inputs input_limit) _ e).0).1

pub head_rows : (t : Table) → head_valid t ≡ true → length t.rows ≤ row_limit
unfolding head_valid
head_rows t e = (within_is (length t.rows) row_limit (both (within (length t.rows) row_limit) _ (both (within t.inputs input_limit) _ e).1).0).1

pub valid_is : (t : Table) → valid t ≡ true → Valid t
unfolding valid head_valid rows_valid rows_agree row_agrees
valid_is t e =
    let p = both (head_valid t) _ e in
    let q = both (rows_valid t) (rows_agree t) p.1 in
    let a = both (within t.inputs input_limit) _ p.0 in
    let c = both (within (length t.rows) row_limit) _ a.1 in
    let d = both (name_fits t.name) _ c.1 in
    let i = within_is t.inputs input_limit a.0 in
    let r = within_is (length t.rows) row_limit c.0 in
    let row : (i : ℕ) → i < length t.rows → row_valid t.inputs t.sequential (row_at t i) ≡ true =
    λ i h. every_at (λ (m : ℕ). row_valid t.inputs t.sequential (row_at t m)) (length t.rows) i q.0 h in
    record {
      name = d.0;
      some_input = i.0;
      most_inputs = i.1;
      some_row = r.0;
      most_rows = r.1;
      start = start_is t.sequential t.start d.1;
      each = λ i h. row_is t.inputs t.sequential (row_at t i) (row i h);
      agree = λ i j l h. not_contradict t.inputs (row_at t i) (row_at t j)
          (not-true _ (every_at (λ (m : ℕ). not (contradict t.inputs (row_at t m) (row_at t j))) j i (every_at (row_agrees t) (length t.rows) j q.1 h) l));
    }

pub of_valid : (t : Table) → Valid t → valid t ≡ true
unfolding valid head_valid rows_valid rows_agree row_agrees
of_valid t v =
    and
    (and (of_within _ _ v.some_input v.most_inputs)
    (and (of_within _ _ v.some_row v.most_rows) (and v.name (of_start t.sequential t.start v.start))))
    (and (every_of (λ (i : ℕ). row_valid t.inputs t.sequential (row_at t i)) (length t.rows) (λ i h. of_row t.inputs t.sequential (row_at t i) (v.each i h)))
    (every_of (row_agrees t) (length t.rows)
    (λ j h. every_of (λ (i : ℕ). not (contradict t.inputs (row_at t i) (row_at t j))) j
    (λ i l. refuted t.inputs (row_at t i) (row_at t j) (of_columns t.inputs t.sequential (row_at t i) (v.each i (omega arith))) (v.agree i j l h) (contradict t.inputs (row_at t i) (row_at t j)) refl))))

pub valid_iff : (t : Table) → (valid t ≡ true) ↔ Valid t
valid_iff t = (valid_is t, of_valid t)

name_short : (w : List ℕ) → name_fits w ≡ true → length w ≤ name_limit
unfolding name_fits
name_short w e = leb-true _ _ (both (is_name w) (leb (length w) name_limit) e).1

pub shaped_of : (t : Table) → Valid t → Shaped t
shaped_of t v = record {
  bounded = record { name = name_short t.name v.name; inputs = v.most_inputs; rows = v.most_rows };
  columns = λ i h. (v.each i h).columns;
}

-- the table that a well-formed area holds is valid, and the area is its encoding
pub formed_valid : (a : List ℕ) → well_formed a ≡ true → Valid (decode a)
unfolding well_formed
formed_valid a e = valid_is (decode a) (both (canonical a) (valid (decode a)) (both (eqb (length a) area_size) _ e).1).1

pub formed_encoding : (a : List ℕ) → well_formed a ≡ true → a ≡ encode (decode a)
unfolding well_formed
formed_encoding a e =
    let p = both (eqb (length a) area_size) _ e in
    encode_decode a (eqb-true _ _ p.0) (both (canonical a) (valid (decode a)) p.1).0

pub of_formed : (t : Table) → Valid t → well_formed (encode t) ≡ true
unfolding well_formed
of_formed t v =
    let s = shaped_of t v in
    and (eq-eqb _ _ (encode_length t)) (and (encoding_passes t s) (ap valid (decode_encode t s) ∙ of_valid t v))

pub formed_iff : (a : List ℕ) → (well_formed a ≡ true) ↔ ((t : Table) × Valid t × (a ≡ encode t))
formed_iff a = (λ e. (decode a, formed_valid a e, formed_encoding a e), λ w. rw w.2 (of_formed w.0 w.1))

-- no other table has that encoding
pub formed_table : (a : List ℕ) (t : Table) → Valid t → a ≡ encode t → decode a ≡ t
formed_table a t v e = ap decode e ∙ decode_encode t (shaped_of t v)
