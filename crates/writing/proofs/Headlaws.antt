-- What the tests before writing tell. Assumes nothing.
use Prim.Native.Nat.{ℕ, ◌+◌, ◌-◌, ◌/◌, ◌≤◌, ◌<◌}
use mathlib.Core.Path.{◌≡◌, refl, sym, ◌∙◌}
use mathlib.Core.Bool.{Bool, true}
use mathlib.Core.List.{List}
use mathlib.Core.Logic.{⊎_elim}
use native.Mathlib.Omega.{arith}
use lib.Dec.{eqb, leb, ltb}
use lib.ListN.{length, get_or, set, replicate, length-set, length-replicate, get_or-eq_default}
use lib.Seq.{get_or-set_same, get_or-set_other}
use borrow.Rule.Slice.PartMut.{put_mid}
use borrow.Author.Tests.{lt-ltb, le-ltb, eqb-true, leb-true, ltb-true}
use Rattle.base.specs.Limits.{input_limit, row_limit, name_limit}
use Rattle.base.proofs.Bools.{both, lt_or_ge}
use Rattle.base.proofs.Listed.{listed_is}
use Rattle.base.proofs.Patched.{Patched, patched_mid}
use Rattle.base.proofs.Lists.{zeros_at}
use Rattle.table.specs.Places.{name_at, kind_at, inputs_at, start_at, count_at, rows_at, row_size, area_size}
use Rattle.table.specs.Area.{kind_byte, area_byte, rows_byte, encode}
use Rattle.value.specs.Value.{byte_of}
use Rattle.value.specs.declared.Ternary.{Ternary}
use Rattle.writing.specs.Written.{head_of, head_fits, has_room}

-- behind the starting value a table without rows has zeros
pub past_head : (name : List ℕ) (sequential : Bool) (inputs : ℕ) (start : Ternary) (p : ℕ) → count_at ≤ p
    → area_byte (head_of name sequential inputs start) p ≡ 0
unfolding area_byte rows_byte head_of
past_head name sequential inputs start p h =
    rw (le-ltb p name_at (omega arith), le-ltb p kind_at (omega arith), le-ltb p inputs_at (omega arith), le-ltb p start_at (omega arith), le-ltb p count_at h)
    (⊎_elim (λ (l : p < rows_at). rw (lt-ltb p rows_at l))
    (λ (g : rows_at ≤ p). rw (le-ltb p rows_at g, le-ltb ((p - rows_at) / row_size) 0 (omega arith))) (lt_or_ge p rows_at))

-- ---- what write_head leaves
module _ (name : List ℕ) (sequential : Bool) (inputs : ℕ) (start : Ternary) (short : length name ≤ name_limit) where
  abbrev n : ℕ
  n = length name

  -- zeros with the name's length, then with the name, then with the kind, the number of inputs and the starting value
  abbrev sized : List ℕ
  sized = set (replicate area_size 0) 0 n

  abbrev named : List ℕ
  named = put_mid 1 n sized name

  abbrev kinded : List ℕ
  kinded = set named kind_at (kind_byte sequential)

  abbrev numbered : List ℕ
  numbered = set kinded inputs_at inputs

  abbrev pub head_left : List ℕ
  head_left = set numbered start_at (byte_of start)

  sized_length : length sized ≡ area_size
  sized_length = length-set (replicate area_size 0) 0 n ∙ length-replicate {A = ℕ} area_size 0

  sized_at : (p : ℕ) → 0 < p → get_or sized p 0 ≡ 0
  sized_at p h = get_or-set_other (replicate area_size 0) 0 p n 0 (λ e. omega arith) ∙ zeros_at area_size p

  named_is : Patched (λ m. get_or name m 0) 1 sized named n
  named_is = patched_mid 1 n sized name (omega (arith, sized_length)) refl

  named_length : length named ≡ area_size
  named_length = named_is.long ∙ sized_length

  head_length : length head_left ≡ area_size
  head_length = simp length-set named_length

  other_at : (p : ℕ) → (p ≡ kind_at → ⊥) → (p ≡ inputs_at → ⊥) → (p ≡ start_at → ⊥) → get_or head_left p 0 ≡ get_or named p 0
  other_at p e f g = get_or-set_other numbered start_at p (byte_of start) 0 g ∙ get_or-set_other kinded inputs_at p inputs 0 f
      ∙ get_or-set_other named kind_at p (kind_byte sequential) 0 e

  past_name : (p : ℕ) → 1 + n ≤ p → get_or named p 0 ≡ 0
  past_name p h = named_is.above p h ∙ sized_at p (omega arith)

  in_name : (p : ℕ) → name_at ≤ p → get_or named p 0 ≡ get_or name (p - name_at) 0
  in_name p h =
      let q : 1 + (p - name_at) ≡ p = omega arith in
      ⊎_elim (λ (l : p - name_at < n). rw q at (named_is.inside (p - name_at) l))
      (λ (g : n ≤ p - name_at). past_name p (omega arith) ∙ sym (get_or-eq_default name 0 g)) (lt_or_ge (p - name_at) n)

  kind_lem : get_or head_left kind_at 0 ≡ kind_byte sequential
  kind_lem =
      get_or-set_other numbered start_at kind_at (byte_of start) 0 (λ e. omega arith)
      ∙ get_or-set_other kinded inputs_at kind_at inputs 0 (λ e. omega arith)
      ∙ get_or-set_same named kind_at (kind_byte sequential) 0 (omega (arith, named_length))

  inputs_lem : get_or head_left inputs_at 0 ≡ inputs
  inputs_lem =
      get_or-set_other numbered start_at inputs_at (byte_of start) 0 (λ e. omega arith)
      ∙ get_or-set_same kinded inputs_at inputs 0 (simp length-set (omega (arith, named_length)))

  start_lem : get_or head_left start_at 0 ≡ byte_of start
  start_lem = get_or-set_same numbered start_at (byte_of start) 0 (simp length-set (omega (arith, named_length)))

  place : (p : ℕ) → p < area_size → area_byte (head_of name sequential inputs start) p ≡ get_or head_left p 0
  unfolding area_byte head_of
  place p h =
      ⊎_elim (λ (l : p < name_at). let q : p ≡ 0 = omega arith in
      rw q (sym (other_at 0 (λ e. omega arith) (λ e. omega arith) (λ e. omega arith) ∙ named_is.below 0 (omega arith)
      ∙ get_or-set_same (replicate area_size 0) 0 n 0 (omega (arith, length-replicate {A = ℕ} area_size 0)))))
      (λ (g : name_at ≤ p). ⊎_elim (λ (l : p < kind_at).
      rw (le-ltb p name_at g, lt-ltb p kind_at l) (sym (other_at p (λ e. omega arith) (λ e. omega arith) (λ e. omega arith) ∙ in_name p g)))
      (λ (g : kind_at ≤ p). ⊎_elim (λ (l : p < inputs_at). let q : p ≡ kind_at = omega arith in rw q (sym kind_lem))
      (λ (g : inputs_at ≤ p). ⊎_elim (λ (l : p < start_at). let q : p ≡ inputs_at = omega arith in rw q (sym inputs_lem))
      (λ (g : start_at ≤ p). ⊎_elim (λ (l : p < count_at). let q : p ≡ start_at = omega arith in rw q (sym start_lem))
      (λ (g : count_at ≤ p).
      past_head name sequential inputs start p g ∙ sym (other_at p (λ e. omega arith) (λ e. omega arith) (λ e. omega arith) ∙ past_name p (omega arith)))
      (lt_or_ge p count_at)) (lt_or_ge p start_at)) (lt_or_ge p inputs_at)) (lt_or_ge p kind_at)) (lt_or_ge p name_at)

  pub head_is : head_left ≡ encode (head_of name sequential inputs start)
  unfolding encode
  head_is = sym (listed_is (area_byte (head_of name sequential inputs start)) area_size head_left 0 head_length place)

pub record Fits (a name : List ℕ) (inputs : ℕ) : Type 0 where
  pub long : length a ≡ area_size
  pub short : length name ≤ name_limit
  pub few : inputs ≤ input_limit

pub fits_of : (a name : List ℕ) (inputs : ℕ) → head_fits a name inputs ≡ true → Fits a name inputs
unfolding head_fits
fits_of a name inputs e =
    let p = both (eqb (length a) area_size) _ e in
    let q = both (leb (length name) name_limit) (leb inputs input_limit) p.1 in
    record { long = eqb-true _ _ p.0; short = leb-true _ _ q.0; few = leb-true _ _ q.1 }

pub record Room (a : List ℕ) : Type 0 where
  pub long : length a ≡ area_size
  pub inputs : get_or a inputs_at 0 ≤ input_limit
  pub rows : get_or a count_at 0 < row_limit

pub room_of : (a : List ℕ) → has_room a ≡ true → Room a
unfolding has_room
room_of a e =
    let p = both (eqb (length a) area_size) _ e in
    let q = both (leb (get_or a inputs_at 0) input_limit) (ltb (get_or a count_at 0) row_limit) p.1 in
    record { long = eqb-true _ _ p.0; inputs = leb-true _ _ q.0; rows = ltb-true _ _ q.1 }
