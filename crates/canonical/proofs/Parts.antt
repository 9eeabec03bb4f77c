-- An area is the encoding of its table where each of its parts is. Assumes nothing.
use Prim.Native.Nat.{ℕ, zero, suc, min, ◌+◌, ◌-◌, ◌*◌, ◌/◌, ◌%◌, ◌≤◌, ◌<◌}
use mathlib.Core.Path.{◌≡◌, refl, sym, ap, ◌∙◌}
use mathlib.Core.Bool.{Bool, true, false, ◌&&◌}
use mathlib.Core.List.{List}
use mathlib.Core.Logic.{⊎_elim}
use native.Mathlib.Omega.{arith}
use lib.Dec.{eqb}
use lib.ListN.{length, get_or, take, drop, length-take, length-drop, get_or-eq_default}
use lib.Seq.{get_or-take, get_or-drop}
use borrow.Author.Tests.{lt-ltb, le-ltb, eq-eqb, ne_eqb}
use Rattle.base.specs.Limits.{input_limit, row_limit}
use Rattle.base.specs.Search.{every}
use Rattle.base.proofs.Bools.{both, and, lt_or_ge}
use Rattle.base.proofs.Search.{every_at, every_of, every_same}
use Rattle.base.proofs.Lists.{list_all_every}
use Rattle.std.specs.List.{list_all}
use Rattle.value.specs.Value.{byte_of}
use Rattle.stored.specs.Stored.{level_byte, output_byte, stores_level, stores_symbol, stores_output}
use Rattle.table.specs.Places.{name_at, kind_at, inputs_at, start_at, count_at, rows_at, state_at, output_at, row_size, area_size, row_place}
use Rattle.table.specs.Table.{row_at}
use Rattle.table.specs.Area.{kind_byte, symbol_part, row_byte, rows_byte, area_byte, symbol_in, decode, canonical}
use Rattle.canonical.specs.Parts.{as_encoded, row_as_encoded, zero_from}
use Rattle.table.proofs.Encoding.{decode_count, decode_symbol, decode_state, decode_output, decode_part, decode_behind, rows_place}

-- ---- tests that hold together
pub same_truth : (b c : Bool) → (b ≡ true → c ≡ true) → (c ≡ true → b ≡ true) → b ≡ c
same_truth true c p q = sym (p refl)
same_truth false true p q = q refl
same_truth false false p q = refl

pub fails_with : (b c : Bool) → (b ≡ true → c ≡ true) → c ≡ false → b ≡ false
fails_with true c p e = sym (p refl) ∙ e
fails_with false c p e = refl

-- a test that stands first among others
pub test_first : (b c d : Bool) → (c ≡ true → b ≡ true) → (b ≡ true → c ≡ d) → c ≡ (b && d)
test_first true c d p q = q refl
test_first false true d p q = sym (p refl)
test_first false false d p q = refl

and_turned : (a b c : Bool) → (a && (c && b)) ≡ ((a && b) && c)
and_turned true true true = refl
and_turned true true false = refl
and_turned true false true = refl
and_turned true false false = refl
and_turned false b c = refl

pub every_less : (f : ℕ → Bool) (n m : ℕ) → n ≤ m → every m f ≡ true → every n f ≡ true
every_less f n m l e = every_of f n (λ k h. every_at f m k e (omega arith))

-- numbers of which f is known to hold need no test
pub every_rest : (f : ℕ → Bool) (n m : ℕ) → n ≤ m → ((k : ℕ) → n ≤ k → k < m → f k ≡ true) → every n f ≡ every m f
every_rest f n m l h =
    same_truth (every n f) (every m f)
    (λ e. every_of f m (λ k g. ⊎_elim (λ (b : k < n). every_at f n k e b) (λ (b : n ≤ k). h k b g) (lt_or_ge k n)))
    (every_less f n m l)

-- a search of the bytes from one place up to another, as far as there are bytes
pub zero_part : (a : List ℕ) (from to end start : ℕ) → end ≡ min to (length a) → start ≡ min from end
    → list_all (λ (b : ℕ). eqb b 0) (take (end - start) (drop start a)) ≡ zero_from a from (to - from)
zero_part a from to end start e f =
    let part = take (end - start) (drop start a) in
    let size : length part ≡ end - start = simp (length-take, length-drop) (omega arith) in
    let same : (k : ℕ) → k < length part → eqb (get_or part k 0) 0 ≡ eqb (get_or a (from + k) 0) 0
    = λ k h.
    let g : k < end - start = omega (arith, size) in
    let q : start + k ≡ from + k = omega arith in
    ap (λ (b : ℕ). eqb b 0) (get_or-take (end - start) (drop start a) k 0 g ∙ get_or-drop start a k 0 ∙ ap (λ (p : ℕ). get_or a p 0) q) in
    list_all_every (λ (b : ℕ). eqb b 0) part 0
    ∙ every_same (λ (k : ℕ). eqb (get_or part k 0) 0) (λ (k : ℕ). eqb (get_or a (from + k) 0) 0) (length part) same
    ∙ every_rest (λ (k : ℕ). eqb (get_or a (from + k) 0) 0) (length part) (to - from) (omega (arith, size))
    (λ k g h. eq-eqb (get_or a (from + k) 0) 0 (get_or-eq_default a 0 (omega (arith, size))))

-- column k of row i
abbrev pub column_stored : List ℕ → ℕ → ℕ → Bool
column_stored a i k = stores_symbol (get_or a (row_place i (2 * k)) 0) (get_or a (row_place i (2 * k + 1)) 0)

module _ (a : List ℕ) where
  -- ---- the name, and what stands behind it
  name_place : (p : ℕ) → name_at ≤ p → p < kind_at → area_byte (decode a) p ≡ get_or (decode a).name (p - name_at) 0
  unfolding area_byte
  name_place p l h = rw (le-ltb p name_at l, lt-ltb p kind_at h)

  in_name_lem : (p : ℕ) → name_at ≤ p → p < kind_at → p < name_at + get_or a 0 0 → as_encoded a p ≡ true
  unfolding decode
  in_name_lem p l h g =
      let n = get_or a 0 0 in
      let e : name_at + (p - name_at) ≡ p = omega arith in
      eq-eqb (get_or a p 0) (area_byte (decode a) p)
      (sym (name_place p l h ∙ get_or-take n (drop name_at a) (p - name_at) 0 (omega arith) ∙ get_or-drop name_at a (p - name_at) 0
      ∙ ap (λ (q : ℕ). get_or a q 0) e))

  pub behind_name : (p : ℕ) → p < kind_at → name_at + get_or a 0 0 ≤ p → as_encoded a p ≡ eqb (get_or a p 0) 0
  unfolding decode
  behind_name p h g =
      ap (eqb (get_or a p 0))
      (name_place p (omega arith) h ∙ get_or-eq_default (take (get_or a 0 0) (drop name_at a)) 0 (simp length-take (omega arith)))

  head_behind : zero_from a (name_at + get_or a 0 0) (kind_at - (name_at + get_or a 0 0)) ≡ true → (p : ℕ) → p < kind_at
      → name_at + get_or a 0 0 ≤ p → as_encoded a p ≡ true
  head_behind zeros p l b =
      let n = name_at + get_or a 0 0 in
      let e : n + (p - n) ≡ p = omega arith in
      behind_name p l b ∙ rw e at (every_at (λ (k : ℕ). eqb (get_or a (n + k) 0) 0) (kind_at - n) (p - n) zeros (omega arith))

  -- ---- the other places of the head
  pub length_place : as_encoded a 0 ≡ eqb (get_or a 0 0) (length (decode a).name)
  unfolding area_byte
  length_place = refl

  pub kind_place : as_encoded a kind_at ≡ eqb (get_or a kind_at 0) (kind_byte (decode a).sequential)
  unfolding area_byte
  kind_place = refl

  inputs_place : as_encoded a inputs_at ≡ true
  unfolding area_byte decode
  inputs_place = eq-eqb (get_or a inputs_at 0) (get_or a inputs_at 0) refl

  pub start_place : as_encoded a start_at ≡ eqb (get_or a start_at 0) (byte_of (decode a).start)
  unfolding area_byte
  start_place = refl

  count_place : as_encoded a count_at ≡ true
  unfolding area_byte
  count_place = eq-eqb (get_or a count_at 0) (length (decode a).rows) (sym (decode_count a))

  head_places : as_encoded a 0 ≡ true → zero_from a (name_at + get_or a 0 0) (kind_at - (name_at + get_or a 0 0)) ≡ true
      → as_encoded a kind_at ≡ true → as_encoded a start_at ≡ true → (p : ℕ) → p < rows_at → as_encoded a p ≡ true
  head_places name zeros kind start p h =
      ⊎_elim (λ (l : p < name_at). let e : p ≡ 0 = omega arith in rw e name)
      (λ (g : name_at ≤ p). ⊎_elim (λ (l : p < kind_at). ⊎_elim (λ (b : p < name_at + get_or a 0 0). in_name_lem p g l b)
      (λ (b : name_at + get_or a 0 0 ≤ p). head_behind zeros p l b) (lt_or_ge p (name_at + get_or a 0 0)))
      (λ (g : kind_at ≤ p). ⊎_elim (λ (l : p < inputs_at). let e : p ≡ kind_at = omega arith in rw e kind)
      (λ (g : inputs_at ≤ p). ⊎_elim (λ (l : p < start_at). let e : p ≡ inputs_at = omega arith in rw e inputs_place)
      (λ (g : start_at ≤ p). ⊎_elim (λ (l : p < count_at). let e : p ≡ start_at = omega arith in rw e start)
      (λ (g : count_at ≤ p). let e : p ≡ count_at = omega arith in rw e count_place)
      (lt_or_ge p count_at)) (lt_or_ge p start_at)) (lt_or_ge p inputs_at)) (lt_or_ge p kind_at)) (lt_or_ge p name_at)

  -- the head is as encoded where its starting value is, and the rest of it is
  pub head_is : as_encoded a 0 ≡ true → zero_from a (name_at + get_or a 0 0) (kind_at - (name_at + get_or a 0 0)) ≡ true
      → as_encoded a kind_at ≡ true → as_encoded a start_at ≡ every rows_at (as_encoded a)
  head_is name zeros kind =
      same_truth (as_encoded a start_at) (every rows_at (as_encoded a))
      (λ start. every_of (as_encoded a) rows_at (head_places name zeros kind start))
      (λ e. every_at (as_encoded a) rows_at start_at e (omega arith))

  -- and is not where one of them is not
  pub head_zero : every rows_at (as_encoded a) ≡ true → zero_from a (name_at + get_or a 0 0) (kind_at - (name_at + get_or a 0 0)) ≡ true
  head_zero e =
      let n = name_at + get_or a 0 0 in
      every_of (λ (k : ℕ). eqb (get_or a (n + k) 0) 0) (kind_at - n)
      (λ k h. sym (behind_name (n + k) (omega arith) (omega arith)) ∙ every_at (as_encoded a) rows_at (n + k) e (omega arith))

  -- the head, test by test
  pub head_tests : every rows_at (as_encoded a)
      ≡ (as_encoded a 0 && (zero_from a (name_at + get_or a 0 0) (kind_at - (name_at + get_or a 0 0)) && (as_encoded a kind_at && as_encoded a start_at)))
  head_tests =
      let whole = every rows_at (as_encoded a) in
      let at : (p : ℕ) → p < rows_at → whole ≡ true → as_encoded a p ≡ true = λ p h e. every_at (as_encoded a) rows_at p e h in
      test_first (as_encoded a 0) whole _ (at 0 (omega arith))
      (λ name. test_first _ whole _ head_zero
      (λ zeros. test_first (as_encoded a kind_at) whole _ (at kind_at (omega arith))
      (λ kind. sym (head_is name zeros kind))))

  -- ---- a row
  module _ (i : ℕ) (h : i < length (decode a).rows) where
    row_place_lem : (k : ℕ) → k < row_size → as_encoded a (row_place i k) ≡ eqb (get_or a (row_place i k) 0) (row_byte (row_at (decode a) i) k)
    unfolding rows_byte
    row_place_lem k g =
        let p = row_place i k in
        let e : (p - rows_at) / row_size ≡ i = omega arith in
        let f : (p - rows_at) % row_size ≡ k = omega arith in
        ap (eqb (get_or a p 0)) (rows_place (decode a) p (omega arith) ∙ rw (e, f, lt-ltb i (length (decode a).rows) h))

    -- the two bytes of a column
    part_place : (k m : ℕ) → k < (decode a).inputs → m < 2 → 2 * k + m < row_size
        → as_encoded a (row_place i (2 * k + m)) ≡ eqb (get_or a (row_place i (2 * k + m)) 0) (symbol_part (symbol_in a i k) m)
    part_place k m g l w =
        let d : (2 * k + m) / 2 ≡ k = omega arith in
        let r : (2 * k + m) % 2 ≡ m = omega arith in
        row_place_lem (2 * k + m) w
        ∙ ap (eqb (get_or a (row_place i (2 * k + m)) 0)) (decode_part a i (2 * k + m) h (omega arith) ∙ rw (d, r, decode_symbol a i k h g))

    pub column_more : (k : ℕ) → k < (decode a).inputs → 2 * k + 1 < row_size →
        (row_as_encoded a i (2 * k) && stores_symbol (get_or a (row_place i (2 * k)) 0) (get_or a (row_place i (2 * k + 1)) 0))
        ≡ row_as_encoded a i (2 * (k + 1))
    unfolding every stores_symbol symbol_part symbol_in
    column_more k g w =
        let n : 2 * (k + 1) ≡ suc (suc (2 * k)) = omega arith in
        let z : 2 * k + 0 ≡ 2 * k = omega arith in
        let s : suc (2 * k) ≡ 2 * k + 1 = omega arith in
        rw (n, s, rw z at (part_place k 0 g (omega arith) (omega arith)), part_place k 1 g (omega arith) w)
        (and_turned (row_as_encoded a i (2 * k)) (eqb (get_or a (row_place i (2 * k)) 0) (symbol_part (symbol_in a i k) 0))
        (eqb (get_or a (row_place i (2 * k + 1)) 0) (symbol_part (symbol_in a i k) 1)))

    pub columns_are : (n : ℕ) → n ≤ (decode a).inputs → 2 * n ≤ row_size → every n (column_stored a i) ≡ row_as_encoded a i (2 * n)
    unfolding every
    columns_are zero l w = refl
    columns_are (suc n) l w =
        let more : suc n ≡ n + 1 = omega arith in
        ap (λ (b : Bool). b && column_stored a i n) (columns_are n (omega arith) (omega arith)) ∙ rw more (column_more n (omega arith) (omega arith))

    -- behind the columns
    module _ (few : (decode a).inputs ≤ input_limit) where
      pub unused_place : (k : ℕ) → 2 * (decode a).inputs ≤ k → k < state_at → as_encoded a (row_place i k) ≡ eqb (get_or a (row_place i k) 0) 0
      unused_place k l g =
          row_place_lem k (omega arith)
          ∙ ap (eqb (get_or a (row_place i k) 0)) (decode_behind a i k h l ∙ rw (ne_eqb k state_at (λ e. omega arith), ne_eqb k output_at (λ e. omega arith)))

      state_place : as_encoded a (row_place i state_at) ≡ stores_level (get_or a (row_place i state_at) 0)
      unfolding stores_level
      state_place =
          row_place_lem state_at (omega arith)
          ∙ ap (eqb (get_or a (row_place i state_at) 0)) (decode_behind a i state_at h (omega arith) ∙ ap level_byte (decode_state a i h))

      output_place : as_encoded a (row_place i output_at) ≡ stores_output (get_or a (row_place i output_at) 0)
      unfolding stores_output
      output_place =
          row_place_lem output_at (omega arith)
          ∙ ap (eqb (get_or a (row_place i output_at) 0)) (decode_behind a i output_at h (omega arith) ∙ ap output_byte (decode_output a i h))

      pub row_zero : row_as_encoded a i row_size ≡ true → zero_from a (row_place i (2 * (decode a).inputs)) (state_at - 2 * (decode a).inputs) ≡ true
      row_zero e =
          let n = 2 * (decode a).inputs in
          every_of (λ (k : ℕ). eqb (get_or a (row_place i n + k) 0) 0) (state_at - n)
          (λ k g.
          let q : row_place i n + k ≡ row_place i (n + k) = omega arith in
          rw q (sym (unused_place (n + k) (omega arith) (omega arith)) ∙ every_at (λ (m : ℕ). as_encoded a (row_place i m)) row_size (n + k) e (omega arith)))

      pub row_is : row_as_encoded a i (2 * (decode a).inputs) ≡ true
          → zero_from a (row_place i (2 * (decode a).inputs)) (state_at - 2 * (decode a).inputs) ≡ true
          → (stores_level (get_or a (row_place i state_at) 0) && stores_output (get_or a (row_place i output_at) 0)) ≡ row_as_encoded a i row_size
      row_is columns zeros =
          let n = 2 * (decode a).inputs in
          let s = stores_level (get_or a (row_place i state_at) 0) in
          let o = stores_output (get_or a (row_place i output_at) 0) in
          same_truth (s && o) (row_as_encoded a i row_size)
          (λ e. every_of (λ (k : ℕ). as_encoded a (row_place i k)) row_size
          (λ k g. ⊎_elim (λ (l : k < n). every_at (λ (m : ℕ). as_encoded a (row_place i m)) n k columns l)
          (λ (b : n ≤ k). ⊎_elim (λ (l : k < state_at). let q : row_place i n + (k - n) ≡ row_place i k = omega arith in
          unused_place k b l ∙ rw q at (every_at (λ (m : ℕ). eqb (get_or a (row_place i n + m) 0) 0) (state_at - n) (k - n) zeros (omega arith)))
          (λ (b : state_at ≤ k). ⊎_elim (λ (l : k < output_at). let q : k ≡ state_at = omega arith in rw q (state_place ∙ (both s o e).0))
          (λ (b : output_at ≤ k). let q : k ≡ output_at = omega arith in rw q (output_place ∙ (both s o e).1))
          (lt_or_ge k output_at)) (lt_or_ge k state_at)) (lt_or_ge k n)))
          (λ e. and
          (sym state_place ∙ every_at (λ (m : ℕ). as_encoded a (row_place i m)) row_size state_at e (omega arith))
          (sym output_place ∙ every_at (λ (m : ℕ). as_encoded a (row_place i m)) row_size output_at e (omega arith)))

      -- the row, test by test
      pub row_tests : row_as_encoded a i row_size
          ≡ (row_as_encoded a i (2 * (decode a).inputs) && (zero_from a (row_place i (2 * (decode a).inputs)) (state_at - 2 * (decode a).inputs)
          && (stores_level (get_or a (row_place i state_at) 0) && stores_output (get_or a (row_place i output_at) 0))))
      row_tests =
          let n = 2 * (decode a).inputs in
          let whole = row_as_encoded a i row_size in
          test_first (row_as_encoded a i n) whole _ (every_less (λ (k : ℕ). as_encoded a (row_place i k)) n row_size (omega arith))
          (λ columns. test_first _ whole _ row_zero (λ zeros. sym (row_is columns zeros)))

  -- ---- the whole
  pub whole_head : canonical a ≡ true → every rows_at (as_encoded a) ≡ true
  unfolding canonical
  whole_head e = every_less (as_encoded a) rows_at area_size (omega arith) e

  module _ (m : ℕ) (w : m ≡ min (length (decode a).rows) row_limit) where
    rest_place : (p : ℕ) → row_place m 0 ≤ p → p < area_size → as_encoded a p ≡ eqb (get_or a p 0) 0
    unfolding rows_byte
    rest_place p l g =
        let e : m ≡ length (decode a).rows = omega arith in
        ap (eqb (get_or a p 0)) (rows_place (decode a) p (omega arith) ∙ rw (le-ltb ((p - rows_at) / row_size) (length (decode a).rows) (omega arith)))

    pub whole_rows : canonical a ≡ true → every m (λ (i : ℕ). row_as_encoded a i row_size) ≡ true
    unfolding canonical
    whole_rows e =
        every_of (λ (i : ℕ). row_as_encoded a i row_size) m
        (λ i h. every_of (λ (k : ℕ). as_encoded a (row_place i k)) row_size (λ k g. every_at (as_encoded a) area_size (row_place i k) e (omega arith)))

    pub whole_is : every rows_at (as_encoded a) ≡ true → every m (λ (i : ℕ). row_as_encoded a i row_size) ≡ true
        → zero_from a (rows_at + m * row_size) (area_size - (rows_at + m * row_size)) ≡ canonical a
    unfolding canonical
    whole_is head rows =
        let b = rows_at + m * row_size in
        same_truth (zero_from a b (area_size - b)) (every area_size (as_encoded a))
        (λ e. every_of (as_encoded a) area_size
        (λ p h. ⊎_elim (λ (g : p < rows_at). every_at (as_encoded a) rows_at p head g)
        (λ (g : rows_at ≤ p). ⊎_elim
        (λ (c : p < b).
        let i = (p - rows_at) / row_size in
        let k = (p - rows_at) % row_size in
        let q : row_place i k ≡ p = omega arith in
        rw q at (every_at (λ (k : ℕ). as_encoded a (row_place i k)) row_size k
        (every_at (λ (i : ℕ). row_as_encoded a i row_size) m i rows (omega arith)) (omega arith)))
        (λ (c : b ≤ p).
        let q : b + (p - b) ≡ p = omega arith in
        rest_place p (omega arith) h ∙ rw q at (every_at (λ (k : ℕ). eqb (get_or a (b + k) 0) 0) (area_size - b) (p - b) e (omega arith)))
        (lt_or_ge p b)) (lt_or_ge p rows_at)))
        (λ e. every_of (λ (k : ℕ). eqb (get_or a (b + k) 0) 0) (area_size - b)
        (λ k h. sym (rest_place (b + k) (omega arith) (omega arith)) ∙ every_at (as_encoded a) area_size (b + k) e (omega arith)))

    -- the area, test by test
    pub whole_tests : canonical a
        ≡ (every rows_at (as_encoded a) && (every m (λ (i : ℕ). row_as_encoded a i row_size)
        && zero_from a (rows_at + m * row_size) (area_size - (rows_at + m * row_size))))
    whole_tests =
        test_first (every rows_at (as_encoded a)) (canonical a) _ whole_head
        (λ head. test_first (every m (λ (i : ℕ). row_as_encoded a i row_size)) (canonical a) _ whole_rows (λ rows. sym (whole_is head rows)))
