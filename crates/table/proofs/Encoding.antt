-- The encoding: what is read out of any area, what is read out of an encoding, and that nothing is lost. Assumes nothing.
use Prim.Native.Nat.{ℕ, ◌+◌, ◌-◌, ◌*◌, ◌/◌, ◌%◌, ◌≤◌, ◌<◌}
use mathlib.Core.Path.{◌≡◌, refl, sym, ap, ◌∙◌}
use mathlib.Core.Bool.{Bool, true, false, cond}
use mathlib.Core.List.{List}
use native.Mathlib.Omega.{arith}
use lib.Dec.{eqb}
use lib.ListN.{length, get_or, take, drop, length-take, length-drop, get_or-eq_default}
use lib.Seq.{ext_get_or, get_or-take, get_or-drop}
use borrow.Author.Tests.{lt-ltb, le-ltb, eq-eqb, eqb-true}
use Rattle.base.proofs.Search.{every_at, every_of}
use Rattle.base.specs.Listed.{listed}
use Rattle.base.proofs.Listed.{listed_length, listed_at, listed_past, listed_is}
use Rattle.value.specs.declared.Ternary.{Ternary}
use Rattle.value.specs.declared.Ternary.TheVariants.{V0, V1, Vx}
use Rattle.value.specs.Value.{byte_of, read_byte}
use Rattle.stored.specs.Stored.{level_byte, level_of, symbol_byte, output_byte, output_of}
use Rattle.stored.proofs.Stores.{level_of_byte, output_of_byte, symbol_of_bytes}
use Rattle.table.specs.Places.{name_at, kind_at, inputs_at, start_at, count_at, rows_at, state_at, output_at, row_size, area_size, row_place}
use Rattle.table.specs.Table.{Table, Bounded, Shaped, row_at, symbol_at, no_row, any_symbol}
use Rattle.table.specs.Area.{kind_byte, symbol_part, row_byte, rows_byte, area_byte, encode, symbol_in, row_in, or_x, decode, canonical}

-- ---- what is read out of any area
pub decode_inputs : (a : List ℕ) → (decode a).inputs ≡ get_or a inputs_at 0
unfolding decode
decode_inputs a = refl

pub decode_count : (a : List ℕ) → length (decode a).rows ≡ get_or a count_at 0
unfolding decode
decode_count a = listed_length (row_in a) (get_or a count_at 0)

pub decode_row : (a : List ℕ) (i : ℕ) → i < length (decode a).rows → row_at (decode a) i ≡ row_in a i
unfolding decode
decode_row a i h = listed_at (row_in a) (get_or a count_at 0) i no_row (omega (arith, listed_length (row_in a) (get_or a count_at 0)))

pub decode_no_row : (a : List ℕ) (i : ℕ) → length (decode a).rows ≤ i → row_at (decode a) i ≡ no_row
unfolding decode
decode_no_row a i h = listed_past (row_in a) (get_or a count_at 0) i no_row (omega (arith, listed_length (row_in a) (get_or a count_at 0)))

pub decode_columns : (a : List ℕ) (i : ℕ) → i < length (decode a).rows → length (row_at (decode a) i).symbols ≡ (decode a).inputs
unfolding decode row_in
decode_columns a i h = rw (decode_row a i h) (listed_length (symbol_in a i) (get_or a inputs_at 0))

pub decode_symbol : (a : List ℕ) (i k : ℕ) → i < length (decode a).rows → k < (decode a).inputs → symbol_at (row_at (decode a) i) k ≡ symbol_in a i k
unfolding decode row_in
decode_symbol a i k h g = rw (decode_row a i h) (listed_at (symbol_in a i) (get_or a inputs_at 0) k any_symbol g)

-- past the last row, and past the last column
pub decode_no_symbol : (a : List ℕ) (i k : ℕ) → length (decode a).rows ≤ i → symbol_at (row_at (decode a) i) k ≡ any_symbol
decode_no_symbol a i k h = rw (decode_no_row a i h)

pub decode_no_column : (a : List ℕ) (i k : ℕ) → i < length (decode a).rows → (decode a).inputs ≤ k → symbol_at (row_at (decode a) i) k ≡ any_symbol
decode_no_column a i k h g = get_or-eq_default (row_at (decode a) i).symbols any_symbol (omega (arith, decode_columns a i h))

pub decode_state : (a : List ℕ) (i : ℕ) → i < length (decode a).rows → (row_at (decode a) i).state ≡ level_of (get_or a (row_place i state_at) 0)
unfolding row_in
decode_state a i h = rw (decode_row a i h)

pub decode_output : (a : List ℕ) (i : ℕ) → i < length (decode a).rows → (row_at (decode a) i).output ≡ output_of (get_or a (row_place i output_at) 0)
unfolding row_in
decode_output a i h = rw (decode_row a i h)

-- place k of a decoded row: in the columns, and behind them
pub decode_part : (a : List ℕ) (i k : ℕ) → i < length (decode a).rows → k < 2 * (decode a).inputs
    → row_byte (row_at (decode a) i) k ≡ symbol_part (symbol_at (row_at (decode a) i) (k / 2)) (k % 2)
unfolding row_byte
decode_part a i k h g = rw (lt-ltb k (2 * length (row_at (decode a) i).symbols) (omega (arith, decode_columns a i h)))

pub decode_behind : (a : List ℕ) (i k : ℕ) → i < length (decode a).rows → 2 * (decode a).inputs ≤ k
    → row_byte (row_at (decode a) i) k
    ≡ cond (eqb k state_at) (level_byte (row_at (decode a) i).state) (cond (eqb k output_at) (output_byte (row_at (decode a) i).output) 0)
unfolding row_byte
decode_behind a i k h g = rw (le-ltb k (2 * length (row_at (decode a) i).symbols) (omega (arith, decode_columns a i h)))

-- ---- what is read out of an encoding
pub encode_length : (t : Table) → length (encode t) ≡ area_size
unfolding encode
encode_length t = listed_length (area_byte t) area_size

pub encode_at : (t : Table) (p : ℕ) → p < area_size → get_or (encode t) p 0 ≡ area_byte t p
unfolding encode
encode_at t p h = listed_at (area_byte t) area_size p 0 h

pub rows_place : (t : Table) (p : ℕ) → rows_at ≤ p → area_byte t p ≡ rows_byte t (p - rows_at)
unfolding area_byte
rows_place t p h =
    rw (
      le-ltb p name_at (omega arith),
      le-ltb p kind_at (omega arith),
      le-ltb p inputs_at (omega arith),
      le-ltb p start_at (omega arith),
      le-ltb p count_at (omega arith),
      le-ltb p rows_at h,
    )

row_byte_lem : (t : Table) (i k : ℕ) → Bounded t → i < length t.rows → k < row_size → get_or (encode t) (row_place i k) 0 ≡ row_byte (row_at t i) k
unfolding rows_byte
row_byte_lem t i k b h g =
    let p = row_place i k in
    let e : (p - rows_at) / row_size ≡ i = omega arith in
    let f : (p - rows_at) % row_size ≡ k = omega arith in
    encode_at t p (omega (arith, b.rows)) ∙ rows_place t p (omega arith) ∙ rw (e, f, lt-ltb i (length t.rows) h)

kind_of_byte : (b : Bool) → eqb (kind_byte b) 115 ≡ b
unfolding kind_byte
kind_of_byte true = refl
kind_of_byte false = refl

start_of_byte : (v : Ternary) → or_x (read_byte (byte_of v)) ≡ v
unfolding or_x read_byte byte_of
start_of_byte V0 = refl
start_of_byte V1 = refl
start_of_byte Vx = refl

module _ (t : Table) (s : Shaped t) where
  pub count_of : get_or (encode t) count_at 0 ≡ length t.rows
  unfolding area_byte
  count_of = encode_at t count_at (omega arith)

  pub inputs_of : get_or (encode t) inputs_at 0 ≡ t.inputs
  unfolding area_byte
  inputs_of = encode_at t inputs_at (omega arith)

  length_of : get_or (encode t) 0 0 ≡ length t.name
  unfolding area_byte
  length_of = encode_at t 0 (omega arith)

  kind_of_lem : get_or (encode t) kind_at 0 ≡ kind_byte t.sequential
  unfolding area_byte
  kind_of_lem = encode_at t kind_at (omega arith)

  start_of : get_or (encode t) start_at 0 ≡ byte_of t.start
  unfolding area_byte
  start_of = encode_at t start_at (omega arith)

  name_of : take (length t.name) (drop name_at (encode t)) ≡ t.name
  unfolding area_byte
  name_of =
      let l = s.bounded.name in
      let size : length (take (length t.name) (drop name_at (encode t))) ≡ length t.name = simp (length-take, length-drop) (omega (arith, encode_length t)) in
      ext_get_or 0 (take (length t.name) (drop name_at (encode t))) t.name size
      (λ k h.
      let g : k < length t.name = omega (arith, size) in
      let e : name_at + k - name_at ≡ k = omega arith in
      get_or-take (length t.name) (drop name_at (encode t)) k 0 g
      ∙ get_or-drop name_at (encode t) k 0
      ∙ encode_at t (name_at + k) (omega arith)
      ∙ rw (le-ltb (name_at + k) name_at (omega arith), lt-ltb (name_at + k) kind_at (omega arith), e))

  module _ (i : ℕ) (h : i < length t.rows) where
    -- the two bytes of column k
    symbol_part_lem : (k m : ℕ) → k < t.inputs → m < 2 → get_or (encode t) (row_place i (2 * k + m)) 0 ≡ symbol_part (symbol_at (row_at t i) k) m
    unfolding row_byte
    symbol_part_lem k m g l =
        let b = s.bounded.inputs in
        let d : (2 * k + m) / 2 ≡ k = omega arith in
        let r : (2 * k + m) % 2 ≡ m = omega arith in
        row_byte_lem t i (2 * k + m) s.bounded h (omega arith)
        ∙ rw (lt-ltb (2 * k + m) (2 * length (row_at t i).symbols) (omega (arith, s.columns i h)), d, r)

    first_part : (k : ℕ) → k < t.inputs → get_or (encode t) (row_place i (2 * k)) 0 ≡ symbol_byte (symbol_at (row_at t i) k)
    unfolding symbol_part
    first_part k g = let e : 2 * k + 0 ≡ 2 * k = omega arith in rw e at (symbol_part_lem k 0 g (omega arith))

    symbols_of : listed (symbol_in (encode t) i) t.inputs ≡ (row_at t i).symbols
    unfolding symbol_in symbol_part
    symbols_of =
        listed_is (symbol_in (encode t) i) t.inputs (row_at t i).symbols any_symbol (s.columns i h)
        (λ k g. rw (first_part k g, symbol_part_lem k 1 g (omega arith)) (symbol_of_bytes (symbol_at (row_at t i) k)))

    state_of_lem : level_of (get_or (encode t) (row_place i state_at) 0) ≡ (row_at t i).state
    unfolding row_byte
    state_of_lem =
        let l = s.bounded.inputs in
        rw (row_byte_lem t i state_at s.bounded h (omega arith), le-ltb state_at (2 * length (row_at t i).symbols) (omega (arith, s.columns i h)))
        (level_of_byte (row_at t i).state)

    output_of_lem : output_of (get_or (encode t) (row_place i output_at) 0) ≡ (row_at t i).output
    unfolding row_byte
    output_of_lem =
        let l = s.bounded.inputs in
        rw (row_byte_lem t i output_at s.bounded h (omega arith), le-ltb output_at (2 * length (row_at t i).symbols) (omega (arith, s.columns i h)))
        (output_of_byte (row_at t i).output)

    row_of : row_in (encode t) i ≡ row_at t i
    unfolding row_in
    row_of = rw (inputs_of, symbols_of, state_of_lem, output_of_lem)

  rows_of : listed (row_in (encode t)) (length t.rows) ≡ t.rows
  rows_of = listed_is (row_in (encode t)) (length t.rows) t.rows no_row refl row_of

  -- nothing is lost
  pub decode_encode : decode (encode t) ≡ t
  unfolding decode
  decode_encode = rw (length_of, name_of, kind_of_lem, kind_of_byte t.sequential, inputs_of, start_of, start_of_byte t.start, count_of, rows_of)

pub encode_injective : (t u : Table) → Shaped t → Shaped u → encode t ≡ encode u → t ≡ u
encode_injective t u s r e = sym (decode_encode t s) ∙ ap decode e ∙ decode_encode u r

-- an area that passes is the encoding of its table
pub encode_decode : (a : List ℕ) → length a ≡ area_size → canonical a ≡ true → a ≡ encode (decode a)
unfolding canonical
encode_decode a l e =
    ext_get_or 0 a (encode (decode a)) (l ∙ sym (encode_length (decode a)))
    (λ p h. let g : p < area_size = omega arith in eqb-true _ _ (every_at _ area_size p e g) ∙ sym (encode_at (decode a) p g))

-- and the other way round
pub encoding_passes : (t : Table) → Shaped t → canonical (encode t) ≡ true
unfolding canonical
encoding_passes t s =
    every_of (λ (p : ℕ). eqb (get_or (encode t) p 0) (area_byte (decode (encode t)) p)) area_size
    (λ p h. eq-eqb (get_or (encode t) p 0) (area_byte (decode (encode t)) p) (rw (decode_encode t s) (encode_at t p h)))
