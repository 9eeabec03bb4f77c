-- A row added to an encoded table gives the encoding of the table with that row. Assumes nothing.
use Prim.Native.Nat.{ℕ, ◌+◌, ◌-◌, ◌*◌, ◌/◌, ◌%◌, ◌≤◌, ◌<◌}
use mathlib.Core.Path.{◌≡◌, refl, sym, ap, ◌∙◌}
use mathlib.Core.Bool.{Bool, true, false, cond}
use mathlib.Core.List.{List, [], ◌∷◌}
use mathlib.Core.Logic.{⊎_elim}
use native.Mathlib.Omega.{arith}
use lib.Dec.{eqb}
use lib.ListN.{length, get_or, set, replicate, length-set, length-append, get_or-append}
use lib.Seq.{get_or_at, get_or-set_same, get_or-set_other}
use borrow.Author.Tests.{lt-ltb, le-ltb, le-leb, lt-leb, eqb-true, eqb-false, eq-eqb, ne_eqb}
use Rattle.base.specs.Limits.{row_limit, input_limit}
use Rattle.base.proofs.Bools.{and, lt_or_ge}
use Rattle.base.specs.Listed.{listed}
use Rattle.base.proofs.Listed.{listed_is}
use Rattle.base.proofs.Patched.{Patched}
use Rattle.base.proofs.Lists.{zeros_at}
use Rattle.stored.specs.Stored.{level_byte, symbol_byte, second_byte, output_byte}
use Rattle.table.specs.Places.{inputs_at, count_at, rows_at, state_at, output_at, row_size, area_size, row_place}
use Rattle.table.specs.Table.{Row, Table, Shaped, row_at, symbol_at, no_row, with_row}
use Rattle.table.specs.Area.{symbol_part, row_byte, rows_byte, area_byte, encode}
use Rattle.table.proofs.Encoding.{encode_length, encode_at, rows_place, inputs_of, count_of}
use Rattle.writing.specs.Written.{has_room, added_byte, row_written}

-- ---- what fill_row leaves
module _ (r : Row) where
  -- the first k columns are written, and zeros stand behind them
  pub record Columns (l : List ℕ) (k : ℕ) : Type 0 where
    pub long : length l ≡ row_size
    pub written : (p : ℕ) → p < 2 * k → get_or l p 0 ≡ row_byte r p
    pub zeros : (p : ℕ) → 2 * k ≤ p → get_or l p 0 ≡ 0

  pub columns_none : (l : List ℕ) → l ≡ replicate row_size 0 → Columns l 0
  columns_none l e = record { long = rw e; written = λ p h. absurd (omega arith); zeros = λ p h. rw e (zeros_at row_size p) }

  first_byte : (k : ℕ) → k < length r.symbols → symbol_byte (symbol_at r k) ≡ row_byte r (2 * k)
  unfolding row_byte symbol_part
  first_byte k h =
      let q : 2 * k / 2 ≡ k = omega arith in
      let m : 2 * k % 2 ≡ 0 = omega arith in
      rw (lt-ltb (2 * k) (2 * length r.symbols) (omega arith), q, m)

  next_byte : (k : ℕ) → k < length r.symbols → second_byte (symbol_at r k) ≡ row_byte r (2 * k + 1)
  unfolding row_byte symbol_part
  next_byte k h =
      let q : (2 * k + 1) / 2 ≡ k = omega arith in
      let m : (2 * k + 1) % 2 ≡ 1 = omega arith in
      rw (lt-ltb (2 * k + 1) (2 * length r.symbols) (omega arith), q, m)

  pub columns_more : (l : List ℕ) (k x y : ℕ) → k < length r.symbols → length r.symbols ≤ input_limit
      → x ≡ symbol_byte (symbol_at r k) → y ≡ second_byte (symbol_at r k) → Columns l k → Columns (set (set l (2 * k) x) (2 * k + 1) y) (k + 1)
  columns_more l k x y h few e f w =
      let outer : (p : ℕ) → (p ≡ 2 * k + 1 → ⊥) → get_or (set (set l (2 * k) x) (2 * k + 1) y) p 0 ≡ get_or (set l (2 * k) x) p 0
      = λ p g. get_or-set_other (set l (2 * k) x) (2 * k + 1) p y 0 g in
      let inner : (p : ℕ) → (p ≡ 2 * k → ⊥) → get_or (set l (2 * k) x) p 0 ≡ get_or l p 0 = λ p g. get_or-set_other l (2 * k) p x 0 g in
      record {
        long = simp length-set w.long;
        written = λ p g. ⊎_elim
            (λ (a : p < 2 * k). outer p (λ q. omega arith) ∙ inner p (λ q. omega arith) ∙ w.written p a)
            (λ (a : 2 * k ≤ p). ⊎_elim
            (λ (b : p < 2 * k + 1). let q : p ≡ 2 * k = omega arith in
            rw q (outer (2 * k) (λ z. omega arith) ∙ get_or-set_same l (2 * k) x 0 (omega (arith, w.long)) ∙ e ∙ first_byte k h))
            (λ (b : 2 * k + 1 ≤ p). let q : p ≡ 2 * k + 1 = omega arith in
            rw q (get_or-set_same (set l (2 * k) x) (2 * k + 1) y 0 (simp length-set (omega (arith, w.long))) ∙ f ∙ next_byte k h))
            (lt_or_ge p (2 * k + 1)))
            (lt_or_ge p (2 * k));
        zeros = λ p g. outer p (λ q. omega arith) ∙ inner p (λ q. omega arith) ∙ w.zeros p (omega arith);
      }

  behind : (p : ℕ) → 2 * length r.symbols ≤ p → row_byte r p ≡ cond (eqb p state_at) (level_byte r.state) (cond (eqb p output_at) (output_byte r.output) 0)
  unfolding row_byte
  behind p h = rw (le-ltb p (2 * length r.symbols) h)

  module _ (l : List ℕ) (few : length r.symbols ≤ input_limit) (w : Columns l (length r.symbols)) where
    abbrev x : ℕ
    x = level_byte r.state

    abbrev y : ℕ
    y = output_byte r.output

    filled_place : (p : ℕ) → p < row_size → row_byte r p ≡ get_or (set (set l state_at x) output_at y) p 0
    filled_place p h =
        let outer : (p ≡ output_at → ⊥) → get_or (set (set l state_at x) output_at y) p 0 ≡ get_or (set l state_at x) p 0
        = get_or-set_other (set l state_at x) output_at p y 0 in
        let inner : (p ≡ state_at → ⊥) → get_or (set l state_at x) p 0 ≡ get_or l p 0 = get_or-set_other l state_at p x 0 in
        ⊎_elim (λ (g : p < 2 * length r.symbols). sym (outer (λ e. omega arith) ∙ inner (λ e. omega arith) ∙ w.written p g))
        (λ (g : 2 * length r.symbols ≤ p). behind p g ∙ ⊎_elim (λ (b : p < state_at).
        rw (ne_eqb p state_at (λ e. omega arith), ne_eqb p output_at (λ e. omega arith))
        (sym (outer (λ e. omega arith) ∙ inner (λ e. omega arith) ∙ w.zeros p g)))
        (λ (b : state_at ≤ p). ⊎_elim (λ (d : p < output_at). let q : p ≡ state_at = omega arith in
        rw q (sym (get_or-set_other (set l state_at x) output_at state_at y 0 (λ e. omega arith) ∙ get_or-set_same l state_at x 0 (omega (arith, w.long)))))
        (λ (d : output_at ≤ p). let q : p ≡ output_at = omega arith in
        rw q (sym (get_or-set_same (set l state_at x) output_at y 0 (simp length-set (omega (arith, w.long))))))
        (lt_or_ge p output_at)) (lt_or_ge p state_at)) (lt_or_ge p (2 * length r.symbols))

    pub row_filled : set (set l state_at x) output_at y ≡ listed (row_byte r) row_size
    row_filled = sym (listed_is (row_byte r) row_size (set (set l state_at x) output_at y) 0 (simp length-set w.long) filled_place)

-- ---- what write_row leaves
module _ (a l : List ℕ) (r : Row) (long : length a ≡ area_size) (few : get_or a count_at 0 < row_limit)
    (w : Patched (row_byte r) (rows_at + get_or a count_at 0 * row_size) a l row_size) where
  abbrev b : ℕ
  b = row_place (get_or a count_at 0) 0

  in_row : (p : ℕ) → b ≤ p → p < b + row_size → added_byte a r p ≡ row_byte r (p - b)
  unfolding added_byte
  in_row p h g = rw (le-leb b p h, lt-ltb p (b + row_size) g)

  before_row : (p : ℕ) → p < b → added_byte a r p ≡ cond (eqb p count_at) (get_or a count_at 0 + 1) (get_or a p 0)
  unfolding added_byte
  before_row p h = rw (lt-leb b p h)

  behind_row : (p : ℕ) → b + row_size ≤ p → added_byte a r p ≡ get_or a p 0
  unfolding added_byte
  behind_row p h = rw (le-leb b p (omega arith), le-ltb p (b + row_size) h, ne_eqb p count_at (λ e. omega arith))

  place_by : (p : ℕ) → p < b → (t : Bool) → eqb p count_at ≡ t → get_or (set l count_at (get_or l count_at 0 + 1)) p 0
      ≡ cond t (get_or a count_at 0 + 1) (get_or a p 0)
  place_by p h true e =
      let q : p ≡ count_at = eqb-true _ _ e in
      rw (q, get_or-set_same l count_at (get_or l count_at 0 + 1) 0 (omega (arith, w.long)), w.below count_at (omega arith))
  place_by p h false e = get_or-set_other l count_at p _ 0 (eqb-false _ _ e) ∙ w.below p (omega arith)

  place : (p : ℕ) → p < area_size → added_byte a r p ≡ get_or (set l count_at (get_or l count_at 0 + 1)) p 0
  place p h =
      ⊎_elim
      (λ (g : p < b). before_row p g ∙ sym (place_by p g (eqb p count_at) refl))
      (λ (g : b ≤ p).
      let other = get_or-set_other l count_at p (get_or l count_at 0 + 1) 0 (λ e. omega arith) in
      ⊎_elim
      (λ (inside : p < b + row_size).
      let e : rows_at + get_or a count_at 0 * row_size + (p - b) ≡ p = omega arith in
      in_row p g inside ∙ sym (other ∙ (rw e at (w.inside (p - b) (omega arith)))))
      (λ (past : b + row_size ≤ p). behind_row p past ∙ sym (other ∙ w.above p (omega arith)))
      (lt_or_ge p (b + row_size)))
      (lt_or_ge p b)

  pub row_left : set l count_at (get_or l count_at 0 + 1) ≡ listed (added_byte a r) area_size
  row_left =
      sym (listed_is (added_byte a r) area_size (set l count_at (get_or l count_at 0 + 1)) 0 (length-set l count_at _ ∙ w.long ∙ long) (λ p h. place p h))

-- ---- a row added to an encoded table
module _ (t : Table) (r : Row) where
  one_more : length (with_row t r).rows ≡ length t.rows + 1
  unfolding with_row
  one_more = length-append t.rows (r ∷ [])

  row_before : (i : ℕ) → i < length t.rows → row_at (with_row t r) i ≡ row_at t i
  unfolding with_row
  row_before i h = get_or-append t.rows (r ∷ []) no_row i h

  row_last : row_at (with_row t r) (length t.rows) ≡ r
  unfolding with_row
  row_last = get_or_at t.rows r [] no_row (length t.rows) refl

  other_rows : (q : ℕ) → (q / row_size ≡ length t.rows → ⊥) → rows_byte (with_row t r) q ≡ rows_byte t q
  unfolding rows_byte
  other_rows q ne =
      ⊎_elim
      (λ (l : q / row_size < length t.rows).
      rw (lt-ltb (q / row_size) (length (with_row t r).rows) (omega (arith, one_more)), lt-ltb (q / row_size) (length t.rows) l, row_before (q / row_size) l))
      (λ (g : length t.rows ≤ q / row_size).
      rw (le-ltb (q / row_size) (length (with_row t r).rows) (omega (arith, one_more)), le-ltb (q / row_size) (length t.rows) g))
      (lt_or_ge (q / row_size) (length t.rows))

  new_row : (q : ℕ) → q / row_size ≡ length t.rows → rows_byte (with_row t r) q ≡ row_byte r (q % row_size)
  unfolding rows_byte
  new_row q e = rw (e, lt-ltb (length t.rows) (length (with_row t r).rows) (omega (arith, one_more)), row_last)

  head_same : (p : ℕ) → p < count_at → area_byte (with_row t r) p ≡ area_byte t p
  unfolding area_byte with_row
  head_same p h = rw (lt-ltb p count_at h)

  count_byte : (u : Table) → area_byte u count_at ≡ length u.rows
  unfolding area_byte
  count_byte u = refl

  module _ (s : Shaped t) (room : length t.rows < row_limit) where
    abbrev c : ℕ
    c = get_or (encode t) count_at 0

    in_front : (p : ℕ) → p < count_at → added_byte (encode t) r p ≡ area_byte (with_row t r) p
    unfolding added_byte
    in_front p h =
        rw (lt-leb (row_place c 0) p (omega arith), ne_eqb p count_at (λ e. omega arith))
        (encode_at t p (omega arith) ∙ sym (head_same p h))

    at_count : added_byte (encode t) r count_at ≡ area_byte (with_row t r) count_at
    unfolding added_byte
    at_count =
        rw (lt-leb (row_place c 0) count_at (omega arith))
        (omega (arith, count_of t s, one_more, count_byte (with_row t r)))

    in_rows : (p : ℕ) → rows_at ≤ p → p < area_size → added_byte (encode t) r p ≡ area_byte (with_row t r) p
    unfolding added_byte
    in_rows p h g =
        let e = count_of t s in
        let f = rows_place (with_row t r) p h in
        ⊎_elim
        (λ (below : p < row_place c 0).
        rw (lt-leb (row_place c 0) p below, ne_eqb p count_at (λ q. omega arith))
        (encode_at t p g ∙ rows_place t p h ∙ sym (f ∙ other_rows (p - rows_at) (λ q. omega arith))))
        (λ (from : row_place c 0 ≤ p). ⊎_elim
        (λ (inside : p < row_place c 0 + row_size).
        let m : (p - rows_at) % row_size ≡ p - row_place c 0 = omega arith in
        rw (le-leb (row_place c 0) p from, lt-ltb p (row_place c 0 + row_size) inside)
        (sym (f ∙ new_row (p - rows_at) (omega arith) ∙ ap (row_byte r) m)))
        (λ (past : row_place c 0 + row_size ≤ p).
        rw (le-leb (row_place c 0) p from, le-ltb p (row_place c 0 + row_size) past, ne_eqb p count_at (λ q. omega arith))
        (encode_at t p g ∙ rows_place t p h ∙ sym (f ∙ other_rows (p - rows_at) (λ q. omega arith))))
        (lt_or_ge p (row_place c 0 + row_size)))
        (lt_or_ge p (row_place c 0))

    byte_added : (p : ℕ) → p < area_size → added_byte (encode t) r p ≡ area_byte (with_row t r) p
    byte_added p g =
        ⊎_elim
        (λ (l : p < rows_at). ⊎_elim
        (λ (h : p < count_at). in_front p h)
        (λ (h : count_at ≤ p). let e : p ≡ count_at = omega arith in rw e at_count)
        (lt_or_ge p count_at))
        (λ (h : rows_at ≤ p). in_rows p h g)
        (lt_or_ge p rows_at)

    room_is : has_room (encode t) ≡ true
    unfolding has_room
    room_is =
        and (eq-eqb _ _ (encode_length t))
        (and (le-leb (get_or (encode t) inputs_at 0) input_limit (omega (arith, inputs_of t s, s.bounded.inputs)))
        (lt-ltb (get_or (encode t) count_at 0) row_limit (omega (arith, count_of t s))))

    pub row_written_lem : row_written (encode t) r ≡ encode (with_row t r)
    unfolding row_written encode
    row_written_lem =
        rw room_is
        (listed_is (added_byte (encode t) r) area_size (encode (with_row t r)) 0 (encode_length (with_row t r))
        (λ p g. byte_added p g ∙ sym (encode_at (with_row t r) p g)))
