-- What the sets of a row tell of its columns, and the rows that have been read. Assumes nothing.
use Prim.Native.Nat.{ℕ, ◌+◌, ◌%◌, ◌<◌, ◌≤◌}
use mathlib.Core.Path.{◌≡◌, refl, sym, ap, ◌∙◌}
use mathlib.Core.Bool.{Bool, true, false, not, not-not, ◌&&◌, ◌||◌}
use mathlib.Core.List.{List, []}
use mathlib.Core.Logic.{⊎_elim}
use native.Mathlib.Nat.{eq-or-lt_of_le}
use native.Mathlib.Omega.{arith}
use lib.Bits.{bit_and}
use lib.Dec.{eqb}
use lib.ListN.{length, get_or, set, take, length-set}
use lib.Seq.{get_or-set_same, get_or-set_other}
use denote.Enum.Bare.{sameb, same_true, same_false}
use borrow.Author.Rules.{rules}
use borrow.Author.Tests.{eqb-true, eq-eqb, ne_eqb, lt-ltb, le-ltb}
use Rattle.std.specs.Prelude.{Option, Some}
use Rattle.std.specs.Option.{is_some, is_none, option_eq}
use Rattle.std.proofs.lemmas.List.{get_or-take, take-set, length-take-le}
use Rattle.base.specs.Limits.{input_limit}
use Rattle.base.specs.Search.{every, first, found}
use Rattle.base.proofs.Bools.{lt_or_ge}
use Rattle.base.proofs.Search.{every_same, first_below, first_none}
use Rattle.table.specs.Match.{edge_at}
use Rattle.symbol.specs.declared.Symbol.{Symbol}
use Rattle.symbol.specs.contracts.Output.{the_type}
use Rattle.symbol.specs.declared.Output.{Output}
use Rattle.symbol.specs.declared.Level.{Level}
use Rattle.symbol.specs.declared.Level.TheVariants.{Any}
use Rattle.symbol.specs.declared.Symbol.TheVariants.{Held}
use Rattle.stored.specs.Stored.{level_byte, output_byte}
use Rattle.symbol.specs.Match.{is_edge, meet}
use Rattle.symbol.specs.Masks.{offers}
use Rattle.symbol.proofs.Offers.{meet_offers, possible_offers, edge_offers}
use Rattle.offers.proofs.Offers.{any_offers}
use Rattle.table.specs.Table.{Row, Table, any_symbol, row_at, symbol_at}
use Rattle.table.specs.Area.{decode}
use Rattle.table.proofs.Encoding.{decode_no_symbol, decode_no_column}
use Rattle.canonical.proofs.Parts.{every_rest}
use Rattle.formed.specs.Tests.{same_output, levels_meet, columns_meet, contradict, column_valid}
use Rattle.formed.proofs.Contradiction.{same_output_lem}
use Rattle.formed.specs.declared.Cells.{Cells}
use Rattle.formed.specs.Cells.{CellsOf, CellsOfRows}

pub set_edge : (s : Symbol) (x : ℕ) → x ≡ offers s → eqb (x % 8) 0 ≡ is_edge s
set_edge s x p = rw p (sym (edge_offers s))

pub set_valid : (s : Symbol) (x : ℕ) (here : Bool) → x ≡ offers s → (not (eqb x 0) && (not (eqb (x % 8) 0) || here)) ≡ column_valid s here
unfolding column_valid
set_valid s x here p = rw (p, possible_offers s, edge_offers s)

-- two sets that share an offer are those of symbols that meet
pub sets_meet : (s u : Symbol) (x y : ℕ) → x ≡ offers s → y ≡ offers u → meet s u ≡ not (eqb (bit_and x y) 0)
sets_meet s u x y p q = rw (p, q) (meet_offers s u)

pub states_by : (l m : Level) (x y : ℕ) → x ≡ offers (Held l) → y ≡ offers (Held m) →
    levels_meet l m ≡ not (eqb (bit_and x y) 0)
unfolding levels_meet
states_by l m x y p q = sets_meet (Held l) (Held m) x y p q

-- past the last row and the last column each symbol is ?
no_symbol : (a : List ℕ) (i k : ℕ) → (decode a).inputs ≤ k → symbol_at (row_at (decode a) i) k ≡ any_symbol
no_symbol a i k h =
    ⊎_elim
    (λ (l : i < length (decode a).rows). decode_no_column a i k l h)
    (λ (g : length (decode a).rows ≤ i). decode_no_symbol a i k g)
    (lt_or_ge i (length (decode a).rows))

pub past_offers : (a : List ℕ) (i k : ℕ) → (decode a).inputs ≤ k → 7 ≡ offers (symbol_at (row_at (decode a) i) k)
unfolding level_byte
past_offers a i k h = rw (no_symbol a i k h) (sym (eqb-true (offers any_symbol) 7 (sym (any_offers Any))))

-- the comparison of two outputs is that of their bytes
same_bytes : (o u : Output) (b : Bool) → sameb the_type o u ≡ b → same_output o u ≡ b
unfolding same_output
same_bytes o u true e = eq-eqb _ _ (ap output_byte (same_true the_type (search rules) o u e))
same_bytes o u false e = ne_eqb _ _ (λ w. same_false the_type o u e (same_output_lem o u w))

pub outputs_by : (v w o u : Output) → o ≡ v → u ≡ w → (b : Bool) → b ≡ not (sameb the_type o u) →
    same_output v w ≡ not b
outputs_by v w o u p q b e = rw (← p, ← q, e) (same_bytes o u _ refl ∙ sym (not-not _))

-- rows contradict each other where their outputs differ, and their states and columns meet
module _ (n : ℕ) (r q : Row) where
  pub same_outputs : same_output r.output q.output ≡ true → contradict n r q ≡ false
  unfolding contradict
  same_outputs e = rw e

  pub other_outputs : same_output r.output q.output ≡ false →
      contradict n r q ≡ (levels_meet r.state q.state && columns_meet n r q)
  unfolding contradict
  other_outputs e = rw e

-- past the inputs both columns count as ?, which meets itself
pub columns_by : (t : Table) (i j : ℕ) (x y : Cells) → t.inputs ≤ input_limit → CellsOf t i x → CellsOf t j y →
    every input_limit (λ k. not (eqb (bit_and (get_or x.columns k 0) (get_or y.columns k 0)) 0))
    ≡ columns_meet t.inputs (row_at t i) (row_at t j)
unfolding columns_meet
columns_by t i j x y few p q =
    sym (every_rest _ t.inputs input_limit few (λ k g h. rw (p.past k g h, q.past k g h)))
    ∙ every_same _ _ t.inputs (λ k h. let l : k < input_limit = omega arith in rw (sets_meet _ _ _ _ (p.columns k l) (q.columns k l)))

-- the rows that have been read
pub rows_none : (t : Table) → CellsOfRows t []
rows_none t = record { row = λ i c h. absurd (omega arith) }

pub rows_more : (t : Table) (m : ℕ) (s : List Cells) (l : Cells) → m < length s → CellsOf t m l → CellsOfRows t (take m s) →
    CellsOfRows t (take (m + 1) (set s m l))
rows_more t m s l h e w = record { row = go }
  where
    go : (i : ℕ) (c : Cells) → i < length (take (m + 1) (set s m l)) → CellsOf t i (get_or (take (m + 1) (set s m l)) i c)
    go i c b =
        let g : i < m + 1 = omega (arith, length-take-le (m + 1) (set s m l) (omega (arith, length-set s m l))) in
        rw (get_or-take (m + 1) (set s m l) i c g)
        (⊎_elim
        (λ (q : i ≡ m). rw (q, get_or-set_same s m l c h) e)
        (λ (k : i < m). rw (get_or-set_other s m i l c (λ q. omega arith), ← get_or-take m s i c k)
        (w.row i c (omega (arith, length-take-le m s (omega arith)))))
        (eq-or-lt_of_le {n = i} {m = m} (omega arith)))

-- the row that was read last, and those before it
module _ (t : Table) (m : ℕ) (s : List Cells) (l : Cells) (h : m < length s) (e : CellsOf t m l) where
  pub count_before : length (take m (set s m l)) ≡ m
  count_before = length-take-le m (set s m l) (omega (arith, length-set s m l))

  pub rows_before : CellsOfRows t (take m s) → CellsOfRows t (take m (set s m l))
  rows_before w = rw (take-set s m l) w

  pub row_last : (d : Cells) → CellsOf t m (get_or (set s m l) m d)
  row_last d = rw (get_or-set_same s m l d h) e

pub none_of : (o : Option ℕ) (b : Bool) → is_some o ≡ not b → b ≡ is_none o
none_of o true e = rw e
none_of o false e = rw e

-- no column has an edge where the first that has one is past the last
none_below : (f : ℕ → Bool) (n : ℕ) → is_none (found n f) ≡ eqb (first n f) n
none_below f n =
    ⊎_elim
    (λ (l : first n f < n). rw (lt-ltb (first n f) n l, ne_eqb (first n f) n (λ e. omega arith)))
    (λ (g : n ≤ first n f).
    let e : first n f ≡ n = first_none f n (λ k l. first_below f n k (omega arith)) in
    rw (le-ltb (first n f) n g, eq-eqb (first n f) n e))
    (lt_or_ge (first n f) n)

pub no_edge : (n : ℕ) (r : Row) → is_none (found n (λ k. is_edge (symbol_at r k))) ≡ eqb (edge_at n r) n
unfolding edge_at
no_edge n r = none_below (λ k. is_edge (symbol_at r k)) n

-- a column is the first with an edge
same_below : (f : ℕ → Bool) (n k : ℕ) → k < n → option_eq eqb (Some k) (found n f) ≡ eqb k (first n f)
same_below f n k h =
    ⊎_elim
    (λ (l : first n f < n). rw (lt-ltb (first n f) n l))
    (λ (g : n ≤ first n f). rw (le-ltb (first n f) n g, ne_eqb k (first n f) (λ e. omega arith)))
    (lt_or_ge (first n f) n)

pub same_edge : (n : ℕ) (r : Row) (k : ℕ) → k < n → option_eq eqb (Some k) (found n (λ k. is_edge (symbol_at r k))) ≡ eqb k (edge_at n r)
unfolding edge_at
same_edge n r k h = same_below (λ k. is_edge (symbol_at r k)) n k h
