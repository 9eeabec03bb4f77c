-- In a valid table it does not matter which of several matching rows answers: any level row that matches gives the answer, and where none
-- does any row that matches with its edge in the considered column. Assumes nothing.
use Prim.Native.Nat.{ℕ, ◌-◌, ◌≤◌, ◌<◌}
use mathlib.Core.Path.{◌≡◌, refl, sym, ap, ◌∙◌}
use mathlib.Core.Logic.{◌≢◌, ⊎_elim}
use mathlib.Core.Bool.{Bool, true, false}
use mathlib.Core.List.{List}
use native.Mathlib.Decide.{ℕ_discrete}
use native.Mathlib.Nat.{eq-or-lt_of_le}
use native.Mathlib.Omega.{arith}
use lib.ListN.{length, get_or}
use borrow.Author.Tests.{eq-eqb, ne_eqb, lt-ltb, le-ltb}
use Rattle.base.specs.Search.{every, first}
use Rattle.base.proofs.Bools.{both}
use Rattle.base.proofs.Search.{every_at, first_found, first_none, first_le, first_holds}
use Rattle.value.specs.declared.Ternary.{Ternary}
use Rattle.value.specs.declared.Ternary.TheVariants.{V0, Vx}
use Rattle.symbol.specs.declared.Output.{Output}
use Rattle.symbol.specs.Match.{match_field, is_edge, result_of}
use Rattle.stored.specs.Stored.{output_byte}
use Rattle.symbol.proofs.Meet.{level_is_held, change_is_edge}
use Rattle.table.specs.Table.{Row, Table, row_at, symbol_at}
use Rattle.table.specs.Match.{field_of, columns_match, row_matches, edge_at}
use Rattle.formed.specs.Valid.{Valid}
use Rattle.formed.proofs.Contradiction.{same_output_lem}
use Rattle.step.specs.Step.{row_for, answer_or, answer_of}

module _ (n : ℕ) (r : Row) (v : List Ternary) (k : ℕ) (from old : Ternary) (m : row_matches n r v k from old ≡ true) where
  column : (q : ℕ) → q < n → match_field (field_of (symbol_at r q) v k from q) ≡ true
  unfolding row_matches columns_match
  column q h = every_at (λ (q : ℕ). match_field (field_of (symbol_at r q) v k from q)) n q (both (every n (λ (q : ℕ). match_field (field_of (symbol_at r q) v k from q))) _ m).0 h

  level : (q : ℕ) → q < n → q ≢ k → is_edge (symbol_at r q) ≡ false
  unfolding match_field field_of
  level q h ne = level_is_held (symbol_at r q) (get_or v q V0) (rw (ne_eqb q k ne) at (column q h))

  edge : k < n → is_edge (symbol_at r k) ≡ true
  unfolding match_field field_of
  edge h = change_is_edge (symbol_at r k) from (get_or v k V0) (rw (eq-eqb k k refl) at (column k h))

  -- a row that matches with column k offered as a change has its edge there, and none where no column is offered
  edge_place : k ≤ n → edge_at n r ≡ k
  unfolding edge_at
  edge_place h =
      ⊎_elim
      (λ (e : k ≡ n). rw e (first_none _ n (λ q l. level q l (λ z. omega arith))))
      (λ (l : k < n). first_found _ n k l (λ q b. level q (omega arith) (λ z. omega arith)) (edge l))
      (eq-or-lt_of_le h)

module _ (t : Table) (valid : Valid t) (v : List Ternary) (long : length v ≡ t.inputs) (k : ℕ) (most : k ≤ t.inputs) (from old : Ternary) where
  -- two rows that match have the same output
  same_outputs : (i j : ℕ) → i < j → j < length t.rows → row_matches t.inputs (row_at t i) v k from old ≡ true → row_matches t.inputs (row_at t j) v k from old ≡ true →
      (row_at t i).output ≡ (row_at t j).output
  same_outputs i j h l a b = go (ℕ_discrete (output_byte (row_at t i).output) (output_byte (row_at t j).output))
    where
      p : edge_at t.inputs (row_at t i) ≡ k
      p = edge_place t.inputs (row_at t i) v k from old a most

      q : edge_at t.inputs (row_at t j) ≡ k
      q = edge_place t.inputs (row_at t j) v k from old b most

      go : Dec (output_byte (row_at t i).output ≡ output_byte (row_at t j).output) → (row_at t i).output ≡ (row_at t j).output
      go (yes e) = same_output_lem (row_at t i).output (row_at t j).output e
      go (no ne) = absurd (valid.agree i j h l (record {
        place = p ∙ sym q;
        values = v;
        long = long;
        from = from;
        old = old;
        left = rw p a;
        right = rw p b;
        differ = λ e. ne (ap output_byte e);
      }))

  pub any_row : (i : ℕ) → i < length t.rows → row_matches t.inputs (row_at t i) v k from old ≡ true → (other : Ternary) →
      answer_or t old (row_for t v k from old) other ≡ result_of (row_at t i).output old
  unfolding answer_or row_for
  any_row i h m other =
      let f : ℕ → Bool = λ (j : ℕ). row_matches t.inputs (row_at t j) v k from old in
      let least : first (length t.rows) f ≤ i = first_le f (length t.rows) i m in
      let inside : first (length t.rows) f < length t.rows = omega arith in
      rw (lt-ltb (first (length t.rows) f) (length t.rows) inside)
      (ap (λ (o : Output). result_of o old)
      (⊎_elim
      (λ (e : first (length t.rows) f ≡ i). ap (λ (j : ℕ). (row_at t j).output) e)
      (λ (l : first (length t.rows) f < i). same_outputs (first (length t.rows) f) i l h (first_holds f (length t.rows) inside) m)
      (eq-or-lt_of_le least)))

-- document 01's sentences, for a valid table
module _ (t : Table) (valid : Valid t) (v : List Ternary) (long : length v ≡ t.inputs) (j : ℕ) (from old : Ternary) where
  pub level_answers : (i : ℕ) → i < length t.rows → row_matches t.inputs (row_at t i) v t.inputs from old ≡ true →
      answer_of t v j from old ≡ result_of (row_at t i).output old
  unfolding answer_of
  level_answers i h m = any_row t valid v long t.inputs (omega arith) from old i h m _

  module _ (none : (i : ℕ) → i < length t.rows → row_matches t.inputs (row_at t i) v t.inputs from old ≡ false) where
    no_level : (other : Ternary) → answer_or t old (row_for t v t.inputs from old) other ≡ other
    unfolding answer_or row_for
    no_level other =
        let f : ℕ → Bool = λ (i : ℕ). row_matches t.inputs (row_at t i) v t.inputs from old in
        rw (first_none f (length t.rows) none, le-ltb (length t.rows) (length t.rows) (omega arith))

    pub edge_answers : 1 ≤ j → j ≤ t.inputs → (i : ℕ) → i < length t.rows → row_matches t.inputs (row_at t i) v (j - 1) from old ≡ true →
        answer_of t v j from old ≡ result_of (row_at t i).output old
    unfolding answer_of
    edge_answers a b i h m = no_level _ ∙ any_row t valid v long (j - 1) (omega arith) from old i h m Vx

    pub x_answers : ((i : ℕ) → i < length t.rows → row_matches t.inputs (row_at t i) v (j - 1) from old ≡ false) → answer_of t v j from old ≡ Vx
    unfolding answer_of answer_or row_for
    x_answers no_edge =
        let f : ℕ → Bool = λ (i : ℕ). row_matches t.inputs (row_at t i) v t.inputs from old in
        let g : ℕ → Bool = λ (i : ℕ). row_matches t.inputs (row_at t i) v (j - 1) from old in
        rw (first_none f (length t.rows) none, first_none g (length t.rows) no_edge, le-ltb (length t.rows) (length t.rows) (omega arith))
