-- The test of a row decides what a valid row is. Assumes nothing.
use Prim.Native.Nat.{ℕ, ◌<◌, ◌≤◌}
use mathlib.Core.Path.{◌≡◌, refl, sym, ap, ◌∙◌}
use mathlib.Core.Bool.{Bool, true, false, not, ◌||◌}
use native.Mathlib.Omega.{arith}
use lib.Dec.{eqb}
use lib.ListN.{length}
use borrow.Author.Tests.{eqb-true, eqb-false, eq-eqb, ne_eqb, not-true}
use Rattle.base.proofs.Bools.{both, and, clash}
use Rattle.base.proofs.Search.{every_at, every_of, first_below, first_holds, first_le, first_none}
use Rattle.symbol.specs.declared.Symbol.{Symbol}
use Rattle.symbol.specs.declared.Output.TheVariants.{Old}
use Rattle.symbol.specs.Match.{is_edge, possible}
use Rattle.stored.specs.Stored.{level_byte, level_of, output_byte}
use Rattle.stored.proofs.Stores.{level_of_byte}
use Rattle.table.specs.Table.{Row, symbol_at}
use Rattle.table.specs.Match.{edge_at}
use Rattle.formed.specs.Valid.{Combinational, ValidRow}
use Rattle.formed.specs.Tests.{column_valid, columns_valid, combinational, row_valid}
use Rattle.formed.proofs.Contradiction.{same_output_lem}

edge_here : (s : Symbol) (b h : Bool) → is_edge s ≡ b → column_valid s h ≡ true → h ≡ false → is_edge s ≡ false
unfolding column_valid
edge_here s false h e c o = e
edge_here s true h e c o = clash (sym (rw (e, o) at (both (possible s) (not (is_edge s) || h) c).1))

module _ (n : ℕ) (r : Row) (e : columns_valid n r ≡ true) where
  column : (k : ℕ) → k < n → column_valid (symbol_at r k) (eqb k (edge_at n r)) ≡ true
  unfolding columns_valid
  column k h = every_at (λ (m : ℕ). column_valid (symbol_at r m) (eqb m (edge_at n r))) n k e h

  pub one_edge : (k : ℕ) → k < n → (k ≡ edge_at n r → ⊥) → is_edge (symbol_at r k) ≡ false
  one_edge k h ne = edge_here (symbol_at r k) (is_edge (symbol_at r k)) (eqb k (edge_at n r)) refl (column k h) (ne_eqb _ _ ne)

  edge_is : (k : ℕ) → k < n → is_edge (symbol_at r k) ≡ true → (b : Bool) → eqb k (edge_at n r) ≡ b → k ≡ edge_at n r
  edge_is k h i true e = eqb-true _ _ e
  edge_is k h i false e = clash (sym i ∙ one_edge k h (eqb-false _ _ e))

  matches_some : (k : ℕ) → k < n → possible (symbol_at r k) ≡ true
  unfolding column_valid
  matches_some k h = (both (possible (symbol_at r k)) _ (column k h)).0

combinational_is : (n : ℕ) (r : Row) → combinational n r ≡ true → Combinational n r
unfolding combinational edge_at level_of output_byte
combinational_is n r e =
    let p = both (eqb (edge_at n r) n) _ e in
    let q = both (eqb (level_byte r.state) 63) _ p.1 in
    let g : edge_at n r ≡ n = eqb-true _ _ p.0 in
    record {
      levels = λ k h. first_below (λ (m : ℕ). is_edge (symbol_at r m)) n k (omega arith);
      state = sym (level_of_byte r.state) ∙ ap level_of (eqb-true (level_byte r.state) 63 q.0);
      output = λ o. eqb-false (output_byte r.output) 45 (not-true _ q.1) (ap output_byte o);
    }

of_combinational : (n : ℕ) (r : Row) → Combinational n r → combinational n r ≡ true
unfolding combinational edge_at level_byte output_byte
of_combinational n r p =
    and (eq-eqb _ _ (first_none (λ (m : ℕ). is_edge (symbol_at r m)) n p.levels))
    (and (eq-eqb (level_byte r.state) 63 (ap level_byte p.state)) (ap not (ne_eqb (output_byte r.output) 45 (λ e. p.output (same_output_lem r.output Old e)))))

plain_is : (s : Bool) (n : ℕ) (r : Row) → (s || combinational n r) ≡ true → s ≡ false → Combinational n r
plain_is true n r e f = clash f
plain_is false n r e f = combinational_is n r e

of_plain : (s : Bool) (n : ℕ) (r : Row) → (s ≡ false → Combinational n r) → (s || combinational n r) ≡ true
of_plain true n r h = refl
of_plain false n r h = of_combinational n r (h refl)

pub row_is : (n : ℕ) (s : Bool) (r : Row) → row_valid n s r ≡ true → ValidRow n s r
unfolding row_valid
row_is n s r e =
    let p = both (eqb (length r.symbols) n) _ e in
    let q = both (columns_valid n r) _ p.1 in
    record {
      columns = eqb-true _ _ p.0;
      matched = matches_some n r q.0;
      one = λ k m h g a b. edge_is n r q.0 k h a (eqb k (edge_at n r)) refl ∙ sym (edge_is n r q.0 m g b (eqb m (edge_at n r)) refl);
      plain = plain_is s n r q.1;
    }

module _ (n : ℕ) (s : Bool) (r : Row) (v : ValidRow n s r) where
  at_edge : (k : ℕ) → k < n → (b : Bool) → is_edge (symbol_at r k) ≡ b → (not b || eqb k (edge_at n r)) ≡ true
  unfolding edge_at
  at_edge k h false e = refl
  at_edge k h true e =
      let l : edge_at n r ≤ k = first_le (λ (m : ℕ). is_edge (symbol_at r m)) n k e in
      let g : edge_at n r < n = omega arith in
      eq-eqb _ _ (v.one k (edge_at n r) h g e (first_holds (λ (m : ℕ). is_edge (symbol_at r m)) n g))

  pub of_columns : columns_valid n r ≡ true
  unfolding columns_valid column_valid
  of_columns = every_of (λ (k : ℕ). column_valid (symbol_at r k) (eqb k (edge_at n r))) n (λ k h. and (v.matched k h) (at_edge k h (is_edge (symbol_at r k)) refl))

  pub of_row : row_valid n s r ≡ true
  unfolding row_valid
  of_row = and (eq-eqb _ _ v.columns) (and of_columns (of_plain s n r v.plain))
