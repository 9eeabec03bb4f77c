-- The column-wise test finds exactly the rows that contradict each other. Assumes nothing.
use Prim.Native.Nat.{ℕ, ◌<◌, ◌≤◌}
use mathlib.Core.Path.{◌≡◌, refl, sym, ap, ◌∙◌}
use mathlib.Core.Bool.{Bool, true, false, not, cond}
use mathlib.Core.Logic.{⊎_elim}
use native.Mathlib.Omega.{arith}
use lib.Dec.{eqb}
use lib.ListN.{get_or}
use borrow.Author.Tests.{eqb-true, eqb-false, ne_eqb, not-true}
use Rattle.base.proofs.Bools.{both, and, lt_or_ge}
use Rattle.base.proofs.Search.{every_at, every_of, first_holds, first_same}
use Rattle.base.proofs.Listed.{chosen}
use Rattle.value.specs.declared.Ternary.{Ternary}
use Rattle.value.specs.declared.Ternary.TheVariants.{V0}
use Rattle.symbol.specs.declared.Symbol.{Symbol}
use Rattle.symbol.specs.declared.Symbol.TheVariants.{Held}
use Rattle.symbol.specs.declared.Output.{Output}
use Rattle.symbol.specs.Match.{match_level, match_held, match_change, match_field, is_edge, meet}
use Rattle.stored.specs.Stored.{output_byte, output_of}
use Rattle.stored.proofs.Stores.{output_of_byte}
use Rattle.symbol.proofs.Meet.{level_is_held, change_is_edge, meet_level, meet_change, level_met, change_met}
use Rattle.table.specs.Table.{Row, symbol_at}
use Rattle.table.specs.Match.{field_of, columns_match, row_matches, edge_at}
use Rattle.formed.specs.Valid.{Contradict}
use Rattle.formed.specs.Tests.{same_output, levels_meet, columns_meet, contradict}

pub same_output_lem : (o u : Output) → output_byte o ≡ output_byte u → o ≡ u
same_output_lem o u e = sym (output_of_byte o) ∙ ap output_of e ∙ output_of_byte u

-- ---- values that match both rows show that each column meets
field_meets : (s u : Symbol) (b : Bool) (z y : Ternary) → cond b (match_change s z y) (match_held s y) ≡ true → cond b (match_change u z y) (match_held u y) ≡ true → meet s u ≡ true
field_meets s u true z y p q = meet_change s u z y p q
field_meets s u false z y p q = meet_level s u y p q

pub contradict_of : (n : ℕ) (r q : Row) → Contradict n r q → contradict n r q ≡ true
unfolding contradict same_output columns_meet levels_meet row_matches columns_match match_field field_of match_held
contradict_of n r q c =
    let j = edge_at n r in
    let v = c.values in
    let p = both (columns_match n r v j c.from) (match_level r.state c.old) c.left in
    let s = both (columns_match n q v j c.from) (match_level q.state c.old) c.right in
    and (ap not (ne_eqb _ _ (λ e. c.differ (same_output_lem r.output q.output e))))
    (and
    (meet_level (Held r.state) (Held q.state) c.old p.1 s.1)
    (every_of (λ (k : ℕ). meet (symbol_at r k) (symbol_at q k)) n
    (λ k h. field_meets (symbol_at r k) (symbol_at q k) (eqb k j) c.from (get_or v k V0)
    (every_at (λ (m : ℕ). match_field (field_of (symbol_at r m) v j c.from m)) n k p.0 h)
    (every_at (λ (m : ℕ). match_field (field_of (symbol_at q m) v j c.from m)) n k s.0 h))))

-- ---- columns and states that meet give values that match both rows
kind_step : (s u : Symbol) (b : Bool) → is_edge s ≡ b → meet s u ≡ true → is_edge s ≡ is_edge u
kind_step s u true e m = let w = change_met s u m e in e ∙ sym (change_is_edge u w.0 w.1 w.3)
kind_step s u false e m = let w = level_met s u m e in e ∙ sym (level_is_held u w.0 w.2)

module _ (n : ℕ) (r q : Row) (meets : (k : ℕ) → k < n → meet (symbol_at r k) (symbol_at q k) ≡ true)
    (one : (k : ℕ) → k < n → (k ≡ edge_at n r → ⊥) → is_edge (symbol_at r k) ≡ false) where
  same_place : edge_at n r ≡ edge_at n q
  unfolding edge_at
  same_place = first_same _ _ n (λ k h. kind_step (symbol_at r k) (symbol_at q k) (is_edge (symbol_at r k)) refl (meets k h))

  abbrev Fits : Ternary → ℕ → Ternary → Type 0
  Fits z k y =
      (cond (eqb k (edge_at n r)) (match_change (symbol_at r k) z y) (match_held (symbol_at r k) y) ≡ true)
      × (cond (eqb k (edge_at n r)) (match_change (symbol_at q k) z y) (match_held (symbol_at q k) y) ≡ true)

  -- a change in the edge's column, where there is one
  abbrev Turns : Ternary → Ternary → Type 0
  Turns z x =
      (edge_at n r < n → (match_change (symbol_at r (edge_at n r)) z x ≡ true) × (match_change (symbol_at q (edge_at n r)) z x ≡ true))

  turns : (z : Ternary) × (x : Ternary) × Turns z x
  unfolding edge_at
  turns =
      ⊎_elim
      (λ (l : edge_at n r < n). let w = change_met _ _ (meets (edge_at n r) l) (first_holds (λ (k : ℕ). is_edge (symbol_at r k)) n l) in (w.0, w.1, λ g. (w.2, w.3)))
      (λ (g : n ≤ edge_at n r). (V0, V0, λ l. absurd (omega arith)))
      (lt_or_ge (edge_at n r) n)

  fits_by : (z x : Ternary) → Turns z x → (k : ℕ) → k < n → (b : Bool) → eqb k (edge_at n r) ≡ b → (y : Ternary) × Fits z k y
  fits_by z x t k h true e =
      let i : k ≡ edge_at n r = eqb-true _ _ e in
      let w = t (omega arith) in
      (x, (rw (e, i) w.0, rw (e, i) w.1))
  fits_by z x t k h false e =
      let w = level_met (symbol_at r k) (symbol_at q k) (meets k h) (one k h (eqb-false _ _ e)) in
      (w.0, (rw e w.1, rw e w.2))

  contradiction : levels_meet r.state q.state ≡ true → (r.output ≡ q.output → ⊥) → Contradict n r q
  unfolding levels_meet row_matches columns_match match_field field_of match_held is_edge
  contradiction states differ =
      let t = turns in
      let w = chosen (Fits t.0) V0 n (λ k h. fits_by t.0 t.1 t.2 k h (eqb k (edge_at n r)) refl) in
      let o = level_met (Held r.state) (Held q.state) states refl in
      record {
        place = same_place;
        values = w.0;
        long = w.1;
        from = t.0;
        old = o.0;
        left = and (every_of (λ (k : ℕ). match_field (field_of (symbol_at r k) w.0 (edge_at n r) t.0 k)) n (λ k h. (w.2 k h).0)) o.1;
        right = and (every_of (λ (k : ℕ). match_field (field_of (symbol_at q k) w.0 (edge_at n r) t.0 k)) n (λ k h. (w.2 k h).1)) o.2;
        differ = differ;
      }

-- the test is exact for a row that has at most one edge
pub contradict_is : (n : ℕ) (r q : Row) → ((k : ℕ) → k < n → (k ≡ edge_at n r → ⊥) → is_edge (symbol_at r k) ≡ false)
    → contradict n r q ≡ true → Contradict n r q
unfolding contradict columns_meet same_output
contradict_is n r q one e =
    let p = both (not (same_output r.output q.output)) _ e in
    let s = both (levels_meet r.state q.state) (columns_meet n r q) p.1 in
    contradiction n r q (λ k h. every_at (λ (m : ℕ). meet (symbol_at r m) (symbol_at q m)) n k s.1 h) one s.0
    (λ o. eqb-false (output_byte r.output) (output_byte q.output) (not-true _ p.0) (ap output_byte o))
