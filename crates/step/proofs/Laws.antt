-- What is known of a table's step: the laws that the theory of orders asks for, and what a step depends on. Assumes nothing.
use Prim.Native.Nat.{ℕ, suc, ◌-◌, ◌≤◌}
use mathlib.Core.Path.{◌≡◌, refl, sym, ap, ◌∙◌}
use mathlib.Core.Bool.{Bool, cond, ◌&&◌}
use mathlib.Core.List.{List, [], ◌∷◌}
use native.Mathlib.Decide.{ℕ_discrete}
use lib.ListN.{length}
use Rattle.base.proofs.Search.{every_same, first_same}
use Rattle.value.specs.declared.Ternary.{Ternary}
use Rattle.value.specs.Value.{same_value}
use Rattle.symbol.specs.Match.{match_field, match_level}
use Rattle.table.specs.Table.{Row, Table, row_at, symbol_at}
use Rattle.table.specs.Match.{field_of, columns_match, row_matches}
use Rattle.orders.specs.Vectors.{at, put}
use Rattle.orders.specs.Order.{Laws, eval_order}
use Rattle.orders.proofs.Places.{at_other, at_same, at_step, put_back, length_put}
use Rattle.orders.proofs.Candidates.{same_of}
use Rattle.step.specs.Step.{row_for, answer_of, step_of}

-- an unchanged input leaves the output, and only the considered input's current value counts
pub laws : (t : Table) (n : ℕ) → Laws n (step_of t)
unfolding step_of
laws t n = record {
  still = λ {prev} {cur} j {old} g h e. rw (same_of (at prev j) (at cur j) e);
  own = λ {prev} {cur} {d} j g h k e. rw e;
}

-- input j arrives from x at its value in v, where the others stand too
pub step_arrives : (t : Table) (v : List Ternary) (j : ℕ) (x old : Ternary) → 1 ≤ j → j ≤ length v →
    step_of t (put v j x) v j old ≡ cond (same_value x (at v j)) old (answer_of t v j x old)
unfolding step_of
step_arrives t v j x old a b = rw (at_same v j x a b, put_back v j x)

-- ---- a step depends on the values of the inputs alone, not on how long the vectors are

pub record Alike (v w : List Ternary) : Type 0 where
  pub same : (k : ℕ) → at v k ≡ at w k

column_alike : (r : Row) {v w : List Ternary} → Alike v w → (j : ℕ) (from : Ternary) (k : ℕ) →
    match_field (field_of (symbol_at r k) v j from k) ≡ match_field (field_of (symbol_at r k) w j from k)
unfolding field_of
column_alike r e j from k = rw (e.same (suc k))

row_alike : (n : ℕ) (r : Row) {v w : List Ternary} → Alike v w → (j : ℕ) (from old : Ternary) → row_matches n r v j from old ≡ row_matches n r w j from old
unfolding row_matches columns_match
row_alike n r e j from old = ap (λ (b : Bool). b && match_level r.state old) (every_same _ _ n (λ k h. column_alike r e j from k))

for_alike : (t : Table) {v w : List Ternary} → Alike v w → (k : ℕ) (from old : Ternary) → row_for t v k from old ≡ row_for t w k from old
unfolding row_for
for_alike t e k from old = first_same _ _ (length t.rows) (λ i h. row_alike t.inputs (row_at t i) e k from old)

answer_alike : (t : Table) {v w : List Ternary} → Alike v w → (j : ℕ) (from old : Ternary) → answer_of t v j from old ≡ answer_of t w j from old
unfolding answer_of
answer_alike t e j from old = rw (for_alike t e t.inputs from old, for_alike t e (j - 1) from old)

moved_alike : {v w c d : List Ternary} → length v ≡ length c → length w ≡ length d → Alike v w → Alike c d → (j : ℕ) → Alike (put v j (at c j)) (put w j (at d j))
moved_alike {v} {w} {c} {d} lc ld e f j = record { same = λ k. go k (ℕ_discrete k j) }
  where
    go : (k : ℕ) → Dec (k ≡ j) → at (put v j (at c j)) k ≡ at (put w j (at d j)) k
    go k (yes q) = rw q (at_step v c j lc ∙ f.same j ∙ sym (at_step w d j ld))
    go k (no ne) = at_other v j k (at c j) ne ∙ e.same k ∙ sym (at_other w j k (at d j) ne)

step_alike : (t : Table) {v w c d : List Ternary} → length v ≡ length c → length w ≡ length d → Alike v w → Alike c d → (j : ℕ) (old : Ternary) →
    step_of t v c j old ≡ step_of t w d j old
unfolding step_of
step_alike t {v} {w} {c} {d} lc ld e f j old =
    let q : answer_of t (put v j (at c j)) j (at v j) old ≡ answer_of t (put w j (at d j)) j (at v j) old = answer_alike t (moved_alike lc ld e f j) j (at v j) old in
    rw (q, e.same j, f.same j)

pub eval_alike : (t : Table) (l : List ℕ) {v w c d : List Ternary} (old : Ternary) → length v ≡ length c → length w ≡ length d → Alike v w → Alike c d →
    eval_order (step_of t) v c old l ≡ eval_order (step_of t) w d old l
eval_alike t [] old lc ld e f = refl
eval_alike t (j ∷ l) {v} {w} {c} {d} old lc ld e f =
    ap (λ (o : Ternary). eval_order (step_of t) (put v j (at c j)) c o l) (step_alike t lc ld e f j old)
    ∙ eval_alike t l (step_of t w d j old) (length_put v j (at c j) ∙ lc) (length_put w j (at d j) ∙ ld) (moved_alike lc ld e f j) f
