-- What the bytes of a call say. Assumes nothing.
use Prim.Native.Nat.{ℕ, zero, suc, ◌≤◌, ◌<◌}
use mathlib.Core.Path.{◌≡◌, refl, sym, ap, ◌∙◌}
use mathlib.Core.Logic.{⊎_elim}
use mathlib.Core.Bool.{Bool, true, false, ◌&&◌, ◌||◌}
use mathlib.Core.List.{List, [], ◌∷◌}
use native.Mathlib.Nat.{pos_of_ne-zero}
use native.Mathlib.Omega.{arith}
use lib.Dec.{eqb, ltb}
use lib.ListN.{length, get_or, length-map, get_or-eq_default}
use borrow.Author.Tests.{eqb-true, eqb-false, eq-eqb, ne_eqb, le-ltb, ltb-false}
use denote.Ref.{Bor}
use Rattle.std.specs.Prelude.{Option, Some, None}
use Rattle.std.specs.List.{HoldsAt}
use Rattle.std.specs.Option.{MatchOption}
use Rattle.base.specs.Search.{every, some}
use Rattle.base.proofs.Search.{some_at, some_none, first_none, first_below}
use Rattle.base.proofs.Bools.{both, clash, lt_or_ge}
use Rattle.base.specs.Limits.{input_limit}
use Rattle.base.proofs.Listed.{listed_length, listed_at, listed_past}
use Rattle.value.specs.declared.Ternary.{Ternary}
use Rattle.value.specs.declared.Ternary.TheVariants.{V0}
use Rattle.orders.specs.Vectors.{at}
use Rattle.orders.specs.Order.{Order, eval_order}
use Rattle.evaluation.specs.Called.{is_value, good_vector, good_values, value_in, vector_in, padded, faulty, first_fault}
use Rattle.table.specs.Area.{decode}
use Rattle.formed.specs.Tests.{well_formed}
use Rattle.formed.proofs.Exact.{formed_valid}
use Rattle.step.specs.Step.{step_of}
use Rattle.step.proofs.Laws.{Alike, eval_alike}

pub vector_length : (s : List ℕ) → length (vector_in s) ≡ length s
unfolding vector_in
vector_length s = length-map s value_in

pub vector_at : (s : List ℕ) (k : ℕ) → k < length s → get_or (vector_in s) k V0 ≡ value_in (get_or s k 0)
unfolding vector_in
vector_at [] k h = absurd (omega arith)
vector_at (b ∷ s) zero h = refl
vector_at (b ∷ s) (suc k) h = vector_at s k (omega arith)

pub vector_past : (s : List ℕ) (k : ℕ) → length s ≤ k → get_or (vector_in s) k V0 ≡ V0
vector_past s k h = get_or-eq_default (vector_in s) V0 {n = k} (omega (arith, vector_length s))

-- what a byte, or none, says of its place
pub place_of : (s : List ℕ) (k : ℕ) (o : Option (Bor ℕ)) (y : Ternary) (Says : Bor ℕ → Type 0)
    → MatchOption o (length s ≤ k) (λ b. (k < length s) × HoldsAt (λ x. b.now ≡ x) s k)
    → MatchOption o (y ≡ V0) Says → ((b : Bor ℕ) → Says b → y ≡ value_in b.now) → y ≡ get_or (vector_in s) k V0
place_of s k None y Says p h f = h ∙ sym (vector_past s k p)
place_of s k (Some b) y Says p h f = f b h ∙ ap value_in (p.1 0) ∙ sym (vector_at s k p.0)

pub padded_length : (v : List Ternary) → length (padded v) ≡ input_limit
unfolding padded
padded_length v = listed_length (λ (k : ℕ). get_or v k V0) input_limit

-- the padded vector has the same values
pub padded_alike : (v : List Ternary) → length v ≤ input_limit → Alike (padded v) v
unfolding padded
padded_alike v h = record { same = go }
  where
    go : (k : ℕ) → at (padded v) k ≡ at v k
    go zero = refl
    go (suc k) = ⊎_elim
        (λ (l : k < input_limit). listed_at (λ (k : ℕ). get_or v k V0) input_limit k V0 l)
        (λ (g : input_limit ≤ k). listed_past (λ (k : ℕ). get_or v k V0) input_limit k V0 g ∙ sym (get_or-eq_default v V0 {n = k} (omega arith)))
        (lt_or_ge k input_limit)

pub neither : (a b : Bool) → (a || b) ≡ false → (a ≡ false) × (b ≡ false)
neither false b e = (refl, e)
neither true b e = clash e

-- a list without a faulty index is an order
pub order_of : (n : ℕ) (l : List ℕ) → length l ≤ first_fault n l → Order n l
unfolding faulty first_fault
order_of n l h = record {
  inside = λ a g.
      let p = neither (eqb (get_or l a 0) 0 || ltb n (get_or l a 0)) _ (fine a g) in
      let q = neither (eqb (get_or l a 0) 0) _ p.0 in
      (pos_of_ne-zero (eqb-false (get_or l a 0) 0 q.0), omega (arith, ltb-false n (get_or l a 0) q.1));
  differ = λ a b lt g e.
      let p = neither (eqb (get_or l b 0) 0 || ltb n (get_or l b 0)) _ (fine b g) in
      clash (sym (some_at (λ (m : ℕ). eqb (get_or l m 0) (get_or l b 0)) b a lt (eq-eqb _ _ e)) ∙ p.1);
}
  where
    fine : (k : ℕ) → k < length l → faulty n l k ≡ false
    fine k g = first_below (faulty n l) (length l) k (omega arith)

-- an order has no faulty index
pub fault_of : (n : ℕ) (l : List ℕ) → Order n l → first_fault n l ≡ length l
unfolding faulty first_fault
fault_of n l o = first_none (faulty n l) (length l) (λ k g.
    let i = o.inside k g in
    let s : some k (λ (m : ℕ). eqb (get_or l m 0) (get_or l k 0)) ≡ false = some_none _ k (λ m h. ne_eqb (get_or l m 0) (get_or l k 0) (o.differ m k h g)) in
    let z : eqb (get_or l k 0) 0 ≡ false = ne_eqb (get_or l k 0) 0 (λ e. omega (arith, i.0)) in
    let t : ltb n (get_or l k 0) ≡ false = le-ltb n (get_or l k 0) i.1 in
    rw (z, t, s))

-- the code's padded vectors give what the vectors give
pub call_output : (area prev cur order : List ℕ) (old : ℕ) (v r : Ternary) → well_formed area ≡ true → good_values (decode area).inputs prev cur old ≡ true →
    r ≡ eval_order (step_of (decode area)) (padded (vector_in prev)) (padded (vector_in cur)) v order →
    r ≡ eval_order (step_of (decode area)) (vector_in prev) (vector_in cur) v order
unfolding good_values good_vector
call_output area prev cur order old v r w g e =
    let n : ℕ = (decode area).inputs in
    let p = both (eqb (length prev) n && every (length prev) (λ (k : ℕ). is_value (get_or prev k 0))) _ g in
    let q = both (eqb (length cur) n && every (length cur) (λ (k : ℕ). is_value (get_or cur k 0))) _ p.1 in
    let lp : length (vector_in prev) ≡ n = vector_length prev ∙ eqb-true (length prev) n (both (eqb (length prev) n) _ p.0).0 in
    let lc : length (vector_in cur) ≡ n = vector_length cur ∙ eqb-true (length cur) n (both (eqb (length cur) n) _ q.0).0 in
    let most : n ≤ input_limit = (formed_valid area w).most_inputs in
    e
    ∙ eval_alike (decode area) order v (padded_length (vector_in prev) ∙ sym (padded_length (vector_in cur))) (lp ∙ sym lc)
    (padded_alike (vector_in prev) (omega arith)) (padded_alike (vector_in cur) (omega arith))
