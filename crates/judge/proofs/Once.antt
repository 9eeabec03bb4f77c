-- No two answers of the judge are right; what its answers say of the definition; what the square's answers say. Assumes nothing.
use Prim.Native.Nat.{ℕ}
use mathlib.Core.Path.{◌≡◌, refl, sym, ap, ◌∙◌}
use mathlib.Core.Logic.{◌↔◌}
use mathlib.Core.List.{List}
use native.Mathlib.Omega.{arith}
use Rattle.base.proofs.Bools.{clash}
use Rattle.value.specs.declared.Ternary.{Ternary}
use Rattle.table.specs.Area.{decode}
use Rattle.orders.specs.Order as order
use Rattle.orders.specs.Verdict.{dependent}
use Rattle.orders.proofs.Places.{every_family}
use Rattle.orders.proofs.Answers.{same_first, first_dependent}
use Rattle.step.specs.Step.{step_of}
use Rattle.step.proofs.Laws.{laws}
use Rattle.std.specs.Prelude.{Result, Ok, Err}
use Rattle.refusal.specs.declared.Refusal.{Refusal}
use Rattle.verdict.specs.declared.Witness.{Witness}
use Rattle.verdict.specs.declared.Finding.{Finding}
use Rattle.verdict.specs.declared.Finding.TheVariants.{Independent, Dependent}
use Rattle.judge.specs.Judge.{Witnesses, RightFinding}
use Rattle.judge.specs.Answer.{Right}

same_fields : (v w : Witness) → v.first ≡ w.first → v.second ≡ w.second → v.previous ≡ w.previous → v.first_now ≡ w.first_now →
    v.second_now ≡ w.second_now → v.old ≡ w.old → v.first_output ≡ w.first_output → v.second_output ≡ w.second_output → v ≡ w
same_fields v w a b c d e f g h = go
  where
    make : ℕ → ℕ → ℕ → Ternary → Ternary → Ternary → Ternary → Ternary → Witness
    make i j r x y o p q = record { first = i; second = j; previous = r; first_now = x; second_now = y; old = o; first_output = p; second_output = q }

    go : make v.first v.second v.previous v.first_now v.second_now v.old v.first_output v.second_output
        ≡ make w.first w.second w.previous w.first_now w.second_now w.old w.first_output w.second_output
    go = rw (a, b, c, d, e, f, g, h)

same_candidate : {i j r a b s : ℕ} → dependent i j r ≡ dependent a b s → (i ≡ a) × (j ≡ b) × (r ≡ s)
same_candidate e = (cc, cc, cc)

module _ (n : ℕ) (phi : order.Step) (L : order.Laws n phi) where
  same_witness : (v w : Witness) → Witnesses n phi v → Witnesses n phi w → v ≡ w
  same_witness v w p q =
      let e = same_candidate (same_first p.first q.first) in
      let a : v.first ≡ w.first = e.0 in
      let b : v.second ≡ w.second = e.1 in
      let r : p.candidate ≡ q.candidate = e.2 in
      same_fields v w a b
      (p.previous ∙ rw r (sym q.previous))
      (p.first_now ∙ rw r (sym q.first_now))
      (p.second_now ∙ rw r (sym q.second_now))
      (p.old ∙ rw r (sym q.old))
      (p.first_output ∙ rw (r, a, b) (sym q.first_output))
      (p.second_output ∙ rw (r, a, b) (sym q.second_output))

  pub one_finding : (f g : Finding) → RightFinding n phi f → RightFinding n phi g → f ≡ g
  one_finding Independent Independent p q = refl
  one_finding Independent (Dependent w) p q = absurd (first_dependent L (every_family n) q.first p)
  one_finding (Dependent v) Independent p q = absurd (first_dependent L (every_family n) p.first q)
  one_finding (Dependent v) (Dependent w) p q = ap Dependent (same_witness v w p q)

  -- the finding is Independent exactly where all full orders agree for every pair of vectors and every old output
  pub independent_exactly : (f : Finding) → RightFinding n phi f → (f ≡ Independent) ↔ order.Independent n (order.Every n) phi
  independent_exactly Independent p = (λ _. p, λ _. refl)
  independent_exactly (Dependent w) p =
      (λ e. absurd (let z : ◌≡◌ {A = ℕ} 0 1 = cc in omega arith), λ ind. absurd (first_dependent L (every_family n) p.first ind))

-- no two answers satisfy the promise
pub one_answer : (a : List ℕ) (p q : Result Finding Refusal) → Right a p → Right a q → p ≡ q
one_answer a (Ok f) (Ok g) p q = ap Ok (one_finding (decode a).inputs (step_of (decode a)) (laws (decode a) (decode a).inputs) f g p.1 q.1)
one_answer a (Ok f) (Err r) p q = clash (sym p.0 ∙ q.0)
one_answer a (Err r) (Ok g) p q = clash (sym q.0 ∙ p.0)
one_answer a (Err r) (Err s) p q = ap Err (p.1 ∙ sym q.1)
