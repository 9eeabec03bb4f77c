-- The four answers of the call. Assumes nothing.
use Prim.Native.Nat.{ℕ}
use mathlib.Core.Path.{◌≡◌, refl, sym, ap, ◌∙◌}
use mathlib.Core.Bool.{true, false}
use mathlib.Core.List.{List}
use lib.ListN.{length}
use Rattle.std.specs.Prelude.{Option, Some, None, Ok, Err}
use Rattle.base.specs.Search.{found}
use Rattle.base.proofs.Search.{found_some, found_none}
use Rattle.value.specs.declared.Ternary.{Ternary}
use Rattle.table.specs.Area.{decode}
use Rattle.formed.specs.Tests.{well_formed}
use Rattle.orders.specs.Order.{eval_order}
use Rattle.step.specs.Step.{step_of}
use Rattle.evaluation.specs.Called.{good_values, value_in, vector_in, padded, faulty, first_fault}
use Rattle.evaluation.specs.Call.{evaluated}
use Rattle.refusal.specs.declared.Fault.TheVariants.{Area, Value, Order}
use Rattle.evaluation.proofs.Saying.{call_output}

pub no_some : (o : Option ℕ) → ((k : ℕ) → o ≡ Some k → ⊥) → o ≡ None
no_some (Some k) h = absurd (h k refl)
no_some None h = refl

module _ (area prev cur order : List ℕ) (old : ℕ) where
  pub not_formed : well_formed area ≡ false → Err (record { fault = Area; place = 0 }) ≡ evaluated area prev cur old order
  unfolding evaluated
  not_formed w = rw w

  module _ (n : ℕ) (w : well_formed area ≡ true) (e : n ≡ (decode area).inputs) where
    pub not_values : good_values n prev cur old ≡ false → Err (record { fault = Value; place = 0 }) ≡ evaluated area prev cur old order
    unfolding evaluated
    not_values g = let h : good_values (decode area).inputs prev cur old ≡ false = rw e at g in rw (w, h)

    module _ (g : good_values n prev cur old ≡ true) (fault : Option ℕ) (q : fault ≡ found (length order) (faulty n order)) where
      good : good_values (decode area).inputs prev cur old ≡ true
      good = rw e at g

      place : fault ≡ found (length order) (faulty (decode area).inputs order)
      place = rw e at q

      pub not_order : (k : ℕ) → fault ≡ Some k → Err (record { fault = Order; place = k }) ≡ evaluated area prev cur old order
      unfolding evaluated first_fault
      not_order k s = let p = found_some (length order) (faulty (decode area).inputs order) k (sym place ∙ s) in rw (w, good, p.0, p.1)

      pub answers : (v r : Ternary) → fault ≡ None → v ≡ value_in old →
          r ≡ eval_order (step_of (decode area)) (padded (vector_in prev)) (padded (vector_in cur)) v order →
          Ok r ≡ evaluated area prev cur old order
      unfolding evaluated first_fault
      answers v r s p f =
          rw (w, good, found_none (length order) (faulty (decode area).inputs order) (sym place ∙ s), ← p)
          (ap Ok (call_output area prev cur order old v r w good f))
