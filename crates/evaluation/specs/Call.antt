-- The call's answer: refusal 10, then 11, then 12 with the first faulty index, else the output.
use Rattle.std.specs.Prelude.{ℕ, cond, List, ltb, length, Result, Ok, Err}
use Rattle.value.specs.declared.Ternary.{Ternary}
use Rattle.table.specs.Area.{decode}
use Rattle.formed.specs.Tests.{well_formed}
use Rattle.orders.specs.Order.{eval_order}
use Rattle.step.specs.Step.{step_of}
use Rattle.evaluation.specs.Called.{good_values, value_in, vector_in, first_fault}
use Rattle.refusal.specs.declared.Fault.TheVariants.{Area, Value, Order}
use Rattle.refusal.specs.declared.Refusal.{Refusal}

unfoldable pub evaluated : List ℕ → List ℕ → List ℕ → ℕ → List ℕ → Result Ternary Refusal
evaluated area prev cur old order =
    cond (well_formed area)
    (cond (good_values (decode area).inputs prev cur old)
    (cond (ltb (first_fault (decode area).inputs order) (length order))
    (Err (record { fault = Order; place = first_fault (decode area).inputs order }))
    (Ok (eval_order (step_of (decode area)) (vector_in prev) (vector_in cur) (value_in old) order)))
    (Err (record { fault = Value; place = 0 })))
    (Err (record { fault = Area; place = 0 }))
