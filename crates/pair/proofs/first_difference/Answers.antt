use Prim.Native.Nat.{◌*◌, ◌^◌, ◌≤◌}
use mathlib.Core.Path.{sym, ◌∙◌}
use native.Mathlib.Omega.{arith}
use Rattle.base.specs.Limits.{input_limit}
use Rattle.orders.proofs.Digits.{power_le}
use Rattle.pair.proofs.Options.{none_below}
use Rattle.pair.proofs.Scans.{found_case, next_vector, first_at_lem}
use Rattle.pair.proofs.first_difference.Goals as goal

pub loop-v-init : goal.loop-v-init
loop-v-init c = λ t M r h. absurd (omega arith)

pub overflow_mul-result : goal.overflow_mul-result
overflow_mul-result c =
    let vectors : c.power-v-end.result ≤ 3 ^ input_limit = rw c.power-v-end.ensures (power_le _ input_limit (omega arith)) in omega arith

pub overflow_add-result : goal.overflow_add-result
overflow_add-result c =
    let vectors : c.power-v-end.result ≤ 3 ^ input_limit = rw c.power-v-end.ensures (power_le _ input_limit (omega arith)) in
    omega (arith, rw c.in-Some.is at c.first_case.ensures.low)

pub returns-in-Some : goal.returns-in-Some
returns-in-Some c = λ t M.
    let a = c.at.ensures in
    let o = c.of-columns.ensures in
    let e = rw (a.0, a.1, a.2, a.3, a.4) at (sym c.in-Some.is ∙ c.first_case.ensures.first t M) in
    first_at_lem t _ M _ _ _ _ o.2 o.3 _ _ c.power-v-end.ensures
    (rw (o.0, o.1) at (found_case t _ _ _ _ _ _ _ _ _ _ c.loop-v-test.true (c.loop-v.invariant t M) e))

pub loop-v-preserved : goal.loop-v-preserved
loop-v-preserved c = λ t M.
    let a = c.at.ensures in
    let e = rw (a.0, a.1, a.2, a.3, a.4) at (sym c.in_default.is ∙ c.first_case.ensures.first t M) in
    next_vector t _ _ _ _ _ _ _ _ (c.loop-v.invariant t M) e

pub returns : goal.returns
returns c = λ t M.
    let o = c.of-columns.ensures in
    first_at_lem t _ M _ _ _ _ o.2 o.3 _ _ c.power-v-end.ensures
    (rw (o.0, o.1) at (none_below _ (c.power-v-end.result * 27) _ (omega arith) (c.loop-v.invariant t M)))
