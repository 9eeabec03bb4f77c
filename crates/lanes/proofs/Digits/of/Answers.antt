use Prim.Native.Nat.{◌-◌}
use mathlib.Core.Path.{◌≡◌, ◌∙◌}
use native.Mathlib.Omega.{arith}
use Rattle.lanes.specs.Columns.{past}
use Rattle.lanes.proofs.Tops.{before_past}
use Rattle.lanes.proofs.Digits.of.Goals as goal

pub returns : goal.returns
returns c = (
  c.last_other-one.ensures.0,
  rw (c.unwrap_or.ensures, before_past c.last_other-one.result) at c.last_other-three.ensures.0,
  rw (c.unwrap_or-2.ensures, before_past c.last_other-three.result) at c.last_other-nine.ensures.0,
)

pub invariant_of-result : goal.invariant_of-result
invariant_of-result c =
    let one : c.unwrap_or.result ≡ past c.last_other-one.result - 1 = c.unwrap_or.ensures ∙ before_past _ in
    let three : c.unwrap_or-2.result ≡ past c.last_other-three.result - 1 = c.unwrap_or-2.ensures ∙ before_past _ in
    record { one_in = omega arith; three_in = omega arith; nine_in = omega arith }
