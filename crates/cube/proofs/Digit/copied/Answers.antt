use mathlib.Core.Path.{refl}
use native.Mathlib.Omega.{arith}
use Rattle.cube.proofs.Weights.{weight_low, times_low, copied_by}
use Rattle.cube.proofs.Digit.copied.Goals as goal

pub overflow_mul-q : goal.overflow_mul-q
overflow_mul-q c = omega (arith, times_low c.args.self _ _ c.weight-w.ensures c.requires)

pub overflow_cast-q : goal.overflow_cast-q
overflow_cast-q c = omega (arith, times_low c.args.self _ _ c.weight-w.ensures c.requires)

pub overflow_shr-q : goal.overflow_shr-q
overflow_shr-q c = times_low c.args.self _ _ c.weight-w.ensures c.requires

pub overflow_cast-result : goal.overflow_cast-result
overflow_cast-result c = omega (arith, (weight_low c.args.self _ c.weight-w.ensures).0)

pub overflow_shl-result : goal.overflow_shl-result
overflow_shl-result c = omega (arith, (weight_low c.args.self _ c.weight-w.ensures).0)

pub overflow_add-result : goal.overflow_add-result
overflow_add-result c = omega (arith, (weight_low c.args.self _ c.weight-w.ensures).0)

pub overflow_cast-result-2 : goal.overflow_cast-result-2
overflow_cast-result-2 c = omega (arith, (weight_low c.args.self _ c.weight-w.ensures).0)

pub overflow_shl-result-2 : goal.overflow_shl-result-2
overflow_shl-result-2 c = omega (arith, (weight_low c.args.self _ c.weight-w.ensures).0)

pub returns : goal.returns
returns c =
    let z = rw (← c.weight-w.ensures) at c.zeros.ensures in
    rw (← c.weight-w.ensures) (copied_by _ _ _ _ _ z refl)
