use native.Mathlib.Omega.{arith}
use Rattle.pair.proofs.Scans.{weight_some}
use Rattle.pair.proofs.Columns.of.Goals as goal

pub invariant_of-result : goal.invariant_of-result
invariant_of-result c = record {
  first_in = omega arith;
  second_in = omega arith;
  first_weighs = weight_some _ _ _ c.power.ensures;
  second_weighs = weight_some _ _ _ c.power-2.ensures;
}
