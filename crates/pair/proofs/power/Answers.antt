use native.Mathlib.Omega.{arith}
use Rattle.base.specs.Limits.{input_limit}
use Rattle.orders.proofs.Digits.{power_le}
use Rattle.pair.proofs.power.Goals as goal

pub pow-requires : goal.pow-requires
pow-requires c = omega (arith, power_le c.args.n input_limit c.requires)
