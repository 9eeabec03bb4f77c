use Prim.Native.Nat.{◌+◌, ◌*◌}
use native.Mathlib.Omega.{arith}
use Rattle.pair.proofs.output_of.Goals as goal

pub returns : goal.returns
returns c = (λ t M. let low = M.outputs_are.low.at (c.args.row * 3 + c.args.old) in omega arith, omega arith)
