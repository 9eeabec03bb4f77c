use Prim.Native.Nat.{suc, ◌-◌}
use mathlib.Core.Path.{◌≡◌}
use native.Mathlib.Omega.{arith}
use Rattle.cube.proofs.Digit.of.Goals as goal

pub returns-in-1 : goal.returns-in-1
returns-in-1 c = let e : c.args.memo.now.inputs - suc c.args.k ≡ 0 = omega (arith, c.in-1.is) in rw e

pub returns-in-2 : goal.returns-in-2
returns-in-2 c = let e : c.args.memo.now.inputs - suc c.args.k ≡ 1 = omega (arith, c.in-2.is) in rw e

pub returns-in_default : goal.returns-in_default
returns-in_default c =
    let e : c.args.memo.now.inputs - suc c.args.k ≡ 2 = omega (arith, c.in_default.in_default-own.rest.0.1, c.in_default.in_default-own.rest.1) in rw e
