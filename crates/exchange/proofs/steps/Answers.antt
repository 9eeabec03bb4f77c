use Prim.Native.Nat.{◌+◌, ◌*◌}
use mathlib.Core.Path.{◌≡◌}
use mathlib.Core.List.{[]}
use native.Mathlib.Omega.{arith}
use Rattle.memo.proofs.Each.{each_more, each_all}
use Rattle.exchange.proofs.Stepped.{in_place, steps_by}
use Rattle.exchange.proofs.steps.Goals as goal

pub loop-o-preserved : goal.loop-o-preserved
loop-o-preserved c = let k = c.loop-k.k in let o = c.loop-o.o in
    let e : k * 3 + o + 1 ≡ k * 3 + (o + 1) = omega arith in
    rw e at (each_more [] _ 81 c.loop-o.steps (k * 3 + o) _ (omega arith) (in_place _ _ _ _ _ k o _ c.loop-o-test.true c.step_at.ensures) c.loop-o.invariant)

pub returns : goal.returns
returns c = steps_by _ _ _ _ _ _ (each_all [] _ 81 _ 81 _ (omega arith) c.loop-k.invariant)
