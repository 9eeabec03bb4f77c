use Prim.Native.Nat.{◌+◌, ◌*◌}
use mathlib.Core.List.{[]}
use mathlib.Core.Path.{◌≡◌, refl, ◌∙◌}
use native.Mathlib.Nat.{add-zero}
use native.Mathlib.Omega.{arith}
use Rattle.memo.proofs.Each.{each_none, each_more, each_all}
use Rattle.cube.proofs.Weights.{times_low}
use Rattle.cube.proofs.Stepping.{stepped_by, steps_by}
use Rattle.cube.proofs.steps.Goals as goal

pub loop-a-init : goal.loop-a-init
loop-a-init c = each_none [] _ 9 _

pub overflow_mul-still : goal.overflow_mul-still
overflow_mul-still c = omega (arith, times_low c.args.digit _ _ c.weight.ensures c.loop-a-test.true)

pub overflow_cast-still : goal.overflow_cast-still
overflow_cast-still c = omega (arith, times_low c.args.digit _ _ c.weight.ensures c.loop-a-test.true)

pub overflow_shl-still : goal.overflow_shl-still
overflow_shl-still c = times_low c.args.digit _ _ c.weight.ensures c.loop-a-test.true

pub loop-o-init : goal.loop-o-init
loop-o-init c = rw (add-zero (c.loop-a.a * 3)) c.loop-a.invariant

pub loop-o-preserved : goal.loop-o-preserved
loop-o-preserved c =
    let p = c.requires in
    let zeros = rw (← c.weight.ensures) at c.zeros.ensures in
    let more : c.loop-a.a * 3 + c.loop-o.o + 1 ≡ c.loop-a.a * 3 + (c.loop-o.o + 1) = omega arith in
    let step = stepped_by _ _ _ _ _ _ _ _ _ (omega arith) p.2 c.loop-a-test.true c.loop-o-test.true c.lanes-by_row.ensures p.3
    (c.weight.ensures ∙ p.4) zeros _ _ refl c.edges_in-edges.ensures c.step_at.ensures in
    rw more at (each_more [] _ 9 _ _ _ (omega arith) step c.loop-o.invariant)

pub loop-a-preserved : goal.loop-a-preserved
loop-a-preserved c =
    let end : c.loop-a.a * 3 + c.loop-o.o ≡ (c.loop-a.a + 1) * 3 = omega arith in rw end at c.loop-o.invariant

pub returns : goal.returns
returns c = steps_by _ _ _ (omega arith) (each_all [] _ 9 _ 9 _ (omega arith) c.loop-a.invariant)
