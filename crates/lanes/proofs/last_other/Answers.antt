use Prim.Native.Nat.{suc, ◌-◌}
use mathlib.Core.Path.{◌≡◌, refl, sym, ◌∙◌}
use native.Mathlib.Omega.{arith}
use Rattle.lanes.proofs.Tops.{top_here, top_next, top_none}
use Rattle.lanes.proofs.last_other.Goals as goal

pub loop-c-init : goal.loop-c-init
loop-c-init c = refl

pub returns-then-other : goal.returns-then-other
returns-then-other c =
    let e : suc (c.loop-c.c - 1) ≡ c.loop-c.c = omega arith in
    (e ∙ top_here _ _ _ _ c.loop-c-test.true c.if-other.true c.loop-c.invariant, omega arith)

pub loop-c-preserved : goal.loop-c-preserved
loop-c-preserved c = top_next _ _ _ _ c.loop-c-test.true c.if-other.false c.loop-c.invariant

pub returns : goal.returns
returns c =
    let e : c.loop-c.c ≡ 0 = omega arith in
    (sym e ∙ top_none _ _ _ _ c.loop-c-test.false c.loop-c.invariant, omega arith)
