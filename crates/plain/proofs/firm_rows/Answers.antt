use Prim.Native.Nat.{◌-◌}
use mathlib.Core.Path.{refl}
use native.Mathlib.Omega.{arith}
use Rattle.memo.proofs.Masks.{mask_top, mask_down, mask_bottom, mask_room, bit_small}
use Rattle.plain.specs.Plain.{firm_at}
use Rattle.plain.proofs.firm_rows.Goals as goal

pub loop-k-init : goal.loop-k-init
loop-k-init c = (omega arith, mask_top _ _ _ refl)

pub overflow_mul-firm : goal.overflow_mul-firm
overflow_mul-firm c = omega (arith, mask_room _ _ _ _ c.loop-k.invariant.1 (omega arith))

pub overflow_add-firm : goal.overflow_add-firm
overflow_add-firm c =
    omega (arith, mask_room _ _ _ _ c.loop-k.invariant.1 (omega arith), bit_small (firm_at c.args.outputs.now (c.loop-k.k - 1)) _ c.firm_at.ensures)

pub loop-k-preserved : goal.loop-k-preserved
loop-k-preserved c = (omega arith, mask_down _ _ _ _ _ c.loop-k-test.true c.loop-k.invariant.0 c.loop-k.invariant.1 c.firm_at.ensures)

pub returns : goal.returns
returns c = mask_bottom _ _ _ _ c.loop-k-test.false c.loop-k.invariant.1
