use mathlib.Core.Path.{◌≡◌, refl}
use native.Mathlib.Omega.{arith}
use Rattle.symbol.specs.Masks.{mask_from, mask_of}
use Rattle.memo.specs.Rows.{all_rows}
use Rattle.memo.proofs.Masks.{mask_room, all_more}
use Rattle.memo.proofs.all_rows.Goals as goal

pub loop-row-init : goal.loop-row-init
unfolding mask_of mask_from
loop-row-init c = refl

pub overflow_mul-all : goal.overflow_mul-all
unfolding mask_of
overflow_mul-all c = omega (arith, c.requires.rows, mask_room _ _ _ _ c.loop-row.invariant (omega (arith, c.requires.rows)))

pub overflow_add-all : goal.overflow_add-all
unfolding mask_of
overflow_add-all c = omega (arith, c.requires.rows, mask_room _ _ _ _ c.loop-row.invariant (omega (arith, c.requires.rows)))

pub loop-row-preserved : goal.loop-row-preserved
loop-row-preserved c = all_more _ _ c.loop-row.invariant

pub returns : goal.returns
unfolding all_rows
returns c = let e : c.loop-row._row ≡ c.rows-row-end.result = omega arith in rw (e, c.rows-row-end.ensures) at c.loop-row.invariant
