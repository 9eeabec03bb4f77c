use native.Mathlib.Omega.{arith}
use Rattle.memo.specs.Rows.{cell_at}
use Rattle.cube.proofs.Weights.{weight_low, column_by}
use Rattle.cube.proofs.Digit.lanes_in.Goals as goal

pub overflow_cast-w : goal.overflow_cast-w
unfolding cell_at
overflow_cast-w c = omega (arith, (weight_low c.args.self _ c.weight-w.ensures).0)

pub overflow_shl-p : goal.overflow_shl-p
unfolding cell_at
overflow_shl-p c = omega (arith, (weight_low c.args.self _ c.weight-w.ensures).0)

pub overflow_add-w : goal.overflow_add-w
unfolding cell_at
overflow_add-w c = omega (arith, (weight_low c.args.self _ c.weight-w.ensures).0)

pub overflow_cast-w-2 : goal.overflow_cast-w-2
unfolding cell_at
overflow_cast-w-2 c = omega (arith, (weight_low c.args.self _ c.weight-w.ensures).0)

pub overflow_shl-p-2 : goal.overflow_shl-p-2
unfolding cell_at
overflow_shl-p-2 c = omega (arith, (weight_low c.args.self _ c.weight-w.ensures).0)

pub returns : goal.returns
unfolding cell_at
returns c =
    let z = rw (← c.weight-w.ensures) at c.zeros-p.ensures in
    rw (← c.weight-w.ensures) (column_by _ _ _ _ _ _ _ _ _ z c.lanes_of.ensures c.lanes_of-2.ensures c.lanes_of-3.ensures)
