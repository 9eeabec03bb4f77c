use native.Mathlib.Omega.{arith}
use Rattle.memo.proofs.Offers.{columns_more, columns_all}
use Rattle.memo.proofs.cells_of.Goals as goal

pub loop-k-preserved : goal.loop-k-preserved
loop-k-preserved c = columns_more _ _ _ _ (omega (arith, c.requires.inputs)) c.cell_row.ensures c.loop-k.invariant

pub returns : goal.returns
returns c = columns_all _ _ _ (omega arith) c.loop-k.invariant
