use native.Mathlib.Omega.{arith}
use Rattle.orders.proofs.Candidates.{rank_low}
use Rattle.memo.proofs.Each.{each_none, each_more}
use Rattle.memo.proofs.Low.{low_none, low_more}
use Rattle.memo.proofs.outputs_of.Goals as goal

pub loop-c-init : goal.loop-c-init
loop-c-init c = (low_none 192, each_none 0 _ 192 _)

pub loop-c-preserved : goal.loop-c-preserved
loop-c-preserved c = let i = c.loop-c.invariant in (
  low_more _ _ _ (omega (arith, i.1.long)) (rw c.output_at.ensures (rank_low _)) i.0,
  each_more 0 _ 192 _ _ _ (omega arith) c.output_at.ensures i.1,
)
