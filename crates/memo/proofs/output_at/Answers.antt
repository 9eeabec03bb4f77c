use native.Mathlib.Omega.{arith}
use Rattle.orders.proofs.Candidates.{rank_low}
use Rattle.memo.proofs.output_at.Goals as goal

pub overflow_cast-result : goal.overflow_cast-result
overflow_cast-result c = omega (arith, c.to_rank.ensures, rank_low c.result_of.result)
