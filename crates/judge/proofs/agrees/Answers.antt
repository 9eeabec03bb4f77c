use native.Mathlib.Omega.{arith}
use Rattle.judge.proofs.agrees.Goals as goal

pub pair_agrees-requires : goal.pair_agrees-requires
pair_agrees-requires c = (omega arith, omega arith, omega arith)
