use native.Mathlib.Omega.{arith}
use Rattle.cube.proofs.Stepping.{stays_by}
use Rattle.cube.proofs.stays.Goals as goal

pub returns : goal.returns
returns c = stays_by _ _ _ (omega arith)
