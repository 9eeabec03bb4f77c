use Rattle.std.proofs.Common.{refl, arith}
use Rattle.keeping.proofs.Growing.{begun}
use Rattle.run.proofs.go_through.Goals as goal

-- before the first primitive the book holds no entry
pub loop-next-init : goal.loop-next-init
loop-next-init c = (begun _ _, omega arith, omega arith, refl, refl)
