use mathlib.Core.Path.{ap}
use mathlib.Core.Bool.{not}
use Rattle.pair.proofs.Cases.{one_stays}
use Rattle.pair.proofs.differ.Goals as goal

pub returns-then-stays : goal.returns-then-stays
returns-then-stays c = λ t M. one_stays t _ _ _ _ _ _ _ _ _ c.if-stays.true

pub returns : goal.returns
returns c = λ t M. ap not (c.agree.ensures t M)
