use lib.ListN.{length}
use Rattle.step.proofs.+follow.Given as goal

-- the length of what remains of the order
abbrev pub decreases-follow : goal.decreases-follow
decreases-follow l = length l.order.now
