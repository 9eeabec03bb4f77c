use Rattle.std.proofs.Common.{length, ◌-◌, ◌≤◌}
use Rattle.lister.proofs.list.Given as goal

abbrev pub invariant-loop-finding : goal.invariant-loop-finding
invariant-loop-finding g l = l.at ≤ length l.text

abbrev pub decreases-loop-finding : goal.decreases-loop-finding
decreases-loop-finding g l = length l.text - l.at
