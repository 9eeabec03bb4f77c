use Rattle.std.proofs.Common.{◌≡◌, ◌-◌, length, drop}
use Rattle.text.specs.Reader.{skip}
use Rattle.text.proofs.skip_gaps.Given as goal

abbrev pub invariant-loop-i : goal.invariant-loop-i
invariant-loop-i l = skip l.at (drop l.at l.text) ≡ skip l.i (drop l.i l.text)

abbrev pub decreases-loop-i : goal.decreases-loop-i
decreases-loop-i l = length l.text - l.i
