use Prim.Native.Nat.{◌≤◌, ◌-◌}
use mathlib.Core.Path.{◌≡◌}
use lib.ListN.{length}
use Rattle.keeping.specs.Keeping.{Primitives}
use Rattle.keeping.proofs.count.Given as goal

abbrev pub invariant-loop-next : goal.invariant-loop-next
invariant-loop-next l = Primitives l.text l.n l.at × (l.at ≤ length l.text) × (l.n ≤ l.at) × (length l.area ≡ length l.initial.area)

abbrev pub decreases-loop-next : goal.decreases-loop-next
decreases-loop-next l = length l.text - l.at
