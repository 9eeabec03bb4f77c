use Prim.Native.Nat.{◌≤◌, max}
use mathlib.Core.Path.{◌≡◌}
use lib.ListN.{length}
use Rattle.files.specs.Parts.{next_mark}
use Rattle.files.proofs.next.Given as goal

abbrev pub invariant-loop-i : goal.invariant-loop-i
invariant-loop-i l = (next_mark l.mark l.s l.from ≡ next_mark l.mark l.s l.i) × (l.i ≤ max l.from (length l.s))
