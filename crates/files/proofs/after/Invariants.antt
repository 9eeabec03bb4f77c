use Rattle.std.proofs.Common.{◌+◌}
use mathlib.Core.Path.{◌≡◌}
use lib.ListN.{drop}
use Rattle.files.specs.Parts.{after_mark}
use Rattle.files.proofs.after.Given as goal

abbrev pub invariant-loop-i : goal.invariant-loop-i
invariant-loop-i l = after_mark l.mark l.k l.s ≡ l.i + after_mark l.mark l.left (drop l.i l.s)
