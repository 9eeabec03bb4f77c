use Rattle.std.proofs.Common.{◌≡◌, drop}
use Rattle.text.specs.Blanks.{to_close}
use Rattle.text.proofs.Blanklaws.{adds}
use Rattle.text.proofs.to_close.Given as goal

abbrev pub invariant-loop-i : goal.invariant-loop-i
invariant-loop-i l = to_close l.s ≡ adds l.i (to_close (drop l.i l.s))
