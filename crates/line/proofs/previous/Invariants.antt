use mathlib.Core.Path.{◌≡◌}
use Rattle.line.proofs.Lines.{number_up_to}
use Rattle.line.proofs.previous.Given as goal

abbrev pub invariant-loop-k : goal.invariant-loop-k
invariant-loop-k l = l.c ≡ number_up_to l.field l.k
