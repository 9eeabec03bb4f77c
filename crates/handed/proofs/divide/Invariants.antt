use Rattle.std.proofs.Common.{◌-◌}
use mathlib.Core.Path.{◌≡◌}
use Rattle.handed.specs.Handed.{thirds}
use Rattle.handed.proofs.divide.Given as goal

abbrev pub invariant-loop-k : goal.invariant-loop-k
invariant-loop-k l = thirds l.c l.m ≡ thirds l.x (l.m - l.k)
