use Rattle.base.proofs.Listed.{Filled}
use Rattle.bankplover.specs.Judges.{bit_of}
use Rattle.bankplover.proofs.bankplover_square.Given as goal

abbrev pub invariant-loop-k : goal.invariant-loop-k
invariant-loop-k l = Filled (bit_of l.s) 81 l.cells l.k
