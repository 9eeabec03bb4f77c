use Rattle.plain.proofs.Sets.{Passed}
use Rattle.plain.proofs.edge_rows.Given as goal

abbrev pub invariant-loop-e : goal.invariant-loop-e
invariant-loop-e l = Passed l.cells l.c l.edges l.e
