use mathlib.Core.Path.{◌≡◌}
use Rattle.lanes.specs.Columns.{top_of}
use Rattle.lanes.proofs.last_other.Given as goal

-- the columns behind are i and j alone
abbrev pub invariant-loop-c : goal.invariant-loop-c
invariant-loop-c l = top_of l.i l.j l.c ≡ top_of l.i l.j l.k
