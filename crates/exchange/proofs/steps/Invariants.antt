use Prim.Native.Nat.{◌+◌, ◌*◌}
use mathlib.Core.List.{[]}
use Rattle.memo.proofs.Each.{Each}
use Rattle.exchange.proofs.Stepped.{StepIn}
use Rattle.exchange.proofs.steps.Given as goal

abbrev pub invariant-loop-k : goal.invariant-loop-k
invariant-loop-k l = Each [] (StepIn l.memo l.lanes l.columns.moving l.columns.still l.rows) 81 l.steps (l.k * 3)

abbrev pub invariant-loop-o : goal.invariant-loop-o
invariant-loop-o l = Each [] (StepIn l.memo l.lanes l.columns.moving l.columns.still l.rows) 81 l.steps (l.k * 3 + l.o)
