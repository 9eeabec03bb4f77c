use Prim.Native.Nat.{◌+◌, ◌*◌}
use mathlib.Core.List.{[]}
use Rattle.memo.proofs.Each.{Each}
use Rattle.cube.proofs.Stepping.{Stepped}
use Rattle.cube.proofs.steps.Given as goal

abbrev pub invariant-loop-a : goal.invariant-loop-a
invariant-loop-a l = Each [] (Stepped l.memo l.i) 9 l.steps (l.a * 3)

abbrev pub invariant-loop-o : goal.invariant-loop-o
invariant-loop-o l = Each [] (Stepped l.memo l.i) 9 l.steps (l.a * 3 + l.o)
