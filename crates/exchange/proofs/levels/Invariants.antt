use mathlib.Core.List.{[]}
use Rattle.memo.proofs.Each.{Each}
use Rattle.exchange.specs.Lanes.{Level}
use Rattle.exchange.proofs.levels.Given as goal

abbrev pub invariant-loop-k : goal.invariant-loop-k
invariant-loop-k l = Each [] (Level l.memo l.lanes l.columns.moving l.columns.still l.rows) 27 l.planes l.k
