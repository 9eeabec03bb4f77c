use mathlib.Core.List.{[]}
use Rattle.memo.proofs.Each.{each_all}
use Rattle.exchange.proofs.Stepped.{levels_by}
use Rattle.exchange.proofs.levels.Goals as goal

pub returns : goal.returns
returns c = let l = levels_by _ _ _ _ _ _ (each_all [] _ 27 _ 27 _ c.loop-k-test.false c.loop-k.invariant) in record { by_first = l.0; by_second = l.1 }
