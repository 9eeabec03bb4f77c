use mathlib.Core.Path.{sym, ap, ◌∙◌}
use native.Mathlib.Omega.{arith}
use Prim.Native.Nat.{◌/◌}
use Rattle.handed.specs.Handed.{thirds}
use Rattle.handed.proofs.Thirds.{thirds_step, thirds_end}
use Rattle.handed.proofs.divide.Goals as goal

-- `handed::divide` meets its contract: what is left to divide by answers what all would. Assumes nothing.

pub loop-k-preserved : goal.loop-k-preserved
loop-k-preserved c = c.loop-k.invariant ∙ thirds_step _ _ (omega (arith, c.loop-k-test.true)) ∙ ap (thirds (c.loop-k.x / 3)) (omega arith)

pub returns : goal.returns
returns c = sym (c.loop-k.invariant ∙ thirds_end _ _ (omega (arith, c.loop-k-test.false)))
