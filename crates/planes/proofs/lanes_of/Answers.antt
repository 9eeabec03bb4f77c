use Rattle.planes.proofs.Bits.{shift_in, shift_out}
use Rattle.planes.proofs.lanes_of.Goals as goal

pub returns-then-m-r-eq1 : goal.returns-then-m-r-eq1
returns-then-m-r-eq1 c = shift_in _ _ _ c.if-m-r-eq1.true

pub returns-else-m-r-eq1 : goal.returns-else-m-r-eq1
returns-else-m-r-eq1 c = shift_out _ _ _ c.if-m-r-eq1.false
