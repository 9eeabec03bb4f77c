use Rattle.text.proofs.Classes.{classes_ruled}
use Rattle.text.proofs.class_of.Goals as goal

pub returns : goal.returns
returns c = rw c.from.ensures (classes_ruled _ c.ranges.b.fits)
