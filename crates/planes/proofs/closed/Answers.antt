use Rattle.planes.proofs.Planes.{closed_by}
use Rattle.planes.proofs.closed.Goals as goal

pub returns : goal.returns
returns c low = closed_by _ _ _ _ _ _ (c.spread-p.ensures low)
