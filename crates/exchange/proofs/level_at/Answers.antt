use Rattle.planes.proofs.Planes.{level_told}
use Rattle.exchange.proofs.level_at.Goals as goal

pub returns : goal.returns
returns c = record { told = λ low. level_told _ _ _ _ _ _ c.rows_by-set.ensures (c.spread.ensures low) }
