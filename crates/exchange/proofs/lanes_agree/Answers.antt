use Rattle.exchange.proofs.Orders.{lanes_tell}
use Rattle.exchange.proofs.lanes_agree.Goals as goal

pub returns : goal.returns
returns c = lanes_tell _ _ _ _ _ _ _ _ c.steps-f.ensures c.steps-h.ensures c.all_agree.ensures
