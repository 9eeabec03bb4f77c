use Rattle.exchange.proofs.Stepped.{step_by, no_step}
use Rattle.exchange.proofs.step_at.Goals as goal

pub returns-then-a-u : goal.returns-then-a-u
returns-then-a-u c = no_step _ _ _ _ _ _ _ _ c.if-a-u.true

pub returns : goal.returns
returns c = let p = c.requires.place in
    step_by _ _ _ _ _ _ _ _ _ _ _ _ p.0 p.1 c.requires.levels c.rows_by-set.ensures c.place-at.ensures.0 c.closed.ensures
