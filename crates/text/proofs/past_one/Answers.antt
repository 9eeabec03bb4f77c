use Rattle.text.proofs.Blanklaws.{one_on}
use Rattle.text.proofs.past_one.Goals as goal

pub returns-then-one_at : goal.returns-then-one_at
returns-then-one_at c = let a = c.args in one_on a.text.now a.at c.one_at.result _ c.one_at.ensures c.one_at-2.ensures c.if-one_at.true
