use Rattle.base.specs.Limits.{input_limit}
use Rattle.base.proofs.Listed.{filled_none, filled_more, filled_all}
use Rattle.judge.proofs.square_row.Goals as goal

pub loop-j-init : goal.loop-j-init
loop-j-init c = λ t M w. filled_none _ input_limit _

pub loop-j-preserved : goal.loop-j-preserved
loop-j-preserved c = λ t M w. filled_more _ input_limit _ _ _ c.loop-j-test.true (c.yes_at.ensures t M w) (c.loop-j.invariant t M w)

pub returns : goal.returns
returns c = λ t M w. filled_all _ input_limit _ _ c.loop-j-test.false (c.loop-j.invariant t M w)
