use mathlib.Core.List.{[]}
use Rattle.base.specs.Limits.{input_limit}
use Rattle.base.proofs.Listed.{filled_none, filled_more, filled_all}
use Rattle.judge.specs.Search.{square_in}
use Rattle.judge.proofs.Pairwise.{filled_at}
use Rattle.judge.proofs.square_of.Goals as goal

pub loop-i-init : goal.loop-i-init
unfolding square_in
loop-i-init c = λ t M. filled_none _ input_limit _

pub loop-i-preserved : goal.loop-i-preserved
unfolding square_in
loop-i-preserved c = λ t M.
    filled_more _ input_limit _ _ _ c.loop-i-test.true (c.square_row.ensures t M (filled_at _ input_limit _ _ [] (c.loop-i.invariant t M)))
    (c.loop-i.invariant t M)

pub returns : goal.returns
unfolding square_in
returns c = λ t M. filled_all _ input_limit _ _ c.loop-i-test.false (c.loop-i.invariant t M)
