use mathlib.Core.Path.{◌∙◌}
use borrow.Author.Count.{below_none, below_more}
use Rattle.pair.proofs.Cases.{case_is}
use Rattle.pair.proofs.Options.{found_below, none_below}
use Rattle.pair.proofs.first_case.Goals as goal

pub returns-then-all_agree-clause-first : goal.returns-then-all_agree-clause-first
returns-then-all_agree-clause-first c = λ t M. rw (← c.all_agree.ensures t M c.if-all_agree.true)

pub loop-c-init : goal.loop-c-init
loop-c-init c = λ t M. below_none _

pub returns-then-differ-clause-first : goal.returns-then-differ-clause-first
returns-then-differ-clause-first c = λ t M.
    let k = c.of.ensures in
    found_below _ 27 _ c.loop-c-test.true (c.loop-c.invariant t M)
    (case_is t _ _ _ _ _ _ _ _ _ _ _ c.loop-c-test.true k.0 k.1 k.2 (c.differ.ensures t M) ∙ c.if-differ.true)

pub loop-c-preserved : goal.loop-c-preserved
loop-c-preserved c = λ t M.
    let k = c.of.ensures in
    below_more _ _ (c.loop-c.invariant t M) (case_is t _ _ _ _ _ _ _ _ _ _ _ c.loop-c-test.true k.0 k.1 k.2 (c.differ.ensures t M) ∙ c.if-differ.false)

pub returns-clause-first : goal.returns-clause-first
returns-clause-first c = λ t M. none_below _ 27 _ c.loop-c-test.false (c.loop-c.invariant t M)
