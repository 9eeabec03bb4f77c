use native.Mathlib.Omega.{arith}
use borrow.Author.Tests.{le-ltb}
use Rattle.orders.specs.Verdict.{candidates}
use Rattle.judge.proofs.Findings.{pair_first_lem}
use Rattle.judge.proofs.Agreeing.{agreed}
use Rattle.judge.proofs.pair_first.Goals as goal

pub returns-then-agrees : goal.returns-then-agrees
returns-then-agrees c = λ t M.
    rw (
      agreed t _ _ c.requires.0 (omega (arith, M.inputs_are)) ((c.agrees.ensures t M).sound c.if-agrees.true),
      le-ltb (candidates t.inputs) (candidates t.inputs) (omega arith),
    )

pub returns : goal.returns
returns c = λ t M. rw (pair_first_lem t _ _ c.requires.0 (omega (arith, M.inputs_are))) (c.first_difference.ensures t M)
