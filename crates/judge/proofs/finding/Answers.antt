use mathlib.Core.Path.{sym, ◌∙◌}
use native.Mathlib.Omega.{arith}
use Rattle.judge.proofs.Findings.{differs_not, found_pair, low_pairs, next_pair, high_pairs, none_found}
use Rattle.judge.proofs.finding.Goals as goal

pub loop-i-init : goal.loop-i-init
loop-i-init c = λ t M k h. absurd (omega arith)

pub loop-j-init : goal.loop-j-init
loop-j-init c = λ t M k h. low_pairs t c.loop-i.i (c.loop-i.invariant t M) k (omega arith) (omega arith)

pub returns-in-Some : goal.returns-in-Some
returns-in-Some c = λ t M. found_pair t _ _ _ _ (omega arith) (omega arith) (c.loop-j.invariant t M) (sym c.in-Some.is ∙ c.pair_first.ensures t M)
    (c.witness_at.ensures t M)

pub loop-j-preserved : goal.loop-j-preserved
loop-j-preserved c = λ t M. next_pair t _ _ (omega arith) (c.loop-j.invariant t M) (differs_not t _ _ (sym c.in_default.is ∙ c.pair_first.ensures t M))

pub loop-i-preserved : goal.loop-i-preserved
loop-i-preserved c = λ t M. high_pairs t _ _ (omega (arith, M.inputs_are)) (c.loop-j.invariant t M)

pub returns : goal.returns
returns c = λ t M. none_found t _ (omega (arith, M.inputs_are)) (c.loop-i.invariant t M)
