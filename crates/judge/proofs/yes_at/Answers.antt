use mathlib.Core.Path.{refl}
use native.Mathlib.Omega.{arith}
use Rattle.judge.proofs.Findings.{no_pair, past_pair}
use Rattle.judge.proofs.Pairwise.{yes_before, yes_nowhere, yes_told}
use Rattle.judge.proofs.yes_at.Goals as goal

pub returns-then-j-i : goal.returns-then-j-i
returns-then-j-i c = λ t M w. yes_before t _ _ c.args.done.now _ c.if-j-i.true (omega arith) w refl

pub returns-then-j-i-2 : goal.returns-then-j-i-2
returns-then-j-i-2 c = λ t M w. yes_nowhere t _ _ (omega arith) (no_pair t _ _ (omega arith))

pub returns-then-memo-j : goal.returns-then-memo-j
returns-then-memo-j c = λ t M w. yes_nowhere t _ _ (omega arith) (past_pair t _ _ (omega (arith, M.inputs_are)))

pub returns : goal.returns
returns c = λ t M w. yes_told t _ _ _ (omega arith) (omega (arith, M.inputs_are)) (c.agrees.ensures t M)
