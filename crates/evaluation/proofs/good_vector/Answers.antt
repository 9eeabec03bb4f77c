use borrow.Author.Rules.{rules}
use borrow.Author.Tests.{eq-eqb, ne_eqb}
use Rattle.base.proofs.Chains.{every_from_list}
use Rattle.evaluation.specs.Called.{is_value, good_vector}
use Rattle.evaluation.proofs.good_vector.Goals as goal

pub returns-then-s-n : goal.returns-then-s-n
unfolding good_vector
returns-then-s-n c = rw (eq-eqb _ _ c.if-s-n.true) (every_from_list is_value c.args.s.now _ _ _ (cc) _ (λ x b q h. search rules) c.all.ensures.ran)

pub returns-else-s-n : goal.returns-else-s-n
unfolding good_vector
returns-else-s-n c = rw (ne_eqb _ _ c.if-s-n.false)
