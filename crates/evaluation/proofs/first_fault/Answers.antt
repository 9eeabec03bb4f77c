use borrow.Author.Rules.{rules}
use lib.ListN.{length}
use Rattle.base.proofs.Chains.{found_from_find}
use Rattle.evaluation.specs.Called.{faulty}
use Rattle.evaluation.proofs.first_fault.Goals as goal

pub returns : goal.returns
returns c = found_from_find (faulty c.args.n c.args.l.now) (length c.args.l.now) _ _ _ (cc) _ (λ x b q h. search rules) c.find.ensures.ran
