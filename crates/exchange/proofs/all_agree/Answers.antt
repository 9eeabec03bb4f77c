use borrow.Author.Rules.{rules}
use Rattle.base.proofs.Chains.{every_from_all}
use Rattle.exchange.specs.Paths.{agree_in}
use Rattle.exchange.proofs.all_agree.Goals as goal

pub returns : goal.returns
returns c = every_from_all (agree_in c.args.f.now c.args.h.now) 27 _ _ _ (cc) _ (λ x b q k. search rules) c.all.ensures.ran
