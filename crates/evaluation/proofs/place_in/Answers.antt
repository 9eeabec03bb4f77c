use borrow.Author.Rules.{rules}
use Rattle.evaluation.proofs.Saying.{place_of}
use Rattle.evaluation.proofs.place_in.Goals as goal

pub returns : goal.returns
returns c = place_of c.args.s.now c.args.k c.get.result c.map_or.result _ c.get.ensures.lookup.3 c.map_or.ensures (λ x h. search rules)
