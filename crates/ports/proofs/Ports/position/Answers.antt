use Rattle.std.proofs.Common.{◌+◌, take, ◌∙◌, rules}
use Rattle.std.proofs.lemmas.Iterator.{YieldsList-from_slice}
use Rattle.std.proofs.lemmas.Iterator.Search.{position_from_yields_List}
use borrow.Author.Tests.{tests}
use Rattle.text.specs.Words.{same}
use Rattle.text.proofs.Wordlaws.{same_as}
use Rattle.ports.proofs.Keeping.{found}
use Rattle.ports.proofs.Ports.position.Goals as goal

pub returns : goal.returns
returns c = let p = c.args.self.now in let w = c.args.name.now in position_from_yields_List (λ q. same w q.now) _ _ _ c.position.ensures.ran
    (YieldsList-from_slice (take (p.inputs + 1) p.names) cc) (λ x b q k. search (rules, tests, same_as)) ∙ found w (take (p.inputs + 1) p.names)
