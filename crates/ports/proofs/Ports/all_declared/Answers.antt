use Rattle.std.proofs.Common.{◌+◌, take, ◌∙◌, arith, rules}
use Rattle.std.proofs.lemmas.Iterator.{YieldsList-from_slice}
use Rattle.std.proofs.lemmas.Iterator.Search.{all_from_yields_List}
use borrow.Author.Tests.{tests}
use Rattle.ports.proofs.Keeping.{all_flags}
use Rattle.ports.proofs.Ports.all_declared.Goals as goal

pub returns : goal.returns
returns c =
    let m = c.args.self.now.inputs + 1 in
    let fs = c.args.declared.now in
    all_from_yields_List (λ b. b) _ _ _ c.all.ensures.ran (YieldsList-from_slice (take m fs) cc) (λ x b q k. search (rules, tests)) ∙ all_flags m fs
    (omega arith)
