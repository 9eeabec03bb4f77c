use Rattle.std.proofs.Common.{◌∙◌, rules, tests}
use Rattle.std.proofs.lemmas.Iterator.{YieldsList-from_slice}
use Rattle.std.proofs.lemmas.Iterator.Search.{all_from_yields_List}
use Rattle.text.specs.Bytes.{in_name}
use Rattle.text.proofs.Wordlaws.{all_is}
use Rattle.text.proofs.all_in_name.Goals as goal

pub returns : goal.returns
returns c =
    let s = c.args.s.now in
    all_from_yields_List in_name _ _ _ c.all.ensures.ran (YieldsList-from_slice s cc) (λ x b q k. search (rules, tests))
    ∙ all_is s
