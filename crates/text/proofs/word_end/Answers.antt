use Rattle.std.proofs.Common.{◌∙◌, rules, tests, drop}
use Rattle.std.proofs.lemmas.Iterator.{YieldsList-from_slice}
use Rattle.std.proofs.lemmas.Iterator.Consumers.{count_from_yields_List}
use Rattle.std.proofs.lemmas.Iterator.Search.{YieldsList-from_take_while}
use Rattle.std.proofs.lemmas.List.Folds.{length-prefix_len}
use Rattle.text.specs.Bytes.{in_name}
use Rattle.text.proofs.Wordlaws.{run_part}
use Rattle.text.proofs.word_end.Goals as goal

pub returns : goal.returns
returns c =
    let s = drop c.args.at c.args.text.now in
    run_part c.args.text.now c.args.at c.count.result
    (count_from_yields_List c.take_while.result _ c.count.ensures.ran
    (YieldsList-from_take_while _ in_name (YieldsList-from_slice s cc) c.take_while.ensures.closure c.take_while.ensures.done
    (λ x b q k. search (rules, tests)))
    ∙ length-prefix_len in_name s)
