use Rattle.std.proofs.Common.{ℕ, Bool, ◌∙◌, eqb, not, rules, tests}
use Rattle.std.proofs.lemmas.Iterator.{YieldsList-from_slice}
use Rattle.std.proofs.lemmas.Iterator.Consumers.{count_from_yields_List}
use Rattle.std.proofs.lemmas.Iterator.Search.{YieldsList-from_take_while}
use Rattle.std.proofs.lemmas.List.Folds.{length-prefix_len}
use Rattle.text.proofs.Blanklaws.{line_is}
use Rattle.text.proofs.to_line.Goals as goal

pub returns : goal.returns
returns c =
    let s = c.args.s.now in
    let before_lf : ℕ → Bool = λ b. not (eqb b 10) in
    count_from_yields_List c.take_while.result _ c.count.ensures.ran
    (YieldsList-from_take_while _ before_lf (YieldsList-from_slice s cc) c.take_while.ensures.closure c.take_while.ensures.done
    (λ x b q k. search (rules, tests)))
    ∙ length-prefix_len before_lf s
    ∙ line_is s
