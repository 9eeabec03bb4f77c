use mathlib.Core.Path.{◌∙◌}
use native.Mathlib.Omega.{arith}
use borrow.Author.Rules.{rules}
use borrow.Author.Tests.{tests}
use Rattle.std.proofs.lemmas.Iterator.{YieldsList-from_range}
use Rattle.std.proofs.lemmas.Iterator.Search.{all_from_yields_List}
use Rattle.base.proofs.Lists.{range_all_every}
use Rattle.canonical.proofs.Parts.{column_stored, columns_are}
use Rattle.canonical.proofs.columns_stored.Goals as goal

pub returns : goal.returns
returns c =
    all_from_yields_List (column_stored c.args.a.now c.args.i) _ _ _ c.all.ensures.ran
    (YieldsList-from_range 0 c.args.n c.args.n (cc) (omega arith))
    (λ x b q k. search (rules, tests))
    ∙ range_all_every (column_stored c.args.a.now c.args.i) c.args.n
    ∙ columns_are c.args.a.now c.args.i c.requires.0 c.args.n c.requires.1 c.requires.2
