use Prim.Native.Nat.{ℕ}
use mathlib.Core.Path.{◌∙◌}
use native.Mathlib.Omega.{arith}
use borrow.Author.Rules.{rules}
use borrow.Author.Tests.{tests}
use Rattle.std.proofs.lemmas.Iterator.{YieldsList-from_range}
use Rattle.std.proofs.lemmas.Iterator.Search.{all_from_yields_List}
use Rattle.base.proofs.Lists.{range_all_every}
use Rattle.table.specs.Places.{row_size}
use Rattle.canonical.specs.Parts.{row_as_encoded}
use Rattle.canonical.proofs.rows_stored.Goals as goal

pub returns : goal.returns
returns c =
    all_from_yields_List (λ (i : ℕ). row_as_encoded c.args.a.now i row_size) _ _ _ c.all.ensures.ran
    (YieldsList-from_range 0 c.args.m c.args.m (cc) (omega arith))
    (λ x b q k. search (rules, tests))
    ∙ range_all_every (λ (i : ℕ). row_as_encoded c.args.a.now i row_size) c.args.m
