use Prim.Native.Nat.{ℕ, ◌-◌}
use mathlib.Core.Path.{◌≡◌, ◌∙◌}
use mathlib.Core.Bool.{Bool, true, ◌&&◌}
use lib.Dec.{eqb}
use lib.ListN.{take, drop}
use borrow.Author.Rules.{rules}
use borrow.Author.Tests.{tests}
use Rattle.std.specs.List.{fold}
use Rattle.std.proofs.lemmas.Iterator.{YieldsList-from_slice}
use Rattle.std.proofs.lemmas.Iterator.Consumers.{fold_from_yields_List}
use Rattle.base.proofs.Lists.{fold_all}
use Rattle.canonical.proofs.Parts.{zero_part}
use Rattle.canonical.proofs.are_zero.Goals as goal

pub returns : goal.returns
returns c =
    let part = take (c.min-end.result - c.min.result) (drop c.min.result c.args.a.now) in
    let all : c.fold.result ≡ fold (λ (t : Bool) (b : ℕ). t && eqb b 0) true part =
    fold_from_yields_List _ (λ (t : Bool) (b : ℕ). t && eqb b 0) true _ c.fold.ensures.ran (YieldsList-from_slice part (cc))
    (λ t x b q k. search (rules, tests)) in
    all ∙ fold_all (λ (b : ℕ). eqb b 0) part ∙ zero_part c.args.a.now c.args.from c.args.to _ _ c.min-end.ensures c.min.ensures
