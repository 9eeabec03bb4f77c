use borrow.Author.Rules.{rules}
use lib.Dec.{eqb}
use lib.ListN.{get_or}
use Prim.Native.Nat.{ℕ, ◌+◌}
use mathlib.Core.List.{List, [], ◌∷◌, ◌++◌}
use Rattle.base.proofs.Chains.{every_from_all}
use Rattle.files.specs.Files.{LF}
use Rattle.entry.specs.Entry.{entry}
use Rattle.entry.specs.Draft.{draft}
use Rattle.handed.specs.Handed.{handed}
use Rattle.listing.specs.Next.{stands_in}
use Rattle.listing.proofs.stands.Goals as goal

pub returns : goal.returns
unfolding stands_in
returns c =
    let line : List ℕ = entry c.args.at (draft (handed c.args.verdict)) ++ (LF ∷ []) in
    every_from_all (λ (k : ℕ). eqb (get_or c.args.book.now (c.args.at + k) 0) (get_or line k 0)) c.args.size
    _ _ _ (cc) _ (λ x b q k. search rules) c.all.ensures.ran
