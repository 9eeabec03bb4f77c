use Prim.Native.Nat.{ℕ, ◌%◌}
use mathlib.Core.Path.{◌≡◌, ◌∙◌}
use lib.Dec.{eqb}
use lib.ListN.{get_or}
use borrow.Author.Rules.{rules}
use native.Mathlib.Omega.{arith}
use Rattle.base.specs.Search.{found}
use Rattle.base.proofs.Search.{found_same}
use Rattle.base.proofs.Chains.{found_from_find}
use Rattle.formed.proofs.Sets.{set_edge}
use Rattle.formed.proofs.Cells.edge.Goals as goal

pub returns : goal.returns
returns c = λ t i p.
    let test = λ (k : ℕ). eqb (get_or c.args.self.now.columns k 0 % 8) 0 in
    let first : c.find.result ≡ found c.args.n test =
    found_from_find test c.args.n _ _ _ (cc) _ (λ x b u h. search rules) c.find.ensures.ran in
    first ∙ found_same _ _ _ (λ k h. set_edge _ _ (p.columns k (omega (arith, c.requires))))
