use Prim.Native.Nat.{ℕ, ◌%◌}
use mathlib.Core.Path.{◌≡◌, ◌∙◌}
use mathlib.Core.Bool.{not, ◌&&◌, ◌||◌}
use lib.Dec.{eqb}
use lib.ListN.{get_or}
use borrow.Author.Rules.{rules}
use native.Mathlib.Omega.{arith}
use Rattle.std.specs.Prelude.{Some}
use Rattle.std.specs.Option.{option_eq}
use Rattle.base.specs.Search.{every}
use Rattle.base.proofs.Search.{every_same}
use Rattle.base.proofs.Chains.{every_from_all}
use Rattle.table.specs.Table.{row_at}
use Rattle.formed.specs.Tests.{columns_valid}
use Rattle.formed.proofs.Sets.{set_valid, same_edge}
use Rattle.formed.proofs.Cells.columns_valid.Goals as goal

pub returns : goal.returns
unfolding columns_valid
returns c = λ t i p.
    let set = λ (k : ℕ). get_or c.args.self.now.columns k 0 in
    let here = λ (k : ℕ). option_eq eqb (Some k) c.edge-edge.result in
    let test = λ (k : ℕ). not (eqb (set k) 0) && (not (eqb (set k % 8) 0) || here k) in
    let all : c.all.result ≡ every c.args.n test =
    every_from_all test c.args.n _ _ _ (cc) _ (λ x b u h. search rules) c.all.ensures.ran in
    all
    ∙ every_same _ _ _
    (λ k h. rw (c.edge-edge.ensures t i p, same_edge c.args.n (row_at t i) k h)
    (set_valid _ _ _ (p.columns k (omega (arith, c.requires)))))
