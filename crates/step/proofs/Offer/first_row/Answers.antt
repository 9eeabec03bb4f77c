use Prim.Native.Nat.{ℕ}
use mathlib.Core.Path.{◌≡◌}
use borrow.Author.Rules.{rules}
use Rattle.base.specs.Search.{found}
use Rattle.base.proofs.Chains.{found_from_find}
use Rattle.table.specs.Area.{decode}
use Rattle.table.specs.Table.{row_at}
use Rattle.table.specs.Match.{row_matches}
use Rattle.step.proofs.Offer.first_row.Goals as goal

pub returns : goal.returns
returns c =
    let t = decode c.args.a.now in
    let o = c.args.self.now in
    let test = λ (i : ℕ). row_matches t.inputs (row_at t i) o.values o.column o.from o.old in
    let here : c.find.result ≡ found c.rows.result test = found_from_find test c.rows.result _ _ _ (cc) _ (λ x b q h. search rules) c.find.ensures.ran in
    rw (here, c.rows.ensures)
