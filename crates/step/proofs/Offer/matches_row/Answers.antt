use Prim.Native.Nat.{ℕ}
use mathlib.Core.Path.{◌≡◌}
use borrow.Author.Rules.{rules}
use Rattle.base.specs.Search.{every}
use Rattle.base.proofs.Chains.{every_from_all}
use Rattle.symbol.specs.Match.{match_field}
use Rattle.table.specs.Area.{decode}
use Rattle.table.specs.Table.{row_at, symbol_at}
use Rattle.table.specs.Match.{field_of, columns_match, row_matches}
use Rattle.step.proofs.Offer.matches_row.Goals as goal

pub returns : goal.returns
unfolding row_matches columns_match
returns c =
    let o = c.args.self.now in
    let test = λ (k : ℕ). match_field (field_of (symbol_at (row_at (decode c.args.a.now) c.args.i) k) o.values o.column o.from k) in
    let all : c.all.result ≡ every c.inputs.result test = every_from_all test c.inputs.result _ _ _ (cc) _ (λ x b q h. search rules) c.all.ensures.ran in
    rw (c.level_matches.ensures, c.state_in.ensures, all, c.inputs.ensures)
