use Prim.Native.Nat.{ℕ}
use mathlib.Core.Path.{◌≡◌}
use borrow.Author.Rules.{rules}
use Rattle.base.specs.Search.{every}
use Rattle.base.proofs.Chains.{every_from_all}
use Rattle.symbol.specs.Match.{meet}
use Rattle.symbol.proofs.Offers.{meet_offers}
use Rattle.table.specs.Area.{decode}
use Rattle.table.specs.Table.{row_at, symbol_at}
use Rattle.formed.specs.Tests.{columns_meet}
use Rattle.formed.proofs.Sets.{states_by}
use Rattle.formed.proofs.Row.meets.Goals as goal

pub returns-then-sets_meet : goal.returns-then-sets_meet
unfolding columns_meet
returns-then-sets_meet c =
    let row = c.args.self.now in
    let t = decode row.area.now in
    let test = λ (k : ℕ). meet (symbol_at (row_at t c.args.other.now.index) k) (symbol_at (row_at t row.index) k) in
    let all : c.all.result ≡ every c.inputs.result test =
    every_from_all test c.inputs.result _ _ _ (cc) _ (λ x b q h. search (rules, meet_offers)) c.all.ensures.ran in
    let states = states_by _ _ _ _ (rw c.requires.same at c.state.ensures) c.requires.own in
    rw (states, ← c.sets_meet.ensures, c.if-sets_meet.true) (rw c.inputs.ensures at all)

pub returns-else-sets_meet : goal.returns-else-sets_meet
returns-else-sets_meet c =
    let states = states_by _ _ _ _ (rw c.requires.same at c.state.ensures) c.requires.own in
    rw (states, ← c.sets_meet.ensures, c.if-sets_meet.false)
