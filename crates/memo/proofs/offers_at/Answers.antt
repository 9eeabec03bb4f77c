use mathlib.Core.Path.{sym, ap, ◌∙◌}
use Rattle.symbol.specs.Masks.{offers}
use Rattle.table.specs.Area.{decode}
use Rattle.memo.proofs.Offers.{column_symbol, column_state}
use Rattle.memo.proofs.offers_at.Goals as goal

pub returns-then-k-inputs : goal.returns-then-k-inputs
returns-then-k-inputs c = let h = rw c.inputs.ensures at c.if-k-inputs.true in c.from.ensures ∙ c.offers_in.ensures ∙ ap offers (sym (column_symbol _ _ _ h))

pub returns : goal.returns
returns c =
    let h = rw c.inputs.ensures at c.if-k-inputs.false in
    let e = ap offers (column_state (decode c.args.area.now) c.args.i c.args.k h) in
    cc
