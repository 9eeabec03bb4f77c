use mathlib.Core.Path.{sym, ◌∙◌}
use native.Mathlib.Omega.{arith}
use Rattle.handed.specs.Handed.{handed}
use Rattle.book.proofs.Appending.{at_tight, at_room}
use Rattle.book.proofs.append_at.Goals as goal

-- `book::append_at` meets its contract. Assumes nothing.

pub returns-then-full : goal.returns-then-full
returns-then-full c =
    let a = c.args in
    let z = sym c.in-Some.is ∙ c.line_length.ensures in
    rw c.at-then-full.ensures
    (at_tight a.book.now a.stated a.good (handed a.verdict) _ z _ c.limit-most.ensures
    (omega (arith, c.if-full.true, c.saturating_sub.ensures)))

pub returns : goal.returns
returns c =
    let a = c.args in
    let z = sym c.in-Some.is ∙ c.line_length.ensures in
    at_room a.book.now a.stated a.good (handed a.verdict) _ z _ c.limit-most.ensures (omega (arith, c.if-full.false, c.saturating_sub.ensures))
    _ _ c.max.ensures c.write_line.ensures
