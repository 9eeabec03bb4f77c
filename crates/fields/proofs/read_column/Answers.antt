use Rattle.std.proofs.Common.{sym, ◌∙◌}
use Rattle.text.proofs.Readlaws.{passed_on}
use Rattle.fields.proofs.Piecelaws.{need_is, column_is, column_few}
use Rattle.fields.proofs.read_column.Goals as goal

pub returns-then-one_at : goal.returns-then-one_at
returns-then-one_at c =
    let a = c.args in
    column_few a.text.now _ a.at c.skip_from-i.ensures a.edge (sym c.one_at.ensures ∙ c.if-one_at.true) ∙ rw c.at.ensures

pub returns-in_err-written : goal.returns-in_err-written
returns-in_err-written c =
    let a = c.args in
    column_is a.text.now _ a.at c.skip_from-i.ensures _ c.read_written.ensures a.edge (sym c.one_at.ensures ∙ c.if-one_at.false)
    ∙ rw c.in_err-written.was (passed_on a.text.now _ _ _ _ c.from_residual.ensures.1)

pub returns-in_err-s : goal.returns-in_err-s
returns-in_err-s c =
    let a = c.args in
    column_is a.text.now _ a.at c.skip_from-i.ensures _ c.read_written.ensures a.edge (sym c.one_at.ensures ∙ c.if-one_at.false)
    ∙ rw (c.in_ok-written.was, ← c.column_of.ensures, need_is a.text.now, ← c.at-2.ensures, ← c.ok_or.ensures.value, c.in_err-s.was)
    (passed_on a.text.now _ _ _ _ c.from_residual-in_err-s.ensures.1)

pub returns : goal.returns
returns c =
    let a = c.args in
    column_is a.text.now _ a.at c.skip_from-i.ensures _ c.read_written.ensures a.edge (sym c.one_at.ensures ∙ c.if-one_at.false)
    ∙ rw (c.in_ok-written.was, ← c.column_of.ensures, need_is a.text.now, ← c.at-2.ensures, ← c.ok_or.ensures.value, c.in_ok-s.was)
