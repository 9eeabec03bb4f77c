use Rattle.std.proofs.Common.{sym, ◌∙◌}
use Rattle.text.proofs.Readlaws.{fault_is}
use Rattle.fields.proofs.Piecelaws.{mark_still, colon_is, colon_extra}
use Rattle.fields.proofs.read_colon.Goals as goal

pub returns-then-symbol_at : goal.returns-then-symbol_at
returns-then-symbol_at c =
    let a = c.args in
    colon_extra a.text.now _ a.at c.skip_from-p.ensures a.edge (sym c.symbol_at.ensures ∙ c.if-symbol_at.true) ∙ rw c.at.ensures

pub returns-then-one_at : goal.returns-then-one_at
returns-then-one_at c =
    let a = c.args in
    colon_is a.text.now _ a.at c.skip_from-p.ensures a.edge (sym c.symbol_at.ensures ∙ c.if-symbol_at.false)
    ∙ rw (mark_still a.text.now _ a.at c.skip_from-p.ensures 58, ← c.one_at.ensures, c.if-one_at.true)

pub returns : goal.returns
returns c =
    let a = c.args in
    colon_is a.text.now _ a.at c.skip_from-p.ensures a.edge (sym c.symbol_at.ensures ∙ c.if-symbol_at.false)
    ∙ rw (
      mark_still a.text.now _ a.at c.skip_from-p.ensures 58,
      ← c.one_at.ensures,
      c.if-one_at.false,
      c.fault_at.ensures,
      fault_is,
    )
