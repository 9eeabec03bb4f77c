use Rattle.std.proofs.Common.{sym, ◌∙◌}
use Rattle.text.specs.Reader.{◌>>=◌}
use Rattle.text.proofs.Readlaws.{passed_on}
use Rattle.fields.proofs.Piecelaws.{pair_is, byte_is}
use Rattle.fields.proofs.read_written.Goals as goal

pub returns-in_err-from : goal.returns-in_err-from
unfolding ◌>>=◌
returns-in_err-from c =
    let t = c.args.text.now in
    rw (pair_is t c.args.at (sym c.one_at.ensures ∙ c.if-one_at.true), c.read_inner.ensures, c.in_err-from.was)
    (passed_on t _ _ _ _ c.from_residual.ensures.1)

pub returns-in_err-to : goal.returns-in_err-to
unfolding ◌>>=◌
returns-in_err-to c =
    let t = c.args.text.now in
    rw (
      pair_is t c.args.at (sym c.one_at.ensures ∙ c.if-one_at.true),
      c.read_inner.ensures,
      c.in_ok-from.was,
      c.read_inner-then-one_at.ensures,
      c.in_err-to.was,
    )
    (passed_on t _ _ _ _ c.from_residual-in_err-to.ensures.1)

pub returns-in_err-end : goal.returns-in_err-end
unfolding ◌>>=◌
returns-in_err-end c =
    let t = c.args.text.now in
    rw (
      pair_is t c.args.at (sym c.one_at.ensures ∙ c.if-one_at.true),
      c.read_inner.ensures,
      c.in_ok-from.was,
      c.read_inner-then-one_at.ensures,
      c.in_ok-to.was,
      c.read_mark.ensures,
      c.in_err-end.was,
    )
    (passed_on t _ _ _ _ c.from_residual-in_err-end.ensures.1)

pub returns-then-one_at : goal.returns-then-one_at
unfolding ◌>>=◌
returns-then-one_at c =
    let t = c.args.text.now in
    rw (
      pair_is t c.args.at (sym c.one_at.ensures ∙ c.if-one_at.true),
      c.read_inner.ensures,
      c.in_ok-from.was,
      c.read_inner-then-one_at.ensures,
      c.in_ok-to.was,
      c.read_mark.ensures,
      c.in_ok-end.was,
    )

pub returns : goal.returns
returns c = byte_is c.args.text.now c.args.at (sym c.one_at.ensures ∙ c.if-one_at.false) ∙ c.read_byte.ensures
