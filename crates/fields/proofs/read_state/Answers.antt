use Rattle.text.specs.Reader.{◌>>=◌}
use Rattle.text.proofs.Readlaws.{passed_on}
use Rattle.grammar.specs.Rows.{state, state_of}
use Rattle.fields.proofs.Piecelaws.{field_is, need_is}
use Rattle.fields.proofs.read_state.Goals as goal

pub returns-then-not-sequential : goal.returns-then-not-sequential
unfolding state
returns-then-not-sequential c = rw c.if-not-sequential.true

pub returns-in_err-written : goal.returns-in_err-written
unfolding state ◌>>=◌
returns-in_err-written c =
    let a = c.args in
    rw (c.if-not-sequential.false, field_is a.text.now _ a.at c.skip_from-p.ensures _ c.read_written.ensures state_of, c.in_err-written.was)
    (passed_on a.text.now _ _ _ _ c.from_residual.ensures.1)

pub returns-in_err-level : goal.returns-in_err-level
unfolding state ◌>>=◌
returns-in_err-level c =
    let a = c.args in
    rw (
      c.if-not-sequential.false,
      field_is a.text.now _ a.at c.skip_from-p.ensures _ c.read_written.ensures state_of,
      c.in_ok-written.was,
      ← c.state_of.ensures,
      need_is a.text.now,
      ← c.at.ensures,
      ← c.ok_or.ensures.value,
      c.in_err-level.was,
    )
    (passed_on a.text.now _ _ _ _ c.from_residual-in_err-level.ensures.1)

pub returns-in_err-end : goal.returns-in_err-end
unfolding state ◌>>=◌
returns-in_err-end c =
    let a = c.args in
    rw (
      c.if-not-sequential.false,
      field_is a.text.now _ a.at c.skip_from-p.ensures _ c.read_written.ensures state_of,
      c.in_ok-written.was,
      ← c.state_of.ensures,
      need_is a.text.now,
      ← c.at.ensures,
      ← c.ok_or.ensures.value,
      c.in_ok-level.was,
      c.read_mark.ensures,
      c.in_err-end.was,
    )
    (passed_on a.text.now _ _ _ _ c.from_residual-in_err-end.ensures.1)

pub returns : goal.returns
unfolding state ◌>>=◌
returns c =
    let a = c.args in
    rw (
      c.if-not-sequential.false,
      field_is a.text.now _ a.at c.skip_from-p.ensures _ c.read_written.ensures state_of,
      c.in_ok-written.was,
      ← c.state_of.ensures,
      need_is a.text.now,
      ← c.at.ensures,
      ← c.ok_or.ensures.value,
      c.in_ok-level.was,
      c.read_mark.ensures,
      c.in_ok-end.was,
    )
