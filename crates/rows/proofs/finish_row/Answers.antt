use mathlib.Core.List.{append-nil}
use Rattle.text.specs.Reader.{◌>>=◌}
use Rattle.text.proofs.Readlaws.{passed_on}
use Rattle.writing.specs.Written.{row_from}
use Rattle.rows.specs.Drawn.{row_tail}
use Rattle.rows.proofs.finish_row.Goals as goal

pub returns-in_err-i : goal.returns-in_err-i
returns-in_err-i c = rw (c.read_colon.ensures, c.in_err-i.was) (passed_on c.args.text.now _ _ _ _ c.from_residual.ensures.1)

pub returns-in_err-state : goal.returns-in_err-state
unfolding row_tail ◌>>=◌
returns-in_err-state c =
    rw (c.read_colon.ensures, c.in_ok-i.was, c.read_state.ensures, c.in_err-state.was)
    (passed_on c.args.text.now _ _ _ _ c.from_residual-in_err-state.ensures.1)

pub returns-in_err-output : goal.returns-in_err-output
unfolding row_tail ◌>>=◌
returns-in_err-output c =
    rw (c.read_colon.ensures, c.in_ok-i.was, c.read_state.ensures, c.in_ok-state.was, c.read_output.ensures, c.in_err-output.was)
    (passed_on c.args.text.now _ _ _ _ c.from_residual-in_err-output.ensures.1)

pub returns-in_err-end : goal.returns-in_err-end
unfolding row_tail ◌>>=◌
returns-in_err-end c =
    rw (
      c.read_colon.ensures,
      c.in_ok-i.was,
      c.read_state.ensures,
      c.in_ok-state.was,
      c.read_output.ensures,
      c.in_ok-output.was,
      c.read_mark.ensures,
      c.in_err-end.was,
    )
    (passed_on c.args.text.now _ _ _ _ c.from_residual-in_err-end.ensures.1)

pub returns : goal.returns
unfolding row_tail ◌>>=◌ row_from
returns c =
    rw (
      c.read_colon.ensures,
      c.in_ok-i.was,
      c.read_state.ensures,
      c.in_ok-state.was,
      c.read_output.ensures,
      c.in_ok-output.was,
      c.read_mark.ensures,
      c.in_ok-end.was,
      append-nil,
      c.write_row.ensures,
    )
