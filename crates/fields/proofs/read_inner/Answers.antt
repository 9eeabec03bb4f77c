use Rattle.text.specs.Reader.{◌>>=◌}
use Rattle.text.proofs.Readlaws.{passed_on}
use Rattle.grammar.specs.Rows.{saying}
use Rattle.fields.proofs.Piecelaws.{need_is}
use Rattle.fields.proofs.read_inner.Goals as goal

pub returns-in_err-written : goal.returns-in_err-written
unfolding saying ◌>>=◌
returns-in_err-written c =
    rw (c.skip_from-p.ensures, c.read_byte.ensures, c.in_err-written.was) (passed_on c.args.text.now _ _ _ _ c.from_residual.ensures.1)

pub returns-in_err-level : goal.returns-in_err-level
unfolding saying ◌>>=◌
returns-in_err-level c =
    let t = c.args.text.now in
    rw (
      c.skip_from-p.ensures,
      c.read_byte.ensures,
      c.in_ok-written.was,
      ← c.state_of.ensures,
      need_is t,
      ← c.at.ensures,
      ← c.ok_or.ensures.value,
      c.in_err-level.was,
    )
    (passed_on t _ _ _ _ c.from_residual-in_err-level.ensures.1)

pub returns : goal.returns
unfolding saying ◌>>=◌
returns c =
    let t = c.args.text.now in
    rw (
      c.skip_from-p.ensures,
      c.read_byte.ensures,
      c.in_ok-written.was,
      ← c.state_of.ensures,
      need_is t,
      ← c.at.ensures,
      ← c.ok_or.ensures.value,
      c.in_ok-level.was,
    )
