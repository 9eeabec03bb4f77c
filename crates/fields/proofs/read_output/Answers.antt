use Rattle.std.proofs.Common.{◌∙◌}
use Rattle.text.proofs.Readlaws.{passed_on}
use Rattle.grammar.specs.Rows.{output_said}
use Rattle.fields.proofs.Piecelaws.{field_is, need_is}
use Rattle.fields.proofs.read_output.Goals as goal

pub returns-in_err-written : goal.returns-in_err-written
returns-in_err-written c =
    let a = c.args in
    field_is a.text.now _ a.at c.skip_from-p.ensures _ c.read_written.ensures (output_said a.sequential)
    ∙ rw c.in_err-written.was (passed_on a.text.now _ _ _ _ c.from_residual.ensures.1)

pub returns-in_err-output : goal.returns-in_err-output
returns-in_err-output c =
    let a = c.args in
    field_is a.text.now _ a.at c.skip_from-p.ensures _ c.read_written.ensures (output_said a.sequential)
    ∙ rw (c.in_ok-written.was, ← c.output_of.ensures, need_is a.text.now, ← c.at.ensures, ← c.ok_or.ensures.value, c.in_err-output.was)
    (passed_on a.text.now _ _ _ _ c.from_residual-in_err-output.ensures.1)

pub returns : goal.returns
returns c =
    let a = c.args in
    field_is a.text.now _ a.at c.skip_from-p.ensures _ c.read_written.ensures (output_said a.sequential)
    ∙ rw (c.in_ok-written.was, ← c.output_of.ensures, need_is a.text.now, ← c.at.ensures, ← c.ok_or.ensures.value, c.in_ok-output.was)
