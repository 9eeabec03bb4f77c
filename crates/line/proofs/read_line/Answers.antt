use Rattle.line.proofs.Lines.{told_back}
use Rattle.line.proofs.read_line.Goals as goal

-- `line::read_line` meets its contract. Assumes nothing.

pub returns : goal.returns
returns c =
    told_back c.args.line.now _ c.field-name.ensures (rw c.field.ensures at c.number-inputs.ensures) (rw c.field-2.ensures at c.number-rows.ensures)
    c.finding-finding.ensures
