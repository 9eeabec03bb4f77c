use Rattle.std.proofs.Common.{◌∙◌, arith, length-set, get_or}
use Rattle.table.specs.Places.{inputs_at}
use Rattle.rows.proofs.Columns.{column_refused, column_more, columns_read}
use Rattle.rows.proofs.read_row.Goals as goal

pub returns-in_err-s : goal.returns-in_err-s
returns-in_err-s c =
    let l = c.loop-column in
    column_refused c.args.text.now _ _ _ l.symbols _ _ l.column l.invariant.0 c.loop-column-test.true c.read_column.result c.read_column.ensures
    _ c.in_err-s.was _ _ _ c.from_residual.ensures.1

pub loop-column-preserved : goal.loop-column-preserved
loop-column-preserved c =
    let l = c.loop-column in (
      column_more c.args.text.now _ _ _ l.symbols _ _ l.column l.invariant.0 c.loop-column-test.true c.read_column.result c.read_column.ensures
          _ _ c.in_ok-s.was c.is_edge.result c.is_edge.ensures (omega (arith, l.invariant.2, c.requires.0)),
      omega arith,
      length-set l.symbols l.column c.in_ok-s.s ∙ l.invariant.2,
    )

pub returns : goal.returns
returns c =
    let l = c.loop-column in
    rw (columns_read c.args.text.now _ _ _ _ _ _ l.column l.invariant.0 c.loop-column-test.false (get_or c.args.a.now inputs_at 0)
    (omega (arith, c.requires.1, l.invariant.1)))
    c.finish_row.ensures
