use Rattle.std.proofs.lemmas.Result.{err_from_is_err_and}
use Rattle.reading.proofs.Whole.{word_refused, name_refused, head_refused, head_begins, rows_refused, primitive_drawn}
use Rattle.reading.proofs.read_primitive.Goals as goal

pub returns-in_err-i : goal.returns-in_err-i
returns-in_err-i c =
    let p = err_from_is_err_and c.from_residual.result c.from_residual.ensures.1 in
    rw (p.1, p.2) (word_refused c.args.text.now c.args.at _ _ c.in_err-i.ensures)

pub returns-in_err-name : goal.returns-in_err-name
returns-in_err-name c =
    let p = err_from_is_err_and c.from_residual-in_err-name.result c.from_residual-in_err-name.ensures.1 in
    rw (p.1, p.2) (name_refused c.args.text.now c.args.at _ _ c.in_ok-i.ensures _ _ c.in_err-name.ensures)

pub returns-in_err-head : goal.returns-in_err-head
returns-in_err-head c =
    let p = err_from_is_err_and c.from_residual-in_err-head.result c.from_residual-in_err-head.ensures.1 in
    rw (p.1, p.2) (head_refused c.args.text.now c.args.at _ _ c.in_ok-i.ensures _ _ c.in_ok-name.ensures _ _ c.in_err-head.ensures)

pub read_rows-requires : goal.read_rows-requires
read_rows-requires c = head_begins c.args.text.now c.args.at _ _ c.in_ok-i.ensures _ _ c.in_ok-name.ensures _ _ c.in_ok-head.ensures _ _ _ c.requires c.of.ensures c.write_head.ensures

pub returns-in_err-k : goal.returns-in_err-k
returns-in_err-k c =
    let p = err_from_is_err_and c.from_residual-in_err-k.result c.from_residual-in_err-k.ensures.1 in
    rw (p.1, p.2)
    (rows_refused c.args.text.now c.args.at _ _ c.in_ok-i.ensures _ _ c.in_ok-name.ensures _ _ c.in_ok-head.ensures _ _ _ c.requires
    c.of.ensures c.write_head.ensures _ _ c.in_err-k.ensures)

pub returns : goal.returns
returns c =
    primitive_drawn c.args.text.now c.args.at _ _ c.in_ok-i.ensures _ _ c.in_ok-name.ensures _ _ c.in_ok-head.ensures _ _ _ c.requires
    c.of.ensures c.write_head.ensures _ _ c.in_ok-k.ensures _ _ _ c.read_keyword-2.ensures
