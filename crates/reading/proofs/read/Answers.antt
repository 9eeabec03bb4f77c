use Rattle.std.proofs.lemmas.Result.{err_from_is_err_and}
use borrow.Author.Tests.{eq-eqb, ne_eqb, le-leb, lt-leb}
use Rattle.grammar.specs.Reading.{read}
use Rattle.reading.specs.Told.{read_into}
use Rattle.reading.proofs.Whole.{read_end, read_refused, read_table}
use Rattle.reading.proofs.read.Goals as goal

pub returns-then-other_size : goal.returns-then-other_size
unfolding read_into read
returns-then-other_size c = rw (c.at.ensures, ne_eqb _ _ c.if-other_size.true)

pub returns-then-text-gt-TEXT : goal.returns-then-text-gt-TEXT
unfolding read_into read
returns-then-text-gt-TEXT c = rw (c.at-then-text-gt-TEXT.ensures, eq-eqb _ _ c.if-other_size.false, lt-leb _ _ c.if-text-gt-TEXT.true)

pub returns-then-text-start : goal.returns-then-text-start
unfolding read_into read
returns-then-text-start c = rw (
  c.at-then-text-start.ensures,
  eq-eqb _ _ c.if-other_size.false,
  le-leb _ _ c.if-text-gt-TEXT.false,
  lt-leb _ _ c.if-text-start.true,
)

pub returns-then-text-i : goal.returns-then-text-i
returns-then-text-i c = read_end c.args.text.now c.args.start _ c.if-other_size.false c.if-text-gt-TEXT.false c.if-text-start.false c.skip_from-i.result c.skip_from-i.ensures c.if-text-i.true

pub returns-in_err-next : goal.returns-in_err-next
returns-in_err-next c =
    let p = err_from_is_err_and c.from_residual.result c.from_residual.ensures.1 in
    rw (p.1, p.2) (read_refused c.args.text.now c.args.start _ c.if-other_size.false c.if-text-gt-TEXT.false c.if-text-start.false c.skip_from-i.result c.skip_from-i.ensures c.if-text-i.false _ _ c.in_err-next.ensures)

pub returns : goal.returns
returns c =
    read_table c.args.text.now c.args.start _ c.if-other_size.false c.if-text-gt-TEXT.false c.if-text-start.false c.skip_from-i.result c.skip_from-i.ensures c.if-text-i.false _ _ c.in_ok-next.ensures _
    c.copy_from_slice.ensures.after
