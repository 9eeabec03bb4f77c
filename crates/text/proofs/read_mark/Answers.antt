use Rattle.text.specs.Reader.{mark, ◌>>=◌}
use Rattle.text.proofs.Readlaws.{mark_at, fault_is}
use Rattle.text.proofs.read_mark.Goals as goal

pub returns-then-one_at : goal.returns-then-one_at
unfolding mark ◌>>=◌
returns-then-one_at c = rw (c.skip_from-i.ensures, mark_at c.args.text.now c.skip_from-i.result c.args.c, ← c.one_at.ensures, c.if-one_at.true)

pub returns : goal.returns
unfolding mark ◌>>=◌
returns c = rw (
  c.skip_from-i.ensures,
  mark_at c.args.text.now c.skip_from-i.result c.args.c,
  ← c.one_at.ensures,
  c.if-one_at.false,
  c.fault_at.ensures,
  fault_is,
)
