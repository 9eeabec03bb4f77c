use Rattle.text.specs.Reader.{either_mark, ◌>>=◌}
use Rattle.text.proofs.Readlaws.{either_at, fault_is}
use Rattle.text.proofs.read_either.Goals as goal

pub returns-then-one_at : goal.returns-then-one_at
unfolding either_mark ◌>>=◌
returns-then-one_at c = let a = c.args in
    rw (c.skip_from-i.ensures, either_at a.text.now c.skip_from-i.result a.c a.d, ← c.one_at.ensures, c.if-one_at.true)

pub returns-then-one_at-2 : goal.returns-then-one_at-2
unfolding either_mark ◌>>=◌
returns-then-one_at-2 c = let a = c.args in
    rw (
      c.skip_from-i.ensures,
      either_at a.text.now c.skip_from-i.result a.c a.d,
      ← c.one_at.ensures,
      c.if-one_at.false,
      ← c.one_at-2.ensures,
      c.if-one_at-2.true,
    )

pub returns : goal.returns
unfolding either_mark ◌>>=◌
returns c = let a = c.args in
    rw (
      c.skip_from-i.ensures,
      either_at a.text.now c.skip_from-i.result a.c a.d,
      ← c.one_at.ensures,
      c.if-one_at.false,
      ← c.one_at-2.ensures,
      c.if-one_at-2.false,
      c.fault_at.ensures,
      fault_is,
    )
