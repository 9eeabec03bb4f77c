use Rattle.std.proofs.lemmas.Result.{err_from_is_err_and}
use Rattle.grammar.specs.Header.{initial}
use Rattle.text.specs.Reader.{◌>>=◌, check}
use Rattle.text.proofs.Wordlaws.{same_as}
use Rattle.declaration.proofs.read_initial.Goals as goal

pub returns-then-not-reg : goal.returns-then-not-reg
unfolding initial ◌>>=◌ check
returns-then-not-reg c = λ left h. rw (c.at.ensures, c.if-not-reg.true)

pub returns-then-not-none : goal.returns-then-not-none
unfolding initial ◌>>=◌ check
returns-then-not-none c = λ left h. rw (c.at-then-not-none.ensures, c.if-not-reg.false, h, c.if-not-none.true)

pub returns-in_err-name : goal.returns-in_err-name
unfolding initial ◌>>=◌ check
returns-in_err-name c = λ left h.
    let p = err_from_is_err_and c.from_residual.result c.from_residual.ensures.1 in
    rw (p.1, p.2, c.if-not-reg.false, h, c.if-not-none.false, c.read_name.ensures, c.in_err-name.was)

pub returns-then-not-is_output : goal.returns-then-not-is_output
unfolding initial ◌>>=◌ check
returns-then-not-is_output c = λ left h.
    let s = same_as c.of.result.now c.args.q.now in
    rw (
      c.at-then-not-is_output.ensures,
      c.if-not-reg.false,
      h,
      c.if-not-none.false,
      c.read_name.ensures,
      c.in_ok-name.was,
      ← c.of.ensures,
      ← s,
      ← c.eq-is_output.ensures,
      c.if-not-is_output.true,
    )

pub returns-in_err-i : goal.returns-in_err-i
unfolding initial ◌>>=◌ check
returns-in_err-i c = λ left h.
    let p = err_from_is_err_and c.from_residual-in_err-i.result c.from_residual-in_err-i.ensures.1 in
    let s = same_as c.of.result.now c.args.q.now in
    rw (
      p.1,
      p.2,
      c.if-not-reg.false,
      h,
      c.if-not-none.false,
      c.read_name.ensures,
      c.in_ok-name.was,
      ← c.of.ensures,
      ← s,
      ← c.eq-is_output.ensures,
      c.if-not-is_output.false,
      c.read_mark.ensures,
      c.in_err-i.was,
    )

pub returns-in_err-start : goal.returns-in_err-start
unfolding initial ◌>>=◌ check
returns-in_err-start c = λ left h.
    let p = err_from_is_err_and c.from_residual-in_err-start.result c.from_residual-in_err-start.ensures.1 in
    let s = same_as c.of.result.now c.args.q.now in
    rw (
      p.1,
      p.2,
      c.if-not-reg.false,
      h,
      c.if-not-none.false,
      c.read_name.ensures,
      c.in_ok-name.was,
      ← c.of.ensures,
      ← s,
      ← c.eq-is_output.ensures,
      c.if-not-is_output.false,
      c.read_mark.ensures,
      c.in_ok-i.was,
      c.skip_from.ensures,
      c.read_constant.ensures,
      c.in_err-start.was,
    )

pub returns-in_err-k : goal.returns-in_err-k
unfolding initial ◌>>=◌ check
returns-in_err-k c = λ left h.
    let p = err_from_is_err_and c.from_residual-in_err-k.result c.from_residual-in_err-k.ensures.1 in
    let s = same_as c.of.result.now c.args.q.now in
    rw (
      p.1,
      p.2,
      c.if-not-reg.false,
      h,
      c.if-not-none.false,
      c.read_name.ensures,
      c.in_ok-name.was,
      ← c.of.ensures,
      ← s,
      ← c.eq-is_output.ensures,
      c.if-not-is_output.false,
      c.read_mark.ensures,
      c.in_ok-i.was,
      c.skip_from.ensures,
      c.read_constant.ensures,
      c.in_ok-start.was,
      c.read_mark-2.ensures,
      c.in_err-k.was,
    )

pub returns-in_err-end : goal.returns-in_err-end
unfolding initial ◌>>=◌ check
returns-in_err-end c = λ left h.
    let p = err_from_is_err_and c.from_residual-in_err-end.result c.from_residual-in_err-end.ensures.1 in
    let s = same_as c.of.result.now c.args.q.now in
    rw (
      p.1,
      p.2,
      c.if-not-reg.false,
      h,
      c.if-not-none.false,
      c.read_name.ensures,
      c.in_ok-name.was,
      ← c.of.ensures,
      ← s,
      ← c.eq-is_output.ensures,
      c.if-not-is_output.false,
      c.read_mark.ensures,
      c.in_ok-i.was,
      c.skip_from.ensures,
      c.read_constant.ensures,
      c.in_ok-start.was,
      c.read_mark-2.ensures,
      c.in_ok-k.was,
      c.read_keyword.ensures,
      c.in_err-end.was,
    )

pub returns : goal.returns
unfolding initial ◌>>=◌ check
returns c = λ left h.
    let s = same_as c.of.result.now c.args.q.now in
    rw (
      c.if-not-reg.false,
      h,
      c.if-not-none.false,
      c.read_name.ensures,
      c.in_ok-name.was,
      ← c.of.ensures,
      ← s,
      ← c.eq-is_output.ensures,
      c.if-not-is_output.false,
      c.read_mark.ensures,
      c.in_ok-i.was,
      c.skip_from.ensures,
      c.read_constant.ensures,
      c.in_ok-start.was,
      c.read_mark-2.ensures,
      c.in_ok-k.was,
      c.read_keyword.ensures,
      c.in_ok-end.was,
    )
