use Rattle.std.proofs.lemmas.Result.{err_from_is_err_and}
use Rattle.text.specs.Reader.{◌>>=◌, check}
use Rattle.text.proofs.Wordlaws.{same_as}
use Rattle.declaration.specs.Declaration.{declare}
use Rattle.declaration.proofs.declare.Goals as goal

pub returns-in_err-name-clause-said : goal.returns-in_err-name-clause-said
unfolding declare ◌>>=◌ check
returns-in_err-name-clause-said c =
    let p = err_from_is_err_and c.from_residual.result c.from_residual.ensures.1 in
    rw (p.1, p.2, c.read_name.ensures, c.in_err-name.was)

pub returns-then-not-is_fresh-clause-said : goal.returns-then-not-is_fresh-clause-said
unfolding declare ◌>>=◌ check
returns-then-not-is_fresh-clause-said c =
    let s = same_as c.of.result.now c.args.q.now in
    rw (c.at.ensures, c.read_name.ensures, c.in_ok-name.was, ← c.of.ensures, ← s, ← c.eq.ensures, c.if-not-is_fresh.true)

pub returns-in_err-end-clause-said : goal.returns-in_err-end-clause-said
unfolding declare ◌>>=◌ check
returns-in_err-end-clause-said c =
    let p = err_from_is_err_and c.from_residual-in_err-end.result c.from_residual-in_err-end.ensures.1 in
    let s = same_as c.of.result.now c.args.q.now in
    rw (p.1, p.2, c.read_name.ensures, c.in_ok-name.was, ← c.of.ensures, ← s, ← c.eq.ensures, c.if-not-is_fresh.false, c.read_mark.ensures, c.in_err-end.was)

pub returns-clause-said : goal.returns-clause-said
unfolding declare ◌>>=◌ check
returns-clause-said c =
    let s = same_as c.of.result.now c.args.q.now in
    rw (c.read_name.ensures, c.in_ok-name.was, ← c.of.ensures, ← s, ← c.eq.ensures, c.if-not-is_fresh.false, c.read_mark.ensures, c.in_ok-end.was)
