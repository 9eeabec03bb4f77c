use Rattle.std.proofs.lemmas.Result.{err_from_is_err_and}
use Rattle.text.specs.Reader.{◌>>=◌, check}
use Rattle.ports.specs.Ports.{all, new_name}
use Rattle.ports.proofs.Flags.{member_find}
use Rattle.ports.proofs.Ports.read_new.Goals as goal

pub returns-in_err-name : goal.returns-in_err-name
unfolding new_name ◌>>=◌ check
returns-in_err-name c = let p = err_from_is_err_and c.from_residual.result c.from_residual.ensures.1 in rw (p.1, p.2, c.read_name.ensures, c.in_err-name.was)

pub returns-in-Some : goal.returns-in-Some
unfolding new_name ◌>>=◌ check
returns-in-Some c =
    let m = member_find c.of.result.now (all c.args.self.now) c.position.result c.position.ensures in
    rw (c.at.ensures, c.read_name.ensures, c.in_ok-name.was, ← c.of.ensures, m, c.in-Some.is)

pub returns-in-None : goal.returns-in-None
unfolding new_name ◌>>=◌ check
returns-in-None c =
    let m = member_find c.of.result.now (all c.args.self.now) c.position.result c.position.ensures in
    rw (c.read_name.ensures, c.in_ok-name.was, ← c.of.ensures, m, c.in-None.is)
