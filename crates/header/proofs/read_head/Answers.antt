use Rattle.std.proofs.Common.{◌∙◌, []}
use Rattle.std.proofs.lemmas.Result.{err_from_is_err_and}
use Rattle.base.specs.Limits.{input_limit}
use Rattle.text.specs.Reader.{◌>>=◌}
use Rattle.grammar.specs.Header.{port_list, declared}
use Rattle.header.specs.Heads.{head}
use Rattle.header.proofs.Steps.{ports_refused, ports_got, sized}
use Rattle.header.proofs.read_head.Goals as goal

pub returns-in_err-i : goal.returns-in_err-i
unfolding head port_list declared ◌>>=◌
returns-in_err-i c =
    let p = err_from_is_err_and c.from_residual.result c.from_residual.ensures.1 in
    rw (p.1, p.2, c.read_mark.ensures, c.in_err-i.was)

pub returns-in_err-output : goal.returns-in_err-output
unfolding head port_list declared ◌>>=◌
returns-in_err-output c =
    let p = err_from_is_err_and c.from_residual-in_err-output.result c.from_residual-in_err-output.ensures.1 in
    rw (p.1, p.2, c.read_mark.ensures, c.in_ok-i.was, c.read_name.ensures, c.in_err-output.was)

pub returns-in_err-j : goal.returns-in_err-j
unfolding head port_list declared ◌>>=◌
returns-in_err-j c =
    let p = err_from_is_err_and c.from_residual-in_err-j.result c.from_residual-in_err-j.ensures.1 in
    rw (p.1, p.2, c.read_mark.ensures, c.in_ok-i.was, c.read_name.ensures, c.in_ok-output.was, c.read_mark-2.ensures, c.in_err-j.was)

pub returns-in_err-ports : goal.returns-in_err-ports
unfolding head port_list declared ◌>>=◌
returns-in_err-ports c =
    let p = err_from_is_err_and c.from_residual-in_err-ports.result c.from_residual-in_err-ports.ensures.1 in
    let x = ports_refused input_limit _ [] _ _ _ _ (rw c.of.ensures at c.in_err-ports.ensures) in
    rw (p.1, p.2, c.read_mark.ensures, c.in_ok-i.was, c.read_name.ensures, c.in_ok-output.was, c.read_mark-2.ensures, c.in_ok-j.was, x)

pub returns-in_err-m : goal.returns-in_err-m
unfolding head port_list declared ◌>>=◌
returns-in_err-m c =
    let p = err_from_is_err_and c.from_residual-in_err-m.result c.from_residual-in_err-m.ensures.1 in
    let x = ports_got input_limit _ [] _ _ _ _ _ (rw c.of.ensures at c.in_ok-ports.ensures) in
    rw (
      p.1,
      p.2,
      c.read_mark.ensures,
      c.in_ok-i.was,
      c.read_name.ensures,
      c.in_ok-output.was,
      c.read_mark-2.ensures,
      c.in_ok-j.was,
      x.0,
      c.read_mark-3.ensures,
      c.in_err-m.was,
    )

pub returns : goal.returns
unfolding head port_list declared ◌>>=◌
returns c =
    let x = ports_got input_limit _ [] _ _ _ _ _ (rw c.of.ensures at c.in_ok-ports.ensures) in
    rw (
      c.read_mark.ensures,
      c.in_ok-i.was,
      c.read_name.ensures,
      c.in_ok-output.was,
      c.read_mark-2.ensures,
      c.in_ok-j.was,
      x.0,
      c.read_mark-3.ensures,
      c.in_ok-m.was,
    )
    (sized c.in_ok-ports.ports _ _ _ x.1 ∙ c.read_declarations.ensures)
