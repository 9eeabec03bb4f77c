use Rattle.std.proofs.Common.{sym, ◌∙◌, arith}
use Rattle.ports.specs.Ports.{all}
use Rattle.ports.proofs.Flags.{find_within}
use Rattle.ports.proofs.Keeping.{names_few}
use Rattle.ports.proofs.Ports.undeclared.Goals as goal

pub bounds-declared-port : goal.bounds-declared-port
bounds-declared-port c =
    let p = c.args.self.now in
    omega (arith, find_within c.args.name.now (all p) c.in_ok-port.port (sym c.position.ensures ∙ c.in_ok-port.was), names_few p.names p.inputs)
