use Rattle.std.proofs.Common.{◌-◌}
use Rattle.grammar.specs.Header.{declaration_room}
use Rattle.header.proofs.Steps.{Going}
use Rattle.header.proofs.read_declarations.Given as goal

abbrev pub invariant-loop : goal.invariant-loop
invariant-loop l = Going l.text l.at l.ports l.declared l.reg l.i (declaration_room - l.counter)
