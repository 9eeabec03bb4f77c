use Rattle.std.proofs.Common.{◌-◌}
use Rattle.grammar.specs.Header.{list_room}
use Rattle.ports.specs.Ports.{all}
use Rattle.ports.proofs.Steps.{Listing}
use Rattle.ports.proofs.Ports.read_list.Given as goal

abbrev pub invariant-loop : goal.invariant-loop
invariant-loop l = Listing l.text l.at (all l.self) l.fn.declared l.up l.i (list_room - l.counter)
