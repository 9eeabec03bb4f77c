use Rattle.std.proofs.Common.{◌≡◌, ◌-◌}
use Rattle.base.specs.Limits.{input_limit}
use Rattle.ports.specs.Ports.{all}
use Rattle.ports.proofs.Steps.{Going}
use Rattle.ports.proofs.Ports.read_inputs.Given as goal

abbrev pub invariant-loop : goal.invariant-loop
invariant-loop l = (l.ports.inputs ≡ l.counter) × Going l.text l.at l.output (all l.ports) l.i (input_limit - l.counter)
