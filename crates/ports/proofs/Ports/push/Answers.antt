use Rattle.std.proofs.Common.{◌+◌, ◌∙◌, arith, length-set}
use Rattle.ports.specs.Names.{names_of}
use Rattle.ports.proofs.Flags.{distinct_snoc}
use Rattle.ports.proofs.Keeping.{names_more}
use Rattle.ports.proofs.Ports.push.Goals as goal

pub invariant_of-self-2 : goal.invariant_of-self-2
invariant_of-self-2 c =
    let p = c.args.self.now in
    record {
      long = length-set p.names (p.inputs + 1) c.args.name ∙ p.long;
      few = omega arith;
      distinct = rw (names_more p.names p.inputs c.args.name (omega arith)) (distinct_snoc c.args.name.now
          (names_of p.names p.inputs) p.distinct c.requires.other);
    }
