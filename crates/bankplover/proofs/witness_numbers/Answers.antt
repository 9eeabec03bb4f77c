use Rattle.base.specs.Listed.{listed}
use Rattle.bankplover.specs.Books.{witness_number}
use Rattle.bankplover.proofs.witness_numbers.Goals as goal

pub returns-in-Independent : goal.returns-in-Independent
unfolding witness_number listed
returns-in-Independent c = rw c.in-Independent.is

pub returns-in-Dependent : goal.returns-in-Dependent
unfolding witness_number listed
returns-in-Dependent c =
    rw (
      c.in-Dependent.is,
      c.from.ensures,
      c.from-in-Dependent.ensures,
      c.from-in-Dependent-2.ensures,
      c.from-in-Dependent-3.ensures,
      c.from-in-Dependent-4.ensures,
      c.from-in-Dependent-5.ensures,
      c.from-in-Dependent-6.ensures,
      c.to_byte.ensures,
      c.to_byte-in-Dependent.ensures,
      c.to_byte-in-Dependent-2.ensures,
      c.to_byte-in-Dependent-3.ensures,
      c.to_byte-in-Dependent-4.ensures,
    )
