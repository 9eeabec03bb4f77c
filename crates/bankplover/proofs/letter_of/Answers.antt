use Rattle.bankplover.specs.Books.{letter_of}
use Rattle.bankplover.proofs.letter_of.Goals as goal

pub returns-in-Independent : goal.returns-in-Independent
unfolding letter_of
returns-in-Independent c = rw c.in-Independent.is

pub returns-in-Dependent : goal.returns-in-Dependent
unfolding letter_of
returns-in-Dependent c = rw c.in-Dependent.is
