use Rattle.base.specs.Listed.{listed}
use Rattle.bankplover.specs.Books.{entry_number}
use Rattle.bankplover.proofs.entry_numbers.Goals as goal

pub returns : goal.returns
unfolding entry_number listed
returns c = rw (c.from-letter.ensures, c.letter_of.ensures, c.witness_numbers.ensures)
