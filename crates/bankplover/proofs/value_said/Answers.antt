use Rattle.bankplover.specs.Books.{value_said}
use Rattle.bankplover.proofs.value_said.Goals as goal

pub returns : goal.returns
unfolding value_said
returns c = rw (← c.small.ensures, ← c.value_in.ensures)
