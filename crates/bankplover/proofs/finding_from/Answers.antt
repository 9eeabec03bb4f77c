use Rattle.bankplover.specs.Books.{finding_from}
use borrow.Author.Tests.{eq-eqb, ne_eqb}
use Rattle.bankplover.proofs.finding_from.Goals as goal

pub returns-then-letter-eq73 : goal.returns-then-letter-eq73
unfolding finding_from
returns-then-letter-eq73 c = rw (eq-eqb _ _ c.if-letter-eq73.true)

pub returns : goal.returns
unfolding finding_from
returns c = rw (ne_eqb _ _ c.if-letter-eq73.false, ← c.witness_from.ensures)
