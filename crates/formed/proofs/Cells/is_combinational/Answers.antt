use borrow.Author.Rules.{rules}
use Rattle.stored.specs.Stored.{output_byte}
use Rattle.offers.proofs.Offers.{any_offers}
use Rattle.formed.specs.Tests.{combinational}
use Rattle.formed.proofs.Cells.is_combinational.Goals as goal

pub returns-then-self-eq-EVERY_VALUE : goal.returns-then-self-eq-EVERY_VALUE
unfolding combinational output_byte
returns-then-self-eq-EVERY_VALUE c = λ t i p.
    rw (any_offers, ← p.state, ← p.output, ← c.is_all_levels.ensures t i p) (search rules)

pub returns-else-self-eq-EVERY_VALUE : goal.returns-else-self-eq-EVERY_VALUE
unfolding combinational output_byte
returns-else-self-eq-EVERY_VALUE c = λ t i p.
    rw (any_offers, ← p.state, ← p.output, ← c.is_all_levels.ensures t i p) (search rules)
