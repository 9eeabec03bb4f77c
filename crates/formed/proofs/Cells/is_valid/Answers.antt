use borrow.Author.Tests.{eq-eqb}
use Rattle.formed.specs.Tests.{row_valid}
use Rattle.formed.proofs.Cells.is_valid.Goals as goal

pub returns-then-sequential : goal.returns-then-sequential
unfolding row_valid
returns-then-sequential c = λ t i p e.
    rw (eq-eqb _ _ e, ← c.columns_valid.ensures t i p, c.if-columns_valid.true, c.if-sequential.true)

pub returns-else-sequential : goal.returns-else-sequential
unfolding row_valid
returns-else-sequential c = λ t i p e.
    rw (eq-eqb _ _ e, ← c.columns_valid.ensures t i p, c.if-columns_valid.true)
    (rw (c.if-sequential.false, ← c.is_combinational.ensures t i p))

pub returns-else-columns_valid : goal.returns-else-columns_valid
unfolding row_valid
returns-else-columns_valid c = λ t i p e. rw (eq-eqb _ _ e, ← c.columns_valid.ensures t i p, c.if-columns_valid.false)
