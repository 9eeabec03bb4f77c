use Rattle.formed.proofs.Sets.{states_by}
use Rattle.formed.proofs.Cells.meets.Goals as goal

pub returns-then-sets_meet : goal.returns-then-sets_meet
returns-then-sets_meet c = λ t i j few p q.
    rw (states_by _ _ _ _ p.state q.state, ← c.sets_meet.ensures, c.if-sets_meet.true) (c.columns_meet.ensures t i j few p q)

pub returns-else-sets_meet : goal.returns-else-sets_meet
returns-else-sets_meet c = λ t i j few p q.
    rw (states_by _ _ _ _ p.state q.state, ← c.sets_meet.ensures, c.if-sets_meet.false)
