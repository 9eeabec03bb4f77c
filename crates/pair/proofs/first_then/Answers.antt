use Rattle.memo.specs.Pair.{first_then}
use Rattle.memo.specs.Rows.{cell_at}
use Rattle.pair.proofs.first_then.Goals as goal

pub returns : goal.returns
unfolding first_then cell_at
returns c = (λ t M. rw (← c.entry-between.ensures.0 t M) (c.entry.ensures.0 t M), c.entry.ensures.1)
