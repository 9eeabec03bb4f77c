use Rattle.memo.specs.Rows.{cell_at}
use Rattle.pair.proofs.Steps.{entry_stays, entry_goes}
use Rattle.pair.proofs.entry.Goals as goal

pub returns-then-x-d : goal.returns-then-x-d
unfolding cell_at
returns-then-x-d c = (λ t M. entry_stays t _ _ _ _ _ _ c.if-x-d.true, c.requires.3)

pub returns : goal.returns
unfolding cell_at
returns c = (λ t M. entry_goes t _ _ _ _ _ _ _ M.small M.cells_are c.requires.3 c.if-x-d.false (c.out_by.ensures.0 t M), c.out_by.ensures.1)
