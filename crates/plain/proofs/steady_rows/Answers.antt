use Rattle.memo.specs.Rows.{cell_at}
use Rattle.plain.proofs.Sets.{state_of, steady_by}
use Rattle.plain.proofs.steady_rows.Goals as goal

pub returns : goal.returns
unfolding cell_at state_of
returns c = steady_by _ _ c.firm_rows.ensures
