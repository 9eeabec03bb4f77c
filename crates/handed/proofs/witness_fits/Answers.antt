use Rattle.handed.specs.Handed.{witness_fits}
use Rattle.handed.proofs.Values.{differ_is}
use Rattle.handed.proofs.witness_fits.Goals as goal

-- `handed::witness_fits` meets its contract. Assumes nothing.

pub returns : goal.returns
unfolding witness_fits
returns c = let d = differ_is in
    rw (
      d _ _ _ c.ne-differ.ensures,
      d _ _ _ c.ne-changed_second.ensures,
      d _ _ _ c.ne-changed_first.ensures,
      c.divide.ensures,
      c.input_at-2.ensures,
      c.input_at.ensures,
      c.from-j.ensures,
      c.from-i.ensures,
    )
