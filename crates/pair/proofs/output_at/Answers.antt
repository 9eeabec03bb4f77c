use Rattle.pair.proofs.Scans.{output_is}
use Rattle.pair.proofs.output_at.Goals as goal

pub returns : goal.returns
returns c =
    let a = c.at.ensures in
    let o = c.of.ensures in (
      λ t M. output_is t _ M _ _ _ _ o.2 o.3 _ _ _ _ _ _ (rw (o.0, o.1) at a.4) (rw (a.0, a.1, a.2, a.3, o.0, o.1) at (c.first_then.ensures.0 t M)),
      c.first_then.ensures.1,
    )
