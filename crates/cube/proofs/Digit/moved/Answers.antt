use Rattle.cube.proofs.Weights.{moved_by}
use Rattle.cube.proofs.Digit.moved.Goals as goal

pub returns : goal.returns
returns c = moved_by _ c.args.self _ _ _ _ c.requires c.copied.ensures c.copied-2.ensures c.copied-3.ensures
