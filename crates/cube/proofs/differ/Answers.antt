use Rattle.cube.proofs.Comparing.{differ_by}
use Rattle.cube.proofs.differ.Goals as goal

pub returns : goal.returns
returns c = let p = c.requires in
    differ_by _ _ _ _ _ _ _ _ _ _ _ _ _ p.0 p.1 p.2 c.moved-p.ensures c.moved-q.ensures c.path.ensures c.path-2.ensures c.path-3.ensures c.path-4.ensures
