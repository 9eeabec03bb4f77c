use Rattle.memo.proofs.Offers.{from_none, from_room, from_more, from_all}
use Rattle.memo.proofs.cell_row.Goals as goal

pub loop-i-init : goal.loop-i-init
loop-i-init c = from_none _ _ _ c.rows-i.ensures

pub add_row-requires : goal.add_row-requires
add_row-requires c = let p = c.requires in
    (c.loop-i.invariant.long, from_room _ _ _ _ c.loop-i.invariant c.loop-i-test.true p.rows)

pub loop-i-preserved : goal.loop-i-preserved
loop-i-preserved c = from_more _ _ _ _ _ _ c.loop-i-test.true c.loop-i.invariant c.offers_at.ensures c.add_row.ensures

pub returns : goal.returns
returns c = from_all _ _ _ _ c.loop-i-test.false c.loop-i.invariant
