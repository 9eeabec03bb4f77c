use native.Mathlib.Omega.{arith}
use Rattle.cube.proofs.Matching.{two_columns, three_columns}
use Rattle.cube.proofs.row_lanes.Goals as goal

pub lanes_in-p-requires : goal.lanes_in-p-requires
lanes_in-p-requires c = (omega arith, omega (arith, c.offer.ensures), omega arith)

pub lanes_in-q-requires : goal.lanes_in-q-requires
lanes_in-q-requires c = (omega arith, omega (arith, c.offer-2.ensures), omega arith)

pub returns-then-memo-lt3 : goal.returns-then-memo-lt3
returns-then-memo-lt3 c = two_columns _ _ _ _ _ _ _ _ _ (omega arith) c.offer.ensures.0 c.offer-2.ensures.0 c.lanes_in-p.ensures c.lanes_in-q.ensures

pub lanes_in-v-requires : goal.lanes_in-v-requires
lanes_in-v-requires c = (omega arith, omega (arith, c.offer-3.ensures), omega arith)

pub returns : goal.returns
returns c = three_columns _ _ _ _ _ _ _ _ _ _ _ (omega arith) c.offer.ensures.0 c.offer-2.ensures.0 c.offer-3.ensures.0 c.lanes_in-p.ensures
    c.lanes_in-q.ensures c.lanes_in-v.ensures
