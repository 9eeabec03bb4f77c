use native.Mathlib.Omega.{arith}
use Rattle.memo.specs.Rows.{cell_at}
use Rattle.lanes.proofs.Outer.{outer_plain, outer_none, outer_no, outer_last, outer_same, outer_seen}
use Rattle.lanes.proofs.+outer_agree.Goals as goal
use Rattle.lanes.proofs.+outer_agree.Goals.{else-b-a-via-then-b-a+else-not-outer_agree-2, else-b-a-via-else-b-a}

pub returns-then-has_all : goal.returns-then-has_all
unfolding cell_at
returns-then-has_all t c = outer_plain _ _ _ _ _ _ _ c.requires.3 (c.has_all.ensures c.if-has_all.true)

pub returns-in_default : goal.returns-in_default
unfolding cell_at
returns-in_default t c = outer_none _ _ _ _ _ _ _ (rw c.in_default.is at c.last_other.ensures.0) c.lanes_agree.ensures

pub returns-then-not-outer_agree : goal.returns-then-not-outer_agree
unfolding cell_at
returns-then-not-outer_agree t c =
    let top = rw c.in-Some.is at c.last_other.ensures.0 in
    outer_no _ _ _ _ _ _ _ top 0 _ (omega arith) c.if-not-outer_agree.true c.outer_agree.ensures

pub returns-then-not-outer_agree-2 : goal.returns-then-not-outer_agree-2
unfolding cell_at
returns-then-not-outer_agree-2 t c =
    let top = rw c.in-Some.is at c.last_other.ensures.0 in
    outer_no _ _ _ _ _ _ _ top 1 _ (omega arith) c.if-not-outer_agree-2.true c.outer_agree-then-b-a.ensures

pub returns-then-seen : goal.returns-then-seen
unfolding cell_at
returns-then-seen t c =
    let top = rw c.in-Some.is at c.last_other.ensures.0 in
    let first = c.outer_agree.ensures.sound c.if-not-outer_agree.false in
    outer_seen _ _ _ _ _ _ _ top c.if-seen.true first
    (elim c.else-b-a.branch [
      | else-b-a-via-then-b-a+else-not-outer_agree-2 w ↦ w.outer_agree-then-b-a.ensures.sound w.if-not-outer_agree-2.false
      | else-b-a-via-else-b-a w ↦ outer_same _ _ _ _ _ _ _ w.if-b-a.false first
    ])

pub returns-else-seen : goal.returns-else-seen
unfolding cell_at
returns-else-seen t c =
    let top = rw c.in-Some.is at c.last_other.ensures.0 in
    let first = c.outer_agree.ensures.sound c.if-not-outer_agree.false in
    outer_last _ _ _ _ _ _ _ top _ first
    (elim c.else-b-a.branch [
      | else-b-a-via-then-b-a+else-not-outer_agree-2 w ↦ w.outer_agree-then-b-a.ensures.sound w.if-not-outer_agree-2.false
      | else-b-a-via-else-b-a w ↦ outer_same _ _ _ _ _ _ _ w.if-b-a.false first
    ])
    c.outer_agree-else-seen.ensures
