use Rattle.pair.proofs.Cases.{agree_third}
use Rattle.pair.proofs.agree_for_each_old.Goals as goal

pub returns : goal.returns
returns c = λ t M e o h.
    let a = c.args in
    let s = a.start in
    let p = c.to.ensures in
    let q = c.to-2.ensures in
    let r = c.to-3.ensures in
    agree_third t a.memo.now.cells s.first s.second s.rest s.first_was s.second_was a.first_now a.second_now _ _ _
    (rw (p.0, p.1, p.2) at (c.agree.ensures t M))
    (rw (q.0, q.1, q.2) at (c.agree-2.ensures t M))
    (rw (r.0, r.1, r.2) at (c.agree-3.ensures t M))
    e o h
