use Rattle.pair.proofs.Cases.{second_first}
use Rattle.pair.proofs.agree.Goals as goal

pub returns : goal.returns
returns c = λ t M.
    let s = c.turned.ensures in
    let k = c.turned-2.ensures in
    let turned = rw (s.0, s.1, s.2, s.3, s.4, k.0, k.1, k.2) at (c.first_then-2.ensures.0 t M) in
    rw (second_first t _ _ _ _ _ _ _ _ _, ← c.first_then.ensures.0 t M, ← turned)
