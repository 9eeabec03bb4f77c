use Rattle.std.proofs.Common.{◌∙◌, ◌+◌, drop}
use Rattle.text.specs.Blanks.{to_close}
use Rattle.text.proofs.Blanklaws.{adds_more, close_cons, starts_two}
use Rattle.text.proofs.to_close.Goals as goal

pub loop-i-preserved : goal.loop-i-preserved
loop-i-preserved c =
    let l = c.loop-i in
    let s = c.args.s.now in
    let r = drop l.i s in
    l.invariant
    ∙ rw (close_cons s l.i c.loop-i-test.true, ← starts_two 42 47 r, ← c.rest.ensures, ← c.starts_with.ensures.value, c.if-starts_with.false)
    (adds_more l.i (to_close (drop (l.i + 1) s)))
