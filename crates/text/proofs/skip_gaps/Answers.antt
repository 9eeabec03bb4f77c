use Rattle.std.proofs.Common.{◌∙◌, sym, arith, drop, length-drop}
use Rattle.text.proofs.Blanklaws.{gap_le, skip_past}
use Rattle.text.proofs.Wordlaws.{rest_is}
use Rattle.text.proofs.skip_gaps.Goals as goal

pub overflow_add-i : goal.overflow_add-i
overflow_add-i c =
    let l = c.loop-i in
    let t = c.args.text.now in
    omega (arith, rw (rest_is l.i t) at c.gap.ensures, gap_le (drop l.i t), length-drop l.i t)

pub loop-i-preserved : goal.loop-i-preserved
loop-i-preserved c =
    let l = c.loop-i in
    let t = c.args.text.now in
    l.invariant ∙ skip_past t l.i c.gap.result (sym (rw (rest_is l.i t) at c.gap.ensures)) (omega arith)
