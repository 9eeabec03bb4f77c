use Rattle.std.proofs.Common.{◌∙◌, sym, arith, drop, length-drop}
use Rattle.text.proofs.Blanklaws.{line_le, close_some}
use Rattle.text.proofs.Wordlaws.{rest_is}
use Rattle.text.proofs.gap.Goals as goal

pub overflow_add-result : goal.overflow_add-result
overflow_add-result c =
    let s = c.args.s.now in
    omega (arith, rw (rest_is 2 s) at c.to_line.ensures, line_le (drop 2 s), length-drop 2 s)

pub overflow_add-result-in-Some : goal.overflow_add-result-in-Some
overflow_add-result-in-Some c =
    let s = c.args.s.now in
    omega (arith, close_some (drop 2 s) c.in-Some.m (sym (rw (rest_is 2 s) at c.to_close.ensures) ∙ c.in-Some.is), length-drop 2 s)
