use Prim.Native.Nat.{◌-◌}
use mathlib.Core.Path.{◌≡◌, sym, ◌∙◌}
use borrow.Author.Rules.{rules}
use Rattle.std.specs.Option.{option_or}
use Rattle.table.specs.Area.{decode}
use Rattle.step.specs.Step.{row_with}
use Rattle.step.proofs.Bridge.{either_row, row_answers, x_answers}
use Rattle.step.proofs.answer.Goals as goal

pub returns-in-Some : goal.returns-in-Some
returns-in-Some c =
    let t = decode c.args.a.now in
    let edge = row_with t c.args.v (c.args.j - 1) c.args.from c.args.old in
    let either : c.or_else.result ≡ option_or c.first_row.result edge = either_row _ _ edge _ c.or_else.ensures (λ h. search rules) in
    rw (c.result_of.ensures, c.output_in.ensures)
    (row_answers t c.args.old c.args.v c.args.j c.args.from _ (sym c.in-Some.is ∙ rw (c.first_row.ensures, c.inputs-no_column.ensures) at either))

pub returns-in-None : goal.returns-in-None
returns-in-None c =
    let t = decode c.args.a.now in
    let edge = row_with t c.args.v (c.args.j - 1) c.args.from c.args.old in
    let either : c.or_else.result ≡ option_or c.first_row.result edge = either_row _ _ edge _ c.or_else.ensures (λ h. search rules) in
    x_answers t c.args.old c.args.v c.args.j c.args.from (sym c.in-None.is ∙ rw (c.first_row.ensures, c.inputs-no_column.ensures) at either)
