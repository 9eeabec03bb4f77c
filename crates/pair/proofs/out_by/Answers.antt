use mathlib.Core.Path.{sym, ◌∙◌}
use native.Mathlib.Omega.{arith}
use Rattle.pair.proofs.Steps.{by_level, by_edge, by_neither}
use Rattle.pair.proofs.out_by.Goals as goal

pub returns-in-Some : goal.returns-in-Some
returns-in-Some c =
    let level = sym c.in-Some.is ∙ c.lowest_row.ensures in
    let answer = c.output_of.ensures in
    (λ t M. answer.0 t M ∙ by_level t _ _ M.outputs_are M.rows_are _ _ _ c.requires _ level, answer.1)

pub returns-in-Some-lowest_row : goal.returns-in-Some-lowest_row
returns-in-Some-lowest_row c =
    let level = sym c.in_default.is ∙ c.lowest_row.ensures in
    let edge = sym c.in-Some-lowest_row.is ∙ c.lowest_row-2.ensures in
    let answer = c.output_of-in-Some-lowest_row.ensures in
    (λ t M. answer.0 t M ∙ by_edge t _ _ M.outputs_are M.rows_are _ _ _ c.requires _ level edge, answer.1)

pub returns-in-None : goal.returns-in-None
returns-in-None c =
    let level = sym c.in_default.is ∙ c.lowest_row.ensures in
    let edge = sym c.in-None.is ∙ c.lowest_row-2.ensures in
    (λ t M. by_neither t _ _ M.outputs_are M.rows_are _ _ _ level edge, omega arith)
