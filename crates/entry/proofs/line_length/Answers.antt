use mathlib.Core.Path.{sym, ◌∙◌}
use native.Mathlib.Omega.{arith}
use Rattle.entry.proofs.Fields.{decimal_few, line_short, line_long}
use Rattle.handed.specs.Handed.{handed}
use Rattle.handed.proofs.Fit.{parts_of, name_short}
use Rattle.entry.proofs.line_length.Goals as goal

-- `entry::line_length` meets its contract. Assumes nothing.

pub overflow_mul-result : goal.overflow_mul-result
overflow_mul-result c = let p = parts_of (handed c.args.verdict) (sym c.fits.ensures ∙ c.if-not-fits.false) in omega (arith, p.few_inputs)

pub overflow_add-result : goal.overflow_add-result
overflow_add-result c =
    let v = c.args.verdict in
    let p = parts_of (handed v) (sym c.fits.ensures ∙ c.if-not-fits.false) in
    omega (arith, p.few_inputs, name_short v.name.now p.named, decimal_few v.inputs, decimal_few v.rows, c.decimal_length.ensures, c.decimal_length-2.ensures)

pub overflow_add-result-in-Dependent : goal.overflow_add-result-in-Dependent
overflow_add-result-in-Dependent c =
    let v = c.args.verdict in
    let p = parts_of (handed v) (sym c.fits.ensures ∙ c.if-not-fits.false) in
    omega (arith, p.few_inputs, name_short v.name.now p.named, decimal_few v.inputs, decimal_few v.rows, c.decimal_length.ensures, c.decimal_length-2.ensures)

pub returns-in-Independent : goal.returns-in-Independent
returns-in-Independent c =
    line_short (handed c.args.verdict) _ _ (sym c.fits.ensures ∙ c.if-not-fits.false) c.decimal_length.ensures c.decimal_length-2.ensures c.in-Independent.is

pub returns-in-Dependent : goal.returns-in-Dependent
returns-in-Dependent c =
    line_long (handed c.args.verdict) _ _ _ (sym c.fits.ensures ∙ c.if-not-fits.false) c.decimal_length.ensures c.decimal_length-2.ensures c.in-Dependent.is
