use native.Mathlib.Omega.{arith}
use Rattle.handed.specs.Handed.{handed as told}
use Rattle.keeping.proofs.Standing.{ends_nowhere, ends_there, ends_inside, differs}
use Rattle.keeping.proofs.standing_end.Goals as goal

pub returns-in_err-size : goal.returns-in_err-size
returns-in_err-size c = rw c.from_residual.ensures (ends_nowhere _ _ _ c.in_err-size.ensures)

pub overflow_add-result : goal.overflow_add-result
overflow_add-result c =
    record { fits = omega (arith, ends_inside c.args.book.now c.args.at (told c.args.verdict) _ c.in_ok-size.ensures _ c.stands.ensures c.if-stands.true) }

pub returns-then-stands : goal.returns-then-stands
returns-then-stands c = ends_there _ _ _ _ c.in_ok-size.ensures _ c.stands.ensures c.if-stands.true

pub returns-else-stands : goal.returns-else-stands
returns-else-stands c = differs _ _ _ _ c.in_ok-size.ensures _ c.stands.ensures c.if-stands.false
