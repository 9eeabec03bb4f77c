use Prim.Native.Nat.{ℕ, ◌+◌, ◌-◌}
use mathlib.Core.Path.{◌≡◌, sym, ◌∙◌}
use lib.ListN.{length, replicate}
use native.Mathlib.Omega.{arith}
use Rattle.table.specs.Places.{area_size}
use Rattle.writing.specs.Written.{head_of, head_written}
use Rattle.writing.proofs.Headlaws.{fits_of, head_is}
use Rattle.writing.proofs.write_head.Goals as goal

pub returns-then-not-head_fits : goal.returns-then-not-head_fits
unfolding head_of head_written
returns-then-not-head_fits c = rw (← c.if-not-head_fits.ensures)

pub returns : goal.returns
unfolding head_of head_written
returns c =
    let fits = fits_of c.args.a.now c.args.name.now c.args.inputs (sym c.if-not-head_fits.ensures) in
    let size : 1 + length c.args.name.now - 1 ≡ length c.args.name.now = omega arith in
    let zeros : c.fill.new.self ≡ replicate {A = ℕ} area_size 0 = c.fill.ensures.after (λ y e. e) ∙ rw fits.long in
    rw (← c.if-not-head_fits.ensures, size, zeros, c.copy_from_slice.ensures.after, c.kind_byte.ensures, c.to_byte.ensures)
    (head_is c.args.name.now c.args.sequential c.args.inputs c.args.start fits.short)
