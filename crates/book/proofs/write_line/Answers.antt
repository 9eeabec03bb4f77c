use mathlib.Core.Path.{◌≡◌}
use native.Mathlib.Omega.{arith}
use Rattle.base.proofs.Patched.{patched_none}
use Rattle.book.proofs.Writing.{patched_bytes}
use Rattle.book.proofs.write_line.Goals as goal

-- `book::write_line` meets its contract: k bytes of the line stand in the book. Assumes nothing.

pub loop-k-init : goal.loop-k-init
loop-k-init c = patched_none _ _ _

pub returns : goal.returns
returns c =
    let e : c.loop-k.k ≡ c.args.size = omega (arith, c.loop-k-test.false, c.loop-k.auto.k-end) in
    patched_bytes _ c.args.at c.args.book.now c.loop-k.book c.args.size (rw e at c.loop-k.invariant) (omega (arith, c.requires))
