use mathlib.Core.Path.{refl}
use native.Mathlib.Omega.{arith}
use borrow.Author.Rules.{rules}
use Rattle.std.specs.Prelude.{None, Ok, Err}
use Rattle.listing.proofs.Nexts.{tells}
use Rattle.keeping.specs.Keeping.{none_yet}
use Rattle.keeping.proofs.Turns.{read_more, refused_count}
use Rattle.keeping.proofs.count.Goals as goal

pub loop-next-init : goal.loop-next-init
loop-next-init c = (none_yet, omega arith, omega arith, search rules)

pub loop-next-smaller : goal.loop-next-smaller
loop-next-smaller c = let read = rw (c.in-Ok-Some.is, c.in-Ok-Some.field-0-is) at c.read.ensures in
    omega (arith, read_more _ _ _ _ _ _ c.loop-next.invariant.0 read)

pub loop-next-preserved : goal.loop-next-preserved
loop-next-preserved c = let read = rw (c.in-Ok-Some.is, c.in-Ok-Some.field-0-is) at c.read.ensures in
    let m = read_more _ _ _ _ _ _ c.loop-next.invariant.0 read in
    (m.0, m.2, omega (arith, m.1), search rules)

pub returns-in-Ok-None : goal.returns-in-Ok-None
returns-in-Ok-None c = let read = rw (c.in-Ok-None.is, c.in-Ok-None.field-0-is) at c.read.ensures in
    (_, c.loop-next.invariant.0, (tells _ _ _ (Ok None) _ read).0)

pub returns-in-Err : goal.returns-in-Err
returns-in-Err c = let read = rw c.in-Err.is at c.read.ensures in
    refused_count _ c.args.area.now _ _ _ _ _ (Err _) refl c.loop-next.invariant.0 read c.loop-next.invariant.3
