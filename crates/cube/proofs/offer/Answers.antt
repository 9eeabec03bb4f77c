use native.Mathlib.Omega.{arith}
use borrow.Author.Tests.{eq-eqb, ne_eqb}
use Rattle.cube.proofs.offer.Goals as goal

pub returns-then-k-i : goal.returns-then-k-i
returns-then-k-i c = (rw (eq-eqb _ _ c.if-k-i.true), omega arith)

pub returns-else-k-i : goal.returns-else-k-i
returns-else-k-i c = (rw (ne_eqb _ _ c.if-k-i.false), omega arith)
