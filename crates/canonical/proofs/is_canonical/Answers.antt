use Prim.Native.Nat.{min}
use mathlib.Core.Path.{◌≡◌}
use native.Mathlib.Omega.{arith}
use lib.ListN.{length}
use Rattle.std.proofs.lemmas.Grind.{common_steps}
use Rattle.base.specs.Limits.{row_limit}
use Rattle.table.specs.Area.{decode}
use Rattle.canonical.proofs.Parts.{whole_tests}
use Rattle.canonical.proofs.is_canonical.Goals as goal

pub returns-then-rows_stored : goal.returns-then-rows_stored
returns-then-rows_stored c =
    let few : c.min-m.result ≡ min (length (decode c.args.a.now).rows) row_limit = rw c.rows.ensures at c.min-m.ensures in
    grind (arith, common_steps, whole_tests c.args.a.now c.min-m.result few)

pub returns-else-rows_stored : goal.returns-else-rows_stored
returns-else-rows_stored c =
    let few : c.min-m.result ≡ min (length (decode c.args.a.now).rows) row_limit = rw c.rows.ensures at c.min-m.ensures in
    grind (arith, common_steps, whole_tests c.args.a.now c.min-m.result few)
