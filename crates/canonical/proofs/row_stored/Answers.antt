use Prim.Native.Nat.{◌-◌, ◌*◌, ◌≤◌}
use mathlib.Core.Path.{◌≡◌}
use native.Mathlib.Omega.{arith}
use Rattle.std.proofs.lemmas.Grind.{common_steps}
use Rattle.base.specs.Limits.{input_limit}
use Rattle.table.specs.Places.{count_at, state_at, row_place}
use Rattle.table.specs.Area.{decode}
use Rattle.table.proofs.Encoding.{decode_count}
use Rattle.canonical.proofs.Parts.{row_tests}
use Rattle.canonical.proofs.row_stored.Goals as goal

pub overflow_mul-at : goal.overflow_mul-at
overflow_mul-at c = omega (arith, c.type_inv.a count_at, decode_count c.args.a.now, c.requires)

pub overflow_add-at : goal.overflow_add-at
overflow_add-at c = omega (arith, c.type_inv.a count_at, decode_count c.args.a.now, c.requires)

pub overflow_add-at-then-columns_stored : goal.overflow_add-at-then-columns_stored
overflow_add-at-then-columns_stored c = omega (arith, c.type_inv.a count_at, decode_count c.args.a.now, c.requires)

pub overflow_add-at-then-columns_stored-2 : goal.overflow_add-at-then-columns_stored-2
overflow_add-at-then-columns_stored-2 c = omega (arith, c.type_inv.a count_at, decode_count c.args.a.now, c.requires)

pub returns-then-stores_level : goal.returns-then-stores_level
returns-then-stores_level c =
    let few : (decode c.args.a.now).inputs ≤ input_limit = omega (arith, c.inputs-n.ensures) in
    let size : row_place c.args.i state_at - row_place c.args.i (2 * c.inputs-n.result) ≡ state_at - 2 * c.inputs-n.result = omega arith in
    grind (arith, common_steps, row_tests c.args.a.now c.args.i c.requires few)

pub returns-else-stores_level : goal.returns-else-stores_level
returns-else-stores_level c =
    let few : (decode c.args.a.now).inputs ≤ input_limit = omega (arith, c.inputs-n.ensures) in
    let size : row_place c.args.i state_at - row_place c.args.i (2 * c.inputs-n.result) ≡ state_at - 2 * c.inputs-n.result = omega arith in
    grind (arith, common_steps, row_tests c.args.a.now c.args.i c.requires few)
