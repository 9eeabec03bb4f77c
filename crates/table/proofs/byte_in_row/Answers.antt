use native.Mathlib.Omega.{arith}
use Rattle.table.specs.Places.{count_at}
use Rattle.table.proofs.Encoding.{decode_count}
use Rattle.table.proofs.byte_in_row.Goals as goal

pub overflow_mul-i : goal.overflow_mul-i
overflow_mul-i c = omega (arith, c.type_inv.a count_at, decode_count c.args.a.now, c.requires.row)

pub overflow_add-i : goal.overflow_add-i
overflow_add-i c = omega (arith, c.type_inv.a count_at, decode_count c.args.a.now, c.requires.row)

pub overflow_add-i-2 : goal.overflow_add-i-2
overflow_add-i-2 c =
    omega (arith, c.type_inv.a count_at, decode_count c.args.a.now, c.requires.row, c.requires.place)
