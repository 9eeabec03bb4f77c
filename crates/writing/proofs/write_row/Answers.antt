use Prim.Native.Nat.{◌+◌, ◌-◌, ◌*◌, ◌≤◌}
use mathlib.Core.Path.{◌≡◌, sym, ◌∙◌}
use native.Mathlib.Omega.{arith}
use lib.ListN.{length, get_or, length-take}
use borrow.Author.Rules.{rules}
use Rattle.base.proofs.Patched.{patched_listed}
use Rattle.table.specs.Places.{inputs_at, count_at, rows_at, row_size}
use Rattle.table.specs.Area.{row_byte}
use Rattle.table.proofs.Encoding.{decode_inputs, decode_count}
use Rattle.writing.specs.Written.{row_from, row_written}
use Rattle.writing.proofs.Headlaws.{room_of}
use Rattle.writing.proofs.Rowlaws.{row_left}
use Rattle.writing.proofs.write_row.Goals as goal

pub returns-then-not-has_room : goal.returns-then-not-has_room
unfolding row_written
returns-then-not-has_room c = rw (← c.if-not-has_room.ensures)

pub overflow_mul-at : goal.overflow_mul-at
overflow_mul-at c =
    omega (arith, (room_of _ (sym c.if-not-has_room.ensures)).rows, c.rows.ensures, decode_count c.args.a.now)

pub overflow_add-at : goal.overflow_add-at
overflow_add-at c =
    omega (arith, (room_of _ (sym c.if-not-has_room.ensures)).rows, c.rows.ensures, decode_count c.args.a.now)

pub overflow_add-row : goal.overflow_add-row
overflow_add-row c =
    omega (arith, (room_of _ (sym c.if-not-has_room.ensures)).rows, c.rows.ensures, decode_count c.args.a.now)

pub slice_bounds-row-end : goal.slice_bounds-row-end
slice_bounds-row-end c =
    let room = room_of _ (sym c.if-not-has_room.ensures) in
    let fits : rows_at + c.rows.result * row_size + row_size ≤ length c.args.a.now
    = omega (arith, room.long, room.rows, c.rows.ensures, decode_count c.args.a.now) in
    search rules

pub slice_bounds-symbols-end : goal.slice_bounds-symbols-end
slice_bounds-symbols-end c =
    omega (arith, (room_of _ (sym c.if-not-has_room.ensures)).inputs, c.inputs-n.ensures, decode_inputs c.args.a.now)

pub slice_bounds-fill_row-end : goal.slice_bounds-fill_row-end
slice_bounds-fill_row-end c =
    simp length-take (omega (arith, (room_of _ (sym c.if-not-has_room.ensures)).inputs, c.inputs-n.ensures, decode_inputs c.args.a.now))

pub returns : goal.returns
unfolding row_written row_from
returns c =
    let a = c.args.a.now in
    let room = room_of a (sym c.if-not-has_room.ensures) in
    let r = row_from (get_or a inputs_at 0) c.args.symbols c.args.state c.args.output in
    let inputs : c.inputs-n.result ≡ get_or a inputs_at 0 = c.inputs-n.ensures ∙ decode_inputs a in
    let rows : c.rows.result ≡ get_or a count_at 0 = c.rows.ensures ∙ decode_count a in
    let size : rows_at + c.rows.result * row_size + row_size - (rows_at + c.rows.result * row_size) ≡ row_size = omega arith in
    let written = patched_listed (row_byte r) (rows_at + get_or a count_at 0 * row_size) row_size a (omega (arith, room.long, room.rows)) in
    rw (size, c.fill_row.ensures, inputs, rows, ← c.if-not-has_room.ensures) (row_left a _ r room.long room.rows written)
