use native.Mathlib.Omega.{arith}
use Rattle.stored.specs.Stored.{level_of, letter_of, symbol_of}
use Rattle.table.specs.Places.{inputs_at}
use Rattle.table.specs.Area.{symbol_in}
use Rattle.table.proofs.Encoding.{decode_inputs, decode_symbol, decode_no_symbol, decode_no_column}
use Rattle.table.proofs.symbol_bytes.Goals as goal
use Rattle.table.proofs.symbol_bytes.Goals.{else-i-rows-via-then-i-rows+else-k-inputs, else-i-rows-via-else-i-rows}

pub overflow_mul-k : goal.overflow_mul-k
overflow_mul-k c = omega (arith, c.type_inv.a inputs_at, decode_inputs c.args.a.now, c.inputs.ensures)

pub byte_in_row-requires-clause-place : goal.byte_in_row-requires-clause-place
byte_in_row-requires-clause-place c =
    omega (arith, c.type_inv.a inputs_at, decode_inputs c.args.a.now, c.inputs.ensures)

pub overflow_mul-k-then-k-inputs : goal.overflow_mul-k-then-k-inputs
overflow_mul-k-then-k-inputs c = omega (arith, c.type_inv.a inputs_at, decode_inputs c.args.a.now, c.inputs.ensures)

pub overflow_add-k : goal.overflow_add-k
overflow_add-k c = omega (arith, c.type_inv.a inputs_at, decode_inputs c.args.a.now, c.inputs.ensures)

pub byte_in_row-requires-then-k-inputs-clause-place : goal.byte_in_row-requires-then-k-inputs-clause-place
byte_in_row-requires-then-k-inputs-clause-place c =
    omega (arith, c.type_inv.a inputs_at, decode_inputs c.args.a.now, c.inputs.ensures)

pub returns-then-k-inputs : goal.returns-then-k-inputs
unfolding symbol_in
returns-then-k-inputs c =
    rw (
      decode_symbol c.args.a.now c.args.i c.args.k (omega (arith, c.rows.ensures)) (omega (arith, c.inputs.ensures)),
      c.byte_in_row.ensures,
      c.byte_in_row-then-k-inputs.ensures,
    )

pub returns-else-i-rows : goal.returns-else-i-rows
unfolding level_of letter_of symbol_of
returns-else-i-rows c =
    elim c.else-i-rows.branch [
      | else-i-rows-via-then-i-rows+else-k-inputs w ↦
          rw (decode_no_column c.args.a.now c.args.i c.args.k (omega (arith, c.rows.ensures)) (omega (arith, w.inputs.ensures)))
      | else-i-rows-via-else-i-rows w ↦ rw (decode_no_symbol c.args.a.now c.args.i c.args.k (omega (arith, c.rows.ensures)))
    ]
