use native.Mathlib.Omega.{arith}
use Rattle.stored.specs.Stored.{level_of}
use Rattle.table.proofs.Encoding.{decode_state, decode_no_row}
use Rattle.table.proofs.state_byte.Goals as goal

pub returns-then-i-rows : goal.returns-then-i-rows
returns-then-i-rows c = rw (decode_state c.args.a.now c.args.i (omega (arith, c.rows.ensures)), c.byte_in_row.ensures)

pub returns-else-i-rows : goal.returns-else-i-rows
unfolding level_of
returns-else-i-rows c = rw (decode_no_row c.args.a.now c.args.i (omega (arith, c.rows.ensures)))
