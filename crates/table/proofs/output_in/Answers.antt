use native.Mathlib.Omega.{arith}
use Rattle.table.proofs.Encoding.{decode_output}
use Rattle.table.proofs.output_in.Goals as goal

pub returns-then-i-rows : goal.returns-then-i-rows
returns-then-i-rows c =
    rw (decode_output c.args.a.now c.args.i (omega (arith, c.rows.ensures)), ← c.byte_in_row.ensures) c.output_of.ensures
