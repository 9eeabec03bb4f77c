use mathlib.Core.Path.{ap}
use mathlib.Core.List.{◌∷◌}
use lib.ListN.{length}
use Rattle.entry.proofs.Fields.{witness_lengths}
use Rattle.entry.proofs.line_byte.Goals as goal

-- `entry::line_byte` meets its contract. Assumes nothing.

pub byte_among-requires-in-Dependent : goal.byte_among-requires-in-Dependent
byte_among-requires-in-Dependent c =
    let v = c.args.verdict in
    rw (c.in-Dependent.is, ← c.decimal_length-inputs.ensures, ← c.decimal_length-rows.ensures)
    (ap (λ l. length v.name.now ∷ c.decimal_length-inputs.result ∷ c.decimal_length-rows.result ∷ l)
    (witness_lengths v.inputs c.in-Dependent.field-0))
