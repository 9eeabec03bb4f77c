use Prim.Native.Nat.{◌≤◌, ◌-◌}
use mathlib.Core.Path.{◌≡◌}
use Rattle.symbol.specs.Masks.{mask_from}
use Rattle.plain.specs.Plain.{firm_at}
use Rattle.plain.proofs.firm_rows.Given as goal

abbrev pub invariant-loop-k : goal.invariant-loop-k
invariant-loop-k l = (l.k ≤ l.fn.rows) × (l.firm ≡ mask_from (firm_at l.outputs) l.k (l.fn.rows - l.k))
