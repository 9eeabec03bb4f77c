use Prim.Native.Nat.{ℕ, ◌/◌, ◌%◌}
use mathlib.Core.Path.{◌≡◌}
use Rattle.value.specs.Value.{rank_of, value_of}
use Rattle.symbol.specs.Match.{result_of}
use Rattle.table.specs.Table.{row_at}
use Rattle.table.specs.Area.{decode}
use Rattle.memo.specs.Outputs.{Low}
use Rattle.memo.proofs.Each.{Each}
use Rattle.memo.proofs.outputs_of.Given as goal

abbrev pub invariant-loop-c : goal.invariant-loop-c
invariant-loop-c l = Low l.outputs × Each 0 (λ (k x : ℕ). x ≡ rank_of (result_of (row_at (decode l.area) (k / 3)).output (value_of (k % 3)))) 192 l.outputs l.c
