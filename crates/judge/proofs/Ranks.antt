-- What the search compares is what the two orders of a pair give. Assumes nothing.
use Prim.Native.Nat.{ℕ, suc, ◌/◌, ◌%◌, ◌<◌}
use mathlib.Core.Path.{◌≡◌, sym, ◌∙◌}
use mathlib.Core.Logic.{◌≢◌}
use mathlib.Core.Bool.{not}
use native.Mathlib.Omega.{arith}
use Rattle.value.specs.Value.{rank_of, same_value}
use Rattle.table.specs.Table.{Table}
use Rattle.orders.specs.Verdict.{first_output, second_output}
use Rattle.step.specs.Step.{step_of}
use Rattle.memo.specs.Rows.{cells, all_rows, Small}
use Rattle.memo.proofs.Others.{others_comm}
use Rattle.memo.proofs.Outputs.{first_is, second_is}
use Rattle.pair.specs.Search.{differs_by, differs_in, differs_at, output_at}
use Rattle.pair.proofs.Cases.{second_first}

module _ (t : Table) (small : Small t) (i j : ℕ) (li : i < t.inputs) (lj : j < t.inputs) (ne : i ≢ j) (r : ℕ) where
  pub output_is : output_at t i j (r / 27) (r / 9 % 3) (r / 3 % 3) (r % 3) ≡ rank_of (first_output t.inputs (step_of t) (suc i) (suc j) r)
  unfolding output_at
  output_is = sym (first_is t small i j r li lj ne)

  pub other_is : output_at t j i (r / 27) (r / 3 % 3) (r / 9 % 3) (r % 3) ≡ rank_of (second_output t.inputs (step_of t) (suc i) (suc j) r)
  unfolding output_at
  other_is = rw (others_comm (cells t) (all_rows t) j i t.inputs (r / 27)) (sym (second_is t small i j r li lj ne ∙ second_first t (cells t) i j _ _ _ _ _ _))

  ex : r % 27 / 9 ≡ r / 9 % 3
  ex = omega arith

  ey : r % 27 / 3 % 3 ≡ r / 3 % 3
  ey = omega arith

  eo : r % 27 % 3 ≡ r % 3
  eo = omega arith

  -- a candidate differs exactly where the outputs of the two orders do
  pub differs_is : differs_at t i j r
      ≡ not (same_value (first_output t.inputs (step_of t) (suc i) (suc j) r) (second_output t.inputs (step_of t) (suc i) (suc j) r))
  unfolding differs_at differs_in differs_by same_value
  differs_is = rw (ex, ey, eo, first_is t small i j r li lj ne, second_is t small i j r li lj ne)
