-- The rows that answer. Assumes nothing.
use Prim.Native.Nat.{ℕ, zero, suc, ◌-◌}
use mathlib.Core.Path.{◌≡◌, refl}
use mathlib.Core.Bool.{Bool, true, false, cond}
use mathlib.Core.List.{List}
use native.Mathlib.Omega.{arith}
use Rattle.std.specs.Prelude.{Option, Some, None}
use Rattle.std.specs.Bool.{then_some}
use Rattle.std.specs.Option.{MatchOption, option_or}
use Rattle.value.specs.declared.Ternary.{Ternary}
use Rattle.value.specs.declared.Ternary.TheVariants.{Vx}
use Rattle.value.specs.Value.{same_value, rank_of}
use Rattle.symbol.specs.Match.{result_of}
use Rattle.table.specs.Table.{Table, row_at}
use Rattle.step.specs.Step.{row_for, row_with, answer_or, answer_of, step_of}

-- no input has the number 0
pub step_none : (t : Table) (prev cur : List Ternary) (j : ℕ) (old : Ternary) → j ≡ 0 → old ≡ step_of t prev cur j old
unfolding step_of same_value rank_of
step_none t prev cur zero old h = refl
step_none t prev cur (suc k) old h = absurd (omega arith)

-- ---- the rows that answer

pub either_row : (P : Type 0) (l e o : Option ℕ) → MatchOption l P (λ i. o ≡ Some i) → (P → o ≡ e) → o ≡ option_or l e
either_row P None e o h f = f h
either_row P (Some i) e o h f = h

module _ (t : Table) (old : Ternary) where
  row_by : (p q : Bool) (x y i : ℕ) → Some i ≡ option_or (then_some p x) (then_some q y) →
      result_of (row_at t i).output old ≡ cond p (result_of (row_at t x).output old) (cond q (result_of (row_at t y).output old) Vx)
  row_by true q x y i e = let s : i ≡ x = cc in rw s
  row_by false true x y i e = let s : i ≡ y = cc in rw s
  row_by false false x y i e = cc

  x_by : (p q : Bool) (x y : ℕ) → None ≡ option_or (then_some p x) (then_some q y) →
      Vx ≡ cond p (result_of (row_at t x).output old) (cond q (result_of (row_at t y).output old) Vx)
  x_by true q x y e = cc
  x_by false true x y e = cc
  x_by false false x y e = refl

  module _ (v : List Ternary) (j : ℕ) (from : Ternary) where
    -- a row that holds no edge, or else one with its edge in column j - 1
    abbrev pub either : Option ℕ
    either = option_or (row_with t v t.inputs from old) (row_with t v (j - 1) from old)

    pub row_answers : (i : ℕ) → Some i ≡ either → result_of (row_at t i).output old ≡ answer_of t v j from old
    unfolding answer_of answer_or row_for
    row_answers i e = row_by _ _ _ _ i e

    pub x_answers : None ≡ either → Vx ≡ answer_of t v j from old
    unfolding answer_of answer_or row_for
    x_answers e = x_by _ _ _ _ e
