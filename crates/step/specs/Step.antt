-- One step of a table: document 01, "One step and one order", and source 004.
use Rattle.std.specs.Prelude.{ℕ, ◌-◌, cond, List, Option, ltb, length}
use Rattle.base.specs.Search.{first, found}
use Rattle.value.specs.declared.Ternary.{Ternary}
use Rattle.value.specs.declared.Ternary.TheVariants.{Vx}
use Rattle.value.specs.Value.{same_value}
use Rattle.symbol.specs.Match.{result_of}
use Rattle.table.specs.Table.{Table, row_at}
use Rattle.table.specs.Match.{row_matches}
use Rattle.orders.specs.Vectors.{at, put}
use Rattle.orders.specs.Order.{Step}

-- the row that matches the inputs at v, with column k offered as a change from `from`, and the old output; past the last where none does
unfoldable pub row_for : Table → List Ternary → ℕ → Ternary → Ternary → ℕ
row_for t v k from old = first (length t.rows) (λ (i : ℕ). row_matches t.inputs (row_at t i) v k from old)

-- the same, if there is one
abbrev pub row_with : Table → List Ternary → ℕ → Ternary → Ternary → Option ℕ
row_with t v k from old = found (length t.rows) (λ (i : ℕ). row_matches t.inputs (row_at t i) v k from old)

-- what row i answers, or `other` where it is past the last
unfoldable pub answer_or : Table → Ternary → ℕ → Ternary → Ternary
answer_or t old i other = cond (ltb i (length t.rows)) (result_of (row_at t i).output old) other

-- Input j has changed from `from`; v has it at its current value and all others at their previous one.
-- A level row comes first, for it no column is offered as a change; then a row with its edge in column j; then x.
unfoldable pub answer_of : Table → List Ternary → ℕ → Ternary → Ternary → Ternary
answer_of t v j from old = answer_or t old (row_for t v t.inputs from old) (answer_or t old (row_for t v (j - 1) from old) Vx)

-- considering input j: where its previous and current value are equal the output stays as it was
unfoldable pub step_of : Table → Step
step_of t prev cur j old = cond (same_value (at prev j) (at cur j)) old (answer_of t (put prev j (at cur j)) j (at prev j) old)
