-- What is kept of the rows that have been read.
use Rattle.std.specs.Prelude.{ℕ, ◌≤◌, ◌<◌, ◌≡◌, List, length, get_or}
use Rattle.base.specs.Limits.{input_limit}
use Rattle.symbol.specs.declared.Symbol.TheVariants.{Held}
use Rattle.symbol.specs.Masks.{offers}
use Rattle.table.specs.Table.{Table, row_at, symbol_at}
use Rattle.formed.specs.declared.Cells.{Cells}

-- the cells of row i of a table
pub record CellsOf (t : Table) (i : ℕ) (c : Cells) : Type 0 where
  pub columns : (k : ℕ) → k < input_limit → get_or c.columns k 0 ≡ offers (symbol_at (row_at t i) k)
  pub past : (k : ℕ) → t.inputs ≤ k → k < input_limit → get_or c.columns k 0 ≡ 7
  pub state : c.state ≡ offers (Held (row_at t i).state)
  pub output : c.output ≡ (row_at t i).output

-- the cells of its first rows
pub record CellsOfRows (t : Table) (s : List Cells) : Type 0 where
  pub row : (i : ℕ) (c : Cells) → i < length s → CellsOf t i (get_or s i c)
