-- What each row answers for each old output, as value numbers.
use Rattle.std.specs.Prelude.{ℕ, ◌+◌, ◌*◌, ◌<◌, ◌≡◌, List, length, get_or}
use Rattle.value.specs.Value.{rank_of, value_of}
use Rattle.symbol.specs.Match.{result_of}
use Rattle.table.specs.Table.{Table, row_at}

-- every element is a value number
pub record Low (outs : List ℕ) : Type 0 where
  pub at : (c : ℕ) → get_or outs c 0 < 3

-- what each row answers for each old output, as value numbers
pub record Outputs (t : Table) (outs : List ℕ) : Type 0 where
  pub low : Low outs
  pub right : (r o : ℕ) → r < length t.rows → o < 3 → get_or outs (r * 3 + o) 0 ≡ rank_of (result_of (row_at t r).output (value_of o))
