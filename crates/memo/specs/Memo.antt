-- What is worked out of a table once.
use Rattle.std.specs.Prelude.{◌≡◌, length}
use Rattle.table.specs.Table.{Table}
use Rattle.memo.specs.declared.Memo.{Memo}
use Rattle.memo.specs.Outputs.{Outputs}
use Rattle.memo.specs.Rows.{all_rows, cells, Small}

-- the memo is that of table t
pub record MemoOf (t : Table) (memo : Memo) : Type 0 where
  pub small : Small t
  pub cells_are : memo.cells ≡ cells t
  pub all_are : memo.all ≡ all_rows t
  pub outputs_are : Outputs t memo.outputs
  pub inputs_are : memo.inputs ≡ t.inputs
  pub rows_are : memo.rows ≡ length t.rows
