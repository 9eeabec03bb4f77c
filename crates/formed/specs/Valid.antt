-- Which tables reading can give: document 01, "Reading one primitive". No byte of an area is mentioned here.
use Rattle.std.specs.Prelude.{ℕ, ◌≤◌, ◌<◌, ◌≡◌, Bool, true, false, List, length}
use Rattle.base.specs.Limits.{input_limit, row_limit}
use Rattle.value.specs.declared.Ternary.{Ternary}
use Rattle.value.specs.declared.Ternary.TheVariants.{Vx}
use Rattle.symbol.specs.declared.Level.TheVariants.{Any}
use Rattle.symbol.specs.declared.Output.TheVariants.{Old}
use Rattle.symbol.specs.Match.{is_edge, possible}
use Rattle.text.specs.Words.{name_fits}
use Rattle.table.specs.Table.{Row, Table, row_at, symbol_at}
use Rattle.table.specs.Match.{row_matches, edge_at}

-- Two rows contradict if both are level rows, or both have their edge in the same column, and some values match both in every
-- column and in the state, and their written outputs are different symbols.
pub record Contradict (n : ℕ) (r q : Row) : Type 0 where
  pub place : edge_at n r ≡ edge_at n q
  pub values : List Ternary
  pub long : length values ≡ n
  pub from : Ternary
  pub old : Ternary
  pub left : row_matches n r values (edge_at n r) from old ≡ true
  pub right : row_matches n q values (edge_at n r) from old ≡ true
  pub differ : r.output ≡ q.output → ⊥

-- A combinational row holds no edge, its state counts as `?`, and its output is no `-`.
pub record Combinational (n : ℕ) (r : Row) : Type 0 where
  pub levels : (k : ℕ) → k < n → is_edge (symbol_at r k) ≡ false
  pub state : r.state ≡ Any
  pub output : r.output ≡ Old → ⊥

-- Each column holds a symbol that matches something, and a row holds at most one edge.
pub record ValidRow (n : ℕ) (sequential : Bool) (r : Row) : Type 0 where
  pub columns : length r.symbols ≡ n
  pub matched : (k : ℕ) → k < n → possible (symbol_at r k) ≡ true
  pub one : (k m : ℕ) → k < n → m < n → is_edge (symbol_at r k) ≡ true → is_edge (symbol_at r m) ≡ true → k ≡ m
  pub plain : sequential ≡ false → Combinational n r

pub record Valid (t : Table) : Type 0 where
  pub name : name_fits t.name ≡ true
  pub some_input : 1 ≤ t.inputs
  pub most_inputs : t.inputs ≤ input_limit
  pub some_row : 1 ≤ length t.rows
  pub most_rows : length t.rows ≤ row_limit
  pub start : t.sequential ≡ false → t.start ≡ Vx
  pub each : (i : ℕ) → i < length t.rows → ValidRow t.inputs t.sequential (row_at t i)
  pub agree : (i j : ℕ) → i < j → j < length t.rows → Contradict t.inputs (row_at t i) (row_at t j) → ⊥
