-- A verdict in document 01's words: vectors and orders as lists.
use Rattle.std.specs.Prelude.{List, ℕ}
use Rattle.value.specs.declared.Ternary.{Ternary}

pub record Witness : Type 0 where
  pub prev : List Ternary
  pub cur : List Ternary
  pub old : Ternary
  pub order1 : List ℕ
  pub out1 : Ternary
  pub order2 : List ℕ
  pub out2 : Ternary

pub data Finding : Type 0 where
  independent : Finding
  dependent : Witness → Finding

pub record Verdict : Type 0 where
  pub name : List ℕ
  pub inputs : ℕ
  pub rows : ℕ
  pub finding : Finding
