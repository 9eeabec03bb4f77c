-- The cases P1 to P10 of document 01, "Checked by hand", as one table.
use Rattle.std.specs.Prelude.{ℕ, true, List, [], ◌∷◌, map}
use Rattle.value.specs.declared.Ternary.{Ternary}
use Rattle.value.specs.declared.Ternary.TheVariants.{V0, V1, Vx}
use Rattle.symbol.specs.declared.Level.TheVariants.{Zero, One, Any}
use Rattle.symbol.specs.declared.Symbol.{Symbol}
use Rattle.symbol.specs.declared.Symbol.TheVariants.{Held, Rise, Negative, Every}
use Rattle.symbol.specs.declared.Output.{Output}
use Rattle.symbol.specs.declared.Output.TheVariants.{Out0, Out1, Old}
use Rattle.table.specs.Table.{Row, Table}
use Rattle.orders.specs.Order.{eval_order}
use Rattle.step.specs.Step.{step_of}

-- a sequential table of two inputs; its rows have the state ?
abbrev pub table : List ℕ → List Row → Table
table name rows = record { name = name; sequential = true; inputs = 2; start = Vx; rows = rows }

abbrev pub row : Symbol → Symbol → Output → Row
row first second output = record { symbols = first ∷ second ∷ []; state = Any; output = output }

abbrev pub keep : Table
keep = table (107 ∷ 101 ∷ 101 ∷ 112 ∷ []) (row (Held Any) (Held Zero) Old ∷ row (Held Zero) (Held One) Out0 ∷ row (Held One) (Held One) Out1 ∷ [])

abbrev pub take : Table
take = table (116 ∷ 97 ∷ 107 ∷ 101 ∷ []) (row (Held Zero) Rise Out0 ∷ row (Held One) Rise Out1 ∷ row (Held Any) Negative Old ∷ row Every (Held Any) Old ∷ [])

abbrev pub mix : Table
mix = table (109 ∷ 105 ∷ 120 ∷ []) (row (Held One) (Held Any) Out1 ∷ row (Held Any) Rise Out0 ∷ [])

pub record Case : Type 0 where
  pub table : Table
  pub prev : List Ternary
  pub cur : List Ternary
  pub old : Ternary
  pub order : List ℕ
  pub output : Ternary

abbrev pub case : Table → List Ternary → List Ternary → Ternary → List ℕ → Ternary → Case
case t prev cur old order output = record { table = t; prev = prev; cur = cur; old = old; order = order; output = output }

abbrev pub cases : List Case
cases =
    case keep (V0 ∷ V1 ∷ []) (V1 ∷ V0 ∷ []) V0 (1 ∷ 2 ∷ []) V1
    ∷ case keep (V0 ∷ V1 ∷ []) (V1 ∷ V0 ∷ []) V0 (2 ∷ 1 ∷ []) V0
    ∷ case keep (V0 ∷ V1 ∷ []) (V1 ∷ V0 ∷ []) V0 [] V0
    ∷ case keep (V0 ∷ V0 ∷ []) (V0 ∷ Vx ∷ []) V1 (1 ∷ 2 ∷ []) Vx
    ∷ case keep (V0 ∷ V1 ∷ []) (V0 ∷ V1 ∷ []) Vx (1 ∷ 2 ∷ []) Vx
    ∷ case take (V0 ∷ V0 ∷ []) (V1 ∷ V1 ∷ []) Vx (1 ∷ 2 ∷ []) V1
    ∷ case take (V0 ∷ V0 ∷ []) (V1 ∷ V1 ∷ []) Vx (2 ∷ 1 ∷ []) V0
    ∷ case take (V0 ∷ Vx ∷ []) (V0 ∷ V1 ∷ []) V0 (1 ∷ 2 ∷ []) Vx
    ∷ case mix (V1 ∷ V0 ∷ []) (V1 ∷ V1 ∷ []) V0 (1 ∷ 2 ∷ []) V1
    ∷ case mix (V0 ∷ V0 ∷ []) (V0 ∷ V1 ∷ []) V1 (1 ∷ 2 ∷ []) V0
    ∷ []

-- what the definition answers, and what the document says
abbrev pub answered : List Ternary
answered = map (λ (c : Case). eval_order (step_of c.table) c.prev c.cur c.old c.order) cases

abbrev pub written : List Ternary
written = map (λ (c : Case). c.output) cases
