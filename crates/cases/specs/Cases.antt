-- Document 01, "Checked by hand": the cases P1 to P14, as one table, from the texts.
use Rattle.std.specs.Prelude.{ℕ, ◌≡◌, List, [], ◌∷◌, length, Ok}
use Prim.Native.String.{String}
use Rattle.value.specs.declared.Ternary.{Ternary}
use Rattle.value.specs.declared.Ternary.TheVariants.{V0, V1, Vx}
use Rattle.text.specs.Bytes.{bytes}
use Rattle.table.specs.Table.{Table}
use Rattle.grammar.specs.Reading.{read, table}
use Rattle.orders.specs.Order.{eval_order}
use Rattle.step.specs.Step.{step_of}
use Rattle.verdict.specs.declared.Finding.{Finding}
use Rattle.verdict.specs.declared.Finding.TheVariants.{Independent, Dependent}
use Rattle.judge.specs.Judge.{RightFinding}
use Rattle.book.specs.Book.{opened}

abbrev pub keep : String
keep = "primitive keep(q,d,en);\noutput q; reg q; input en,d;\ntable\n? 0:?:-;\n0 1:?:0;\n1 1:?:1;\nendtable\nendprimitive\n"

abbrev pub take : String
take = "primitive take(q,d,c); output q; reg q; input d,c; table 0 r:?:0; 1 r:?:1; ? n:?:-; * ?:?:-; endtable endprimitive"

abbrev pub mix : String
mix = "primitive mix(q,a,b); output q; reg q; input a,b; table 1 ?:?:1; ? r:?:0; endtable endprimitive"

abbrev pub par : String
par = "primitive par(y,a,b); output y; input a,b; table 0 0:0; 0 1:1; 1 0:1; 1 1:0; endtable endprimitive"

pub data Case : Type 0 where
  -- the primitive, evaluated from one vector to another with an old output along an order, gives an output
  gives : String → List Ternary → List Ternary → Ternary → List ℕ → Ternary → Case
  -- the primitive's finding
  finds : String → Finding → Case
  -- a book has so many entries, that good length and so many torn bytes
  opens : String → ℕ → ℕ → ℕ → Case

-- the text reads as a table
pub record Reads (text : String) (t : Table) : Type 0 where
  pub next : ℕ
  pub same : read (bytes text) 0 ≡ table t next

pub data Holds : Case → Type 0 where
  given : {text : String} {prev cur : List Ternary} {old : Ternary} {order : List ℕ} {output : Ternary} (t : Table) → Reads text t →
      eval_order (step_of t) prev cur old order ≡ output → Holds (gives text prev cur old order output)
  found : {text : String} {finding : Finding} (t : Table) → Reads text t → RightFinding t.inputs (step_of t) finding → Holds (finds text finding)
  told : {book : String} {entries good torn : ℕ} →
      opened (bytes book) (length (bytes book)) ≡ Ok (record { entries = entries; good = good; torn = torn }) → Holds (opens book entries good torn)

infixr 20 ◌and◌
pub data AllHold : List Case → Type 0 where
  all : AllHold []
  ◌and◌ : {c : Case} {cs : List Case} → Holds c → AllHold cs → AllHold (c ∷ cs)

-- dependent by inputs 1 and 2 from vector number `previous`, to the values x and y: old output 0, the order 1, 2 gives 1 and 2, 1 gives 0
abbrev pub dependent : ℕ → Ternary → Ternary → Finding
dependent previous x y = Dependent (record {
  first = 1;
  second = 2;
  previous = previous;
  first_now = x;
  second_now = y;
  old = V0;
  first_output = V1;
  second_output = V0;
})

abbrev pub cases : List Case
cases =
    gives keep (V0 ∷ V1 ∷ []) (V1 ∷ V0 ∷ []) V0 (1 ∷ 2 ∷ []) V1
    ∷ gives keep (V0 ∷ V1 ∷ []) (V1 ∷ V0 ∷ []) V0 (2 ∷ 1 ∷ []) V0
    ∷ gives keep (V0 ∷ V1 ∷ []) (V1 ∷ V0 ∷ []) V0 [] V0
    ∷ gives keep (V0 ∷ V0 ∷ []) (V0 ∷ Vx ∷ []) V1 (1 ∷ 2 ∷ []) Vx
    ∷ gives keep (V0 ∷ V1 ∷ []) (V0 ∷ V1 ∷ []) Vx (1 ∷ 2 ∷ []) Vx
    ∷ gives take (V0 ∷ V0 ∷ []) (V1 ∷ V1 ∷ []) Vx (1 ∷ 2 ∷ []) V1
    ∷ gives take (V0 ∷ V0 ∷ []) (V1 ∷ V1 ∷ []) Vx (2 ∷ 1 ∷ []) V0
    ∷ gives take (V0 ∷ Vx ∷ []) (V0 ∷ V1 ∷ []) V0 (1 ∷ 2 ∷ []) Vx
    ∷ gives mix (V1 ∷ V0 ∷ []) (V1 ∷ V1 ∷ []) V0 (1 ∷ 2 ∷ []) V1
    ∷ gives mix (V0 ∷ V0 ∷ []) (V0 ∷ V1 ∷ []) V1 (1 ∷ 2 ∷ []) V0
    ∷ finds keep (dependent 1 V1 V0)
    ∷ finds take (dependent 0 V1 V1)
    ∷ finds par Independent
    ∷ opens "keep 2 3 D 01 10 0 12 1 21 0 @00000\npar 2 4 I " 1 36 10
    ∷ []
