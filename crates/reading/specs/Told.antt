-- What reading answers, and what it leaves in the area.
use Rattle.std.specs.Prelude.{cond, List, ℕ, eqb, length, Result, Ok, Err, Option, Some, None}
use Rattle.table.specs.Places.{area_size}
use Rattle.table.specs.Area.{encode}
use Rattle.grammar.specs.Reading.{Reading as Read, table, end, refusal, read}
use Rattle.refusal.specs.Refusal.{number_of}
use Rattle.refusal.specs.declared.Refusal.{Refusal}

-- the place behind a table, "end", or a refusal's number and place; each with the area that is left
pub data Out : Type 0 where
  written : ℕ → List ℕ → Out
  ended : List ℕ → Out
  refused : ℕ → ℕ → List ℕ → Out

-- an answer with the area that is left
abbrev pub out : Result (Option ℕ) Refusal → List ℕ → Out
out (Ok (Some next)) area = written next area
out (Ok None) area = ended area
out (Err r) area = refused (number_of r.fault) r.place area

-- a table is written whole; "end" and a refusal leave the area as it was
abbrev pub told : List ℕ → Read → Out
told area (table t next) = written next (encode t)
told area end = ended area
told area (refusal c p) = refused c p area

-- an area of the wrong size is 10, before all else
unfoldable pub read_into : List ℕ → ℕ → List ℕ → Out
read_into text start area = cond (eqb (length area) area_size) (told area (read text start)) (refused 10 0 area)
