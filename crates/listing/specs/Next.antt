-- The verdict of the next primitive of a text.
use Rattle.std.specs.Prelude.{Option, None, Some, Result, Ok, Err, ℕ, ◌+◌, ◌≡◌, Bool, List, [], ◌∷◌, ◌++◌, eqb, get_or}
use Rattle.base.specs.Search.{every}
use Rattle.table.specs.Table.{Table}
use Rattle.table.specs.Area.{encode}
use Rattle.step.specs.Step.{step_of}
use Rattle.grammar.specs.Reading.{table, end, read}
use Rattle.reading.specs.Told.{out, read_into}
use Rattle.refusal.specs.declared.Refusal.{Refusal}
use Rattle.verdict.specs.declared.Finding.{Finding}
use Rattle.judge.specs.Judge.{RightFinding}
use Rattle.files.specs.Files.{LF}
use Rattle.entry.specs.Entry.{entry}
use Rattle.entry.specs.Draft.{draft}
use Rattle.handed.specs.Handed.{Handed}

-- the table that is read stands in the area, and the finding is the right one of that table; "end" and a refusal leave the area
abbrev pub NextIs : List ℕ → ℕ → List ℕ → Result (Option (Finding × ℕ)) Refusal → List ℕ → Type 0
NextIs text start area (Ok (Some (finding, next))) left =
    (t : Table) × (read text start ≡ table t next) × (left ≡ encode t) × RightFinding t.inputs (step_of t) finding
NextIs text start area (Ok None) left = (read text start ≡ end) × (left ≡ area)
NextIs text start area (Err r) left = (read_into text start area ≡ out (Err r) area) × (left ≡ area)

-- so many bytes of the book from a place on are those of a verdict's line there
unfoldable pub stands_in : List ℕ → ℕ → Handed → ℕ → Bool
stands_in book s h size = every size (λ (k : ℕ). eqb (get_or book (s + k) 0) (get_or (entry s (draft h) ++ (LF ∷ [])) k 0))
