-- The verdicts of a text's primitives, a book that holds them, and one turn of the keeper.
use Rattle.std.specs.Prelude.{Option, None, Some, Result, Ok, Err, ℕ, ◌+◌, ◌≤◌, ◌<◌, ◌≡◌, ◌≢◌, ◌⊎◌, cond, ◌&&◌, List, [], ◌∷◌, ◌++◌, length, take}
use Rattle.table.specs.Table.{Table}
use Rattle.step.specs.Step.{step_of}
use Rattle.grammar.specs.Reading.{table, end, read}
use Rattle.reading.specs.Told.{out, read_into}
use Rattle.verdict.specs.declared.Finding.{Finding}
use Rattle.judge.specs.Judge.{RightFinding}
use Rattle.handed.specs.Handed.{Handed, fits_layout}
use Rattle.refusal.specs.declared.Refusal.{Refusal}
use Rattle.book.specs.Book.{line_of, outcome, appended}
use Rattle.book.specs.Runs.{book_of, AllFit}
use Rattle.listing.specs.Next.{stands_in}
use Rattle.keeping.specs.declared.Settled.{Settled}
use Rattle.keeping.specs.declared.Settled.TheVariants.{Kept, Added, Differs, End}

-- ---- the primitives of a text

-- so many primitives are read from the text's start, one after another, up to a place
pub data Primitives (text : List ℕ) : ℕ → ℕ → Type 0 where
  none_yet : Primitives text 0 0
  one_more : {n at next : ℕ} (t : Table) → Primitives text n at → read text at ≡ table t next → Primitives text (n + 1) next

-- the count of all of them, or the refusal behind those that can be read
abbrev pub CountIs : List ℕ → List ℕ → Result ℕ Refusal → Type 0
CountIs text area (Ok n) = (at : ℕ) × Primitives text n at × (read text at ≡ end)
CountIs text area (Err r) =
    (n : ℕ) × (at : ℕ) × (left : List ℕ) × Primitives text n at × (read_into text at left ≡ out (Err r) left) × (length left ≡ length area)

-- ---- their verdicts

abbrev pub handed : Table → Finding → Handed
handed t f = record { name = t.name; inputs = t.inputs; rows = length t.rows; finding = f }

-- the verdict of the primitive that is read at a place, and the place after it
pub record VerdictAt (text : List ℕ) (start next : ℕ) (h : Handed) : Type 0 where
  pub it : Table
  pub comes : read text start ≡ table it next
  pub right : RightFinding it.inputs (step_of it) h.finding
  pub same : h ≡ handed it h.finding

-- one verdict for each primitive from the text's start up to a place
pub data Verdicts (text : List ℕ) : ℕ → List Handed → Type 0 where
  no_verdict : Verdicts text 0 []
  one_verdict : {at next : ℕ} {hs : List Handed} (h : Handed) → Verdicts text at hs → VerdictAt text at next h → Verdicts text next (hs ++ (h ∷ []))

-- the book's first bytes are the entries of these verdicts, and nothing else
pub record Holds (text : List ℕ) (at : ℕ) (book : List ℕ) (good : ℕ) : Type 0 where
  pub verdicts : List Handed
  pub theirs : Verdicts text at verdicts
  pub fit : AllFit verdicts
  pub inside : good ≤ length book
  pub bytes : take good book ≡ book_of verdicts

-- ---- one turn

-- the length of a verdict's line where it stands in the book at a place, else 0
unfoldable pub standing : List ℕ → ℕ → Handed → ℕ
standing book s h = cond (fits_layout h && stands_in book s h (length (line_of s h))) (length (line_of s h)) 0

-- where that line ends
abbrev pub Ends : List ℕ → ℕ → Handed → Option ℕ → Type 0
Ends book s h (Some e) = (standing book s h ≢ 0) × (e ≡ s + standing book s h)
Ends book s h None = standing book s h ≡ 0

-- before the good length the verdict is compared with what stands there, from it on it is appended
abbrev pub Places : Handed → ℕ → List ℕ → ℕ → ℕ → Result Settled Refusal → List ℕ → Type 0
Places h next book at good (Ok (Kept n e)) left = (n ≡ next) × (at < good) × (standing book at h ≢ 0) × (e ≡ at + standing book at h) × (left ≡ book)
Places h next book at good (Ok (Added n e)) left = (n ≡ next) × (good ≤ at) × (outcome (Ok e) left ≡ appended book at h)
Places h next book at good (Ok Differs) left = (at < good) × (standing book at h ≡ 0) × (left ≡ book)
Places h next book at good (Ok End) left = ⊥
Places h next book at good (Err r) left = (good ≤ at) × (outcome (Err r) left ≡ appended book at h)

-- the next primitive's verdict is placed
abbrev pub Placed : List ℕ → ℕ → List ℕ → ℕ → ℕ → Result Settled Refusal → List ℕ → Type 0
Placed text start book at good r left = (h : Handed) × (next : ℕ) × VerdictAt text start next h × Places h next book at good r left

-- "end" and a refusal of the text leave the book
abbrev pub Settles : List ℕ → ℕ → List ℕ → List ℕ → ℕ → ℕ → Result Settled Refusal → List ℕ → Type 0
Settles text start area book at good (Ok (Kept n e)) left = Placed text start book at good (Ok (Kept n e)) left
Settles text start area book at good (Ok (Added n e)) left = Placed text start book at good (Ok (Added n e)) left
Settles text start area book at good (Ok Differs) left = Placed text start book at good (Ok Differs) left
Settles text start area book at good (Ok End) left = (read text start ≡ end) × (left ≡ book)
Settles text start area book at good (Err r) left =
    ((read_into text start area ≡ out (Err r) area) × (left ≡ book)) ⊎ Placed text start book at good (Err r) left
