-- What a program outside is told of reading and judging.
use Rattle.std.specs.Prelude.{ℕ, ◌/◌, ◌%◌, ◌≡◌, Bool, true, false, cond, List, [], get_or}
use Rattle.base.specs.Listed.{listed}
use Rattle.formed.specs.Tests.{well_formed}
use Rattle.table.specs.Area.{decode}
use Rattle.step.specs.Step.{step_of}
use Rattle.verdict.specs.declared.Finding.{Finding}
use Rattle.judge.specs.Judge.{RightFinding, square_for}
use Rattle.reading.specs.Told.{Out, written, ended, refused}
use Rattle.bankplover.specs.Books.{letter_of, witness_number}

-- a number, what is told, and the area's bytes
pub data Told : Type 0 where
  told : ℕ → ℕ → List ℕ → Told

-- 0 with the place after `endprimitive`, 255 for "end" with the text's length, or the refusal's number and place
abbrev pub read_told : ℕ → Out → Told
read_told size (written next area) = told 0 next area
read_told size (ended area) = told 255 size area
read_told size (refused c p area) = told c p area

-- 10 for an area that is not well formed; else 0, the letter of the right finding and its witness
pub data JudgeTold (area : List ℕ) : ℕ → ℕ → List ℕ → List ℕ → Type 0 where
  judged : {w : List ℕ} (f : Finding) → well_formed area ≡ true → RightFinding (decode area).inputs (step_of (decode area)) f →
      JudgeTold area 0 (letter_of f) w (listed (witness_number f) 8)
  unjudged : {w : List ℕ} → well_formed area ≡ false → JudgeTold area 10 0 w w

abbrev pub bit : Bool → ℕ
bit true = 1
bit false = 0

-- cell k of the square, row by row
unfoldable pub bit_of : List (List Bool) → ℕ → ℕ
bit_of s k = bit (get_or (get_or s (k / 9) []) (k % 9) false)

unfoldable pub square_cells : List ℕ → List ℕ → List ℕ
square_cells area l = cond (well_formed area) (listed (bit_of (square_for area)) 81) l
