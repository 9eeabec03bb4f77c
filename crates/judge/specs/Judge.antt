-- What the judge promises: document 01, "One step and one order".
use Rattle.std.specs.Prelude.{ℕ, suc, ◌/◌, ◌≡◌, Bool, false, not, cond, ◌&&◌, ◌||◌, List, ltb}
use Rattle.base.specs.Limits.{input_limit}
use Rattle.base.specs.Listed.{listed}
use Rattle.base.specs.Search.{some}
use Rattle.value.specs.Value.{same_value}
use Rattle.table.specs.Area.{decode}
use Rattle.formed.specs.Tests.{well_formed}
use Rattle.orders.specs.Order as order
use Rattle.orders.specs.Verdict.{candidates, first_now, second_now, old_at, first_output, second_output, First}
use Rattle.step.specs.Step.{step_of}
use Rattle.verdict.specs.declared.Witness.{Witness}
use Rattle.verdict.specs.declared.Finding.{Finding}
use Rattle.verdict.specs.declared.Finding.TheVariants.{Independent, Dependent}

-- the witness is the first disagreement of the sequence, with what the two orders give there
pub record Witnesses (n : ℕ) (phi : order.Step) (w : Witness) : Type 0 where
  pub candidate : ℕ
  pub first : First n (order.Every n) phi w.first w.second candidate
  pub previous : w.previous ≡ candidate / 27
  pub first_now : w.first_now ≡ first_now candidate
  pub second_now : w.second_now ≡ second_now candidate
  pub old : w.old ≡ old_at candidate
  pub first_output : w.first_output ≡ first_output n phi w.first w.second candidate
  pub second_output : w.second_output ≡ second_output n phi w.first w.second candidate

-- independent where all full orders agree for every pair of vectors and every old output, else the first disagreement
abbrev pub RightFinding : ℕ → order.Step → Finding → Type 0
RightFinding n phi Independent = order.Independent n (order.Every n) phi
RightFinding n phi (Dependent w) = Witnesses n phi w

-- the two orders of i and j disagree somewhere with only these two changed
unfoldable pub disagree : ℕ → order.Step → ℕ → ℕ → Bool
disagree n phi i j = some (candidates n) (λ (r : ℕ). not (same_value (first_output n phi i j r) (second_output n phi i j r)))

-- the answer in row i and column j of the square, counted from 0: no where such a disagreement is, else yes
unfoldable pub pair_yes : ℕ → order.Step → ℕ → ℕ → Bool
pair_yes n phi i j = not ((ltb i j && (ltb j n && disagree n phi (suc i) (suc j))) || (ltb j i && (ltb i n && disagree n phi (suc j) (suc i))))

unfoldable pub square_of : ℕ → order.Step → List (List Bool)
square_of n phi = listed (λ (i : ℕ). listed (pair_yes n phi i) input_limit) input_limit

-- an area that is not well formed has no answers: all false, which no table has, since its diagonal is yes
unfoldable pub square_for : List ℕ → List (List Bool)
square_for a = cond (well_formed a) (square_of (decode a).inputs (step_of (decode a))) (listed (λ (i : ℕ). listed (λ (j : ℕ). false) input_limit) input_limit)
