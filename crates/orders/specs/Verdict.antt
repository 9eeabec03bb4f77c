-- The verdict: independent, or the first disagreement.
use Rattle.std.specs.Prelude.{ℕ, ◌*◌, ◌/◌, ◌%◌, ◌^◌, ◌≤◌, ◌<◌, ◌≢◌, List}
use Rattle.value.specs.Value.{value_of}
use Rattle.value.specs.declared.Ternary.{Ternary}
use Rattle.orders.specs.Vectors.{put, vector_of}
use Rattle.orders.specs.Order.{Step, eval_order, Independent}
use Rattle.orders.specs.Pairs.{pair_order}

-- The candidates of a pair i, j, numbered in the sequence of the search: the previous vector weighs most,
-- then the current value of i, then that of j, then the old output.
abbrev pub candidates : ℕ → ℕ
candidates n = 3 ^ n * 27

abbrev pub previous_at : ℕ → ℕ → List Ternary
previous_at n r = vector_of n (r / 27)

abbrev pub first_now : ℕ → Ternary
first_now r = value_of (r / 9 % 3)

abbrev pub second_now : ℕ → Ternary
second_now r = value_of (r / 3 % 3)

abbrev pub old_at : ℕ → Ternary
old_at r = value_of (r % 3)

-- the previous vector with the current values of i and j
abbrev pub current_at : ℕ → ℕ → ℕ → ℕ → List Ternary
current_at n i j r = put (put (previous_at n r) i (first_now r)) j (second_now r)

-- what the order i, j, others rising gives at candidate r, and what j, i, others rising gives
abbrev pub first_output : ℕ → Step → ℕ → ℕ → ℕ → Ternary
first_output n phi i j r = eval_order phi (previous_at n r) (current_at n i j r) (old_at r) (pair_order n i j)

abbrev pub second_output : ℕ → Step → ℕ → ℕ → ℕ → Ternary
second_output n phi i j r = eval_order phi (previous_at n r) (current_at n i j r) (old_at r) (pair_order n j i)

pub data Verdict : Type 0 where
  independent : Verdict
  dependent : (i j r : ℕ) → Verdict

module _ (n : ℕ) (Ok : List Ternary → List Ternary → Type 0) (phi : Step) where
  -- candidate r of the pair i, j is admitted, and the two orders disagree there
  pub record Disagrees (i j r : ℕ) : Type 0 where
    pub admitted : Ok (previous_at n r) (current_at n i j r)
    pub differ : first_output n phi i j r ≢ second_output n phi i j r

  -- the first disagreement, searched by i, then j, then candidate
  pub record First (i j r : ℕ) : Type 0 where
    pub one : 1 ≤ i
    pub rising : i < j
    pub last : j ≤ n
    pub counted : r < candidates n
    pub here : Disagrees i j r
    pub before_i : (a b s : ℕ) → 1 ≤ a → a < i → a < b → b ≤ n → s < candidates n → Disagrees a b s → ⊥
    pub before_j : (b s : ℕ) → i < b → b < j → s < candidates n → Disagrees i b s → ⊥
    pub before_r : (s : ℕ) → s < r → Disagrees i j s → ⊥

  -- the verdict that is right: independent where all full orders agree, else the first disagreement
  abbrev pub Judged : Verdict → Type 0
  Judged independent = Independent n Ok phi
  Judged (dependent i j r) = First i j r
