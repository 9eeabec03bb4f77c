-- The search for a disagreement, pair by pair. Columns are counted from 0.
use Rattle.std.specs.Prelude.{ℕ, ◌+◌, ◌*◌, ◌/◌, ◌%◌, Bool, not, cond, ◌&&◌, ◌||◌, List, ltb}
use Rattle.base.specs.Limits.{input_limit}
use Rattle.base.specs.Listed.{listed}
use Rattle.base.specs.Search.{first}
use Rattle.value.specs.Value.{value_of}
use Rattle.table.specs.Table.{Table}
use Rattle.orders.specs.Verdict.{candidates, first_now, second_now, old_at}
use Rattle.pair.specs.Search.{first_at, output_at}
use Rattle.verdict.specs.declared.Witness.{Witness}
use Rattle.verdict.specs.declared.Finding.{Finding}
use Rattle.verdict.specs.declared.Finding.TheVariants.{Independent, Dependent}

-- the first candidate that differs, where i < j are columns
unfoldable pub pair_first : Table → ℕ → ℕ → ℕ
pair_first t i j = cond (ltb i j && ltb j t.inputs) (first_at t i j) (candidates t.inputs)

unfoldable pub pair_differs : Table → ℕ → ℕ → Bool
pair_differs t i j = ltb (pair_first t i j) (candidates t.inputs)

-- pairs are counted by i, then j
abbrev pub pairs : ℕ
pairs = input_limit * input_limit

unfoldable pub first_pair : Table → ℕ
first_pair t = first pairs (λ (p : ℕ). pair_differs t (p / input_limit) (p % input_limit))

-- the witness at candidate r
unfoldable pub witness_in : Table → ℕ → ℕ → ℕ → Witness
witness_in t i j r = record {
  first = i + 1;
  second = j + 1;
  previous = r / 27;
  first_now = first_now r;
  second_now = second_now r;
  old = old_at r;
  first_output = value_of (output_at t i j (r / 27) (r / 9 % 3) (r / 3 % 3) (r % 3));
  second_output = value_of (output_at t j i (r / 27) (r / 3 % 3) (r / 9 % 3) (r % 3));
}

unfoldable pub finding_in : Table → Finding
finding_in t =
    cond (ltb (first_pair t) pairs)
    (Dependent (witness_in t (first_pair t / input_limit) (first_pair t % input_limit)
    (pair_first t (first_pair t / input_limit) (first_pair t % input_limit))))
    Independent

unfoldable pub yes_in : Table → ℕ → ℕ → Bool
yes_in t i j = not (pair_differs t i j || pair_differs t j i)

unfoldable pub square_in : Table → List (List Bool)
square_in t = listed (λ (i : ℕ). listed (yes_in t i) input_limit) input_limit
