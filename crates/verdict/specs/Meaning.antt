-- What the code's finding means for a table of n inputs, and when a finding can stand in the book.
use Rattle.std.specs.Prelude.{◌≡◌, ◌≢◌, List, length, ℕ, ◌≤◌, ◌<◌, ◌^◌}
use Rattle.value.specs.declared.Ternary.{Ternary}
use Rattle.orders.specs.Vectors.{at, put, vector_of}
use Rattle.orders.specs.Pairs.{pair_order}
use Rattle.verdict.specs.Verdict as words
use Rattle.verdict.specs.declared.Witness.{Witness}
use Rattle.verdict.specs.declared.Finding.{Finding}
use Rattle.verdict.specs.declared.Finding.TheVariants.{Independent, Dependent}

-- the previous vector; and the current one, which differs from it at the two inputs alone
abbrev pub before : ℕ → Witness → List Ternary
before n w = vector_of n w.previous

abbrev pub now : ℕ → Witness → List Ternary
now n w = put (put (before n w) w.first w.first_now) w.second w.second_now

unfoldable pub shown : ℕ → Witness → words.Witness
shown n w = record {
  prev = before n w;
  cur = now n w;
  old = w.old;
  order1 = pair_order n w.first w.second;
  out1 = w.first_output;
  order2 = pair_order n w.second w.first;
  out2 = w.second_output;
}

unfoldable pub meant : ℕ → Finding → words.Finding
meant n Independent = words.independent
meant n (Dependent w) = words.dependent (shown n w)

-- prev and cur have n values and differ in exactly two places i < j, the orders are those of i and j, and the outputs differ
pub record Disagrees (n i j : ℕ) (w : words.Witness) : Type 0 where
  pub from : 1 ≤ i
  pub apart : i < j
  pub to : j ≤ n
  pub prev_long : length w.prev ≡ n
  pub cur_long : length w.cur ≡ n
  pub differs_i : at w.prev i ≢ at w.cur i
  pub differs_j : at w.prev j ≢ at w.cur j
  pub same : (k : ℕ) → k ≢ i → k ≢ j → at w.prev k ≡ at w.cur k
  pub order_1 : w.order1 ≡ pair_order n i j
  pub order_2 : w.order2 ≡ pair_order n j i
  pub outputs : w.out1 ≢ w.out2

-- a finding that the book's layout has room for
pub data Fits (n : ℕ) : words.Finding → Type 0 where
  fits_independent : Fits n words.independent
  fits_dependent : {w : words.Witness} (i j : ℕ) → Disagrees n i j w → Fits n (words.dependent w)

-- the same of the code's finding
pub record Sound (n : ℕ) (w : Witness) : Type 0 where
  pub from : 1 ≤ w.first
  pub apart : w.first < w.second
  pub to : w.second ≤ n
  pub small : w.previous < 3 ^ n
  pub first_differs : at (before n w) w.first ≢ w.first_now
  pub second_differs : at (before n w) w.second ≢ w.second_now
  pub outputs : w.first_output ≢ w.second_output

abbrev pub SoundFinding : ℕ → Finding → Type 0
SoundFinding n Independent = Unit {0}
SoundFinding n (Dependent w) = Sound n w
