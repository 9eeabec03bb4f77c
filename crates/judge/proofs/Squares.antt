-- What the square's answers say: yes exactly where the two orders agree for all vectors that differ in these two inputs alone. Assumes nothing.
use Prim.Native.Nat.{ℕ, suc, ◌/◌, ◌<◌, ◌≤◌}
use mathlib.Core.Path.{◌≡◌, refl, sym, ◌∙◌}
use mathlib.Core.Logic.{◌↔◌, ⊎_elim}
use mathlib.Core.Bool.{Bool, true, false, not, cond, ◌&&◌}
use mathlib.Core.List.{List, []}
use native.Mathlib.Omega.{arith}
use lib.Dec.{ltb}
use lib.ListN.{get_or}
use borrow.Author.Tests.{lt-ltb, le-ltb, not-true, not-false}
use Rattle.base.specs.Limits.{input_limit}
use Rattle.base.specs.Listed.{listed}
use Rattle.base.specs.Search.{some}
use Rattle.base.proofs.Bools.{clash, lt_or_ge}
use Rattle.base.proofs.Listed.{listed_at}
use Rattle.base.proofs.Search.{some_at, some_none}
use Rattle.table.specs.Area.{decode}
use Rattle.formed.specs.Tests.{well_formed}
use Rattle.step.specs.Step.{step_of}
use Rattle.orders.specs.Order.{Step, Every}
use Rattle.orders.specs.Pairs.{PairAgrees, Yes}
use Rattle.orders.specs.Verdict.{candidates, first_now, second_now, first_output, second_output, Disagrees}
use Rattle.orders.proofs.Places.{vector_put, every_family}
use Rattle.orders.proofs.Candidates.{same_of, of_same, vector_number, pair_iff}
use Rattle.evaluation.proofs.Saying.{neither}
use Rattle.value.specs.Value.{same_value}
use Rattle.judge.specs.Judge.{disagree, pair_yes, square_of, square_for}

some_false : (f : ℕ → Bool) (n k : ℕ) → some n f ≡ false → k < n → (b : Bool) → f k ≡ b → b ≡ false
some_false f n k e h true q = clash (sym (some_at f n k h q) ∙ e)
some_false f n k e h false q = refl

module _ (n : ℕ) (phi : Step) where
  -- no disagreement of two inputs, as a test and in the words of the theory
  pub disagree_iff : (i j : ℕ) → (disagree n phi i j ≡ false) ↔ PairAgrees n (Every n) phi i j
  unfolding disagree
  disagree_iff i j = (
    λ e. (pair_iff n phi (Every n) i j (every_family n)).1 (λ r h d. d.differ (of_same _ _ (not-false _ (some_false _ (candidates n) r e h _ refl)))),
    λ a. some_none _ (candidates n)
        (λ r h. none r h (same_value (first_output n phi i j r) (second_output n phi i j r)) refl ((pair_iff n phi (Every n) i j (every_family n)).0 a r h)),
  )
    where
      none : (r : ℕ) → r < candidates n → (b : Bool) → same_value (first_output n phi i j r) (second_output n phi i j r) ≡ b →
          (Disagrees n (Every n) phi i j r → ⊥) → not (same_value (first_output n phi i j r) (second_output n phi i j r)) ≡ false
      none r h true e q = rw e
      none r h false e q = absurd (q (record {
        admitted = (vector_number n (r / 27), vector_put j (second_now r) (vector_put i (first_now r) (vector_number n (r / 27))));
        differ = λ s. clash (sym (same_of _ _ s) ∙ e);
      }))

  half : (i j : ℕ) → j < n → ((ltb i j && (ltb j n && disagree n phi (suc i) (suc j))) ≡ false) ↔ (suc i < suc j → PairAgrees n (Every n) phi (suc i) (suc j))
  half i j lj = (λ e h. (disagree_iff (suc i) (suc j)).0 (rw (lt-ltb i j (omega arith), lt-ltb j n lj) at e), λ a. ⊎_elim (below a) above (lt_or_ge i j))
    where
      below : (suc i < suc j → PairAgrees n (Every n) phi (suc i) (suc j)) → i < j → (ltb i j && (ltb j n && disagree n phi (suc i) (suc j))) ≡ false
      below a h = rw (lt-ltb i j h, lt-ltb j n lj) ((disagree_iff (suc i) (suc j)).1 (a (omega arith)))

      above : j ≤ i → (ltb i j && (ltb j n && disagree n phi (suc i) (suc j))) ≡ false
      above h = rw (le-ltb i j h)

  pub yes_iff : (i j : ℕ) → i < n → j < n → (pair_yes n phi i j ≡ true) ↔ Yes n (Every n) phi (suc i) (suc j)
  unfolding pair_yes
  yes_iff i j li lj = (
    λ e. let q = neither _ _ (not-true _ e) in ((half i j lj).0 q.0, (half j i li).0 q.1),
    λ y. rw ((half i j lj).1 y.0, (half j i li).1 y.1),
  )

-- the first answer of a square tells whether the area is well formed
first_answer : (a : List ℕ) → get_or (get_or (square_for a) 0 []) 0 false ≡ well_formed a
unfolding square_for square_of pair_yes
first_answer a = go (well_formed a)
  where
    go : (b : Bool) → get_or (get_or
        (cond b (square_of (decode a).inputs (step_of (decode a))) (listed (λ (i : ℕ). listed (λ (j : ℕ). false) input_limit) input_limit)) 0 []) 0 false ≡ b
    go true =
        rw (listed_at (λ (i : ℕ). listed (pair_yes (decode a).inputs (step_of (decode a)) i) input_limit) input_limit 0 [] (omega arith))
        (listed_at (pair_yes (decode a).inputs (step_of (decode a)) 0) input_limit 0 false (omega arith))
    go false =
        rw (listed_at (λ (i : ℕ). listed (λ (j : ℕ). false) input_limit) input_limit 0 [] (omega arith))
        (listed_at (λ (j : ℕ). false) input_limit 0 false (omega arith))

pub formed_by : (a : List ℕ) (s : List (List Bool)) (b : Bool) → s ≡ square_for a → get_or (get_or s 0 []) 0 false ≡ b → well_formed a ≡ b
formed_by a s b e h = sym (first_answer a) ∙ rw (← e) h
