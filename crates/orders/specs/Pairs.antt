-- The check of two inputs, and orders that exchanges of neighbours join.
use Rattle.std.specs.Prelude.{ℕ, zero, suc, ◌≤◌, ◌<◌, ◌≡◌, ◌≢◌, List, [], ◌∷◌, ◌++◌}
use Rattle.std.proofs.Math.Logic.{ite}
use Rattle.std.proofs.Math.Decide.{ℕ_discrete}
use Rattle.value.specs.declared.Ternary.{Ternary}
use Rattle.orders.specs.Vectors.{at}
use Rattle.orders.specs.Order.{Step, eval_order}

-- m numbers rising from a
abbrev pub rise : ℕ → ℕ → List ℕ
rise a zero = []
rise a (suc m) = a ∷ rise (suc a) m

-- a list without the number i
abbrev pub without : ℕ → List ℕ → List ℕ
without i [] = []
without i (x ∷ l) = ite (ℕ_discrete i x) (without i l) (x ∷ without i l)

abbrev pub others : ℕ → ℕ → ℕ → List ℕ
others n i j = without i (without j (rise 1 n))

-- i, j, others rising
abbrev pub pair_order : ℕ → ℕ → ℕ → List ℕ
pair_order n i j = i ∷ j ∷ others n i j

-- at most the inputs i and j change
abbrev pub OnlyTwo : ℕ → ℕ → List Ternary → List Ternary → Type 0
OnlyTwo i j prev cur = (k : ℕ) → k ≢ i → k ≢ j → at prev k ≡ at cur k

-- where only i and j change, the two orders agree
abbrev pub PairAgrees : ℕ → (List Ternary → List Ternary → Type 0) → Step → ℕ → ℕ → Type 0
PairAgrees n Ok phi i j =
    (prev cur : List Ternary) (old : Ternary) → Ok prev cur → OnlyTwo i j prev cur →
    eval_order phi prev cur old (pair_order n i j) ≡ eval_order phi prev cur old (pair_order n j i)

abbrev pub AllPairs : ℕ → (List Ternary → List Ternary → Type 0) → Step → Type 0
AllPairs n Ok phi = (i j : ℕ) → 1 ≤ i → i < j → j ≤ n → PairAgrees n Ok phi i j

-- i and j in either order give one output, whatever else changes
abbrev pub Commutes : (List Ternary → List Ternary → Type 0) → Step → ℕ → ℕ → Type 0
Commutes Ok phi i j =
    (prev cur : List Ternary) (old : Ternary) → Ok prev cur →
    eval_order phi prev cur old (i ∷ j ∷ []) ≡ eval_order phi prev cur old (j ∷ i ∷ [])

-- two orders joined by exchanges of neighbours whose pair has the property P
pub data Joined (P : ℕ → ℕ → Type 0) : List ℕ → List ℕ → Type 0 where
  same : {l : List ℕ} → Joined P l l
  swap : {i j : ℕ} {l : List ℕ} → P i j → Joined P (i ∷ j ∷ l) (j ∷ i ∷ l)
  skip : {k : ℕ} {l m : List ℕ} → Joined P l m → Joined P (k ∷ l) (k ∷ m)
  then : {l m r : List ℕ} → Joined P l m → Joined P m r → Joined P l r

-- a chain of orders, each the one before with two neighbours exchanged whose pair has the property P
pub data Chain (P : ℕ → ℕ → Type 0) : List ℕ → List ℕ → Type 0 where
  stop : {l : List ℕ} → Chain P l l
  turn : {l m r : List ℕ} (p q : List ℕ) (i j : ℕ) → l ≡ p ++ (i ∷ j ∷ q) → m ≡ p ++ (j ∷ i ∷ q) → P i j → Chain P m r → Chain P l r

-- the pairwise answer is yes, whichever way round the two stand
abbrev pub Yes : ℕ → (List Ternary → List Ternary → Type 0) → Step → ℕ → ℕ → Type 0
Yes n Ok phi i j = (i < j → PairAgrees n Ok phi i j) × (j < i → PairAgrees n Ok phi j i)
