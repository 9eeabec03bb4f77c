-- Orders of the inputs 1 to n, evaluation along an order, and independence of the order. The step may be any.
use Rattle.std.specs.Prelude.{ℕ, ◌+◌, ◌≤◌, ◌<◌, ◌≡◌, ◌≢◌, ◌⊎◌, List, [], ◌∷◌, length, get_or}
use Rattle.std.proofs.Math.Logic.{ite}
use Rattle.std.proofs.Math.Decide.{ℕ_discrete}
use Rattle.value.specs.declared.Ternary.{Ternary}
use Rattle.orders.specs.Vectors.{at, put, Vector}

-- a step: previous vector, current vector, the input that is considered, old output; it gives the new output
abbrev pub Step : Type 0
Step = List Ternary → List Ternary → ℕ → Ternary → Ternary

-- one number at a time: the input is considered, its previous value becomes its current one, and the rest of the list follows
abbrev pub eval_order : Step → List Ternary → List Ternary → Ternary → List ℕ → Ternary
eval_order phi prev cur old [] = old
eval_order phi prev cur old (j ∷ l) = eval_order phi (put prev j (at cur j)) cur (phi prev cur j old) l

-- what is asked of a step: an unchanged input leaves the output, and of the current vector only the considered input's value counts
pub record Laws (n : ℕ) (phi : Step) : Type 0 where
  pub still : {prev cur : List Ternary} (j : ℕ) {old : Ternary} → Vector n prev → Vector n cur → at prev j ≡ at cur j → phi prev cur j old ≡ old
  pub own : {prev cur d : List Ternary} (j : ℕ) {old : Ternary} → Vector n prev → Vector n cur → Vector n d → at cur j ≡ at d j → phi prev cur j old ≡ phi prev d j old

-- how often k stands in a list
abbrev pub hit : ℕ → ℕ → ℕ
hit k x = ite {C = ℕ} (ℕ_discrete k x) 1 0

abbrev pub count : ℕ → List ℕ → ℕ
count k [] = 0
count k (x ∷ l) = hit k x + count k l

-- an order: different numbers of 1 to n
pub record Order (n : ℕ) (l : List ℕ) : Type 0 where
  pub inside : (a : ℕ) → a < length l → (1 ≤ get_or l a 0) × (get_or l a 0 ≤ n)
  pub differ : (a b : ℕ) → a < b → b < length l → get_or l a 0 ≢ get_or l b 0

-- a full order: each of 1 to n once, and nothing else
pub record Full (n : ℕ) (l : List ℕ) : Type 0 where
  pub each : (k : ℕ) → 1 ≤ k → k ≤ n → count k l ≡ 1
  pub zero_out : count 0 l ≡ 0
  pub above_out : (k : ℕ) → n < k → count k l ≡ 0

-- The pairs of vectors that are admitted. With a pair, each pair is admitted in which every input is unchanged or changes as it does there.
pub record Family (n : ℕ) (Ok : List Ternary → List Ternary → Type 0) : Type 0 where
  pub first : {prev cur : List Ternary} → Ok prev cur → Vector n prev
  pub second : {prev cur : List Ternary} → Ok prev cur → Vector n cur
  pub fewer : {prev cur p c : List Ternary} → Ok prev cur → Vector n p → Vector n c →
      ((k : ℕ) → (at p k ≡ at c k) ⊎ ((at p k ≡ at prev k) × (at c k ≡ at cur k))) → Ok p c

-- every pair of vectors
abbrev pub Every : ℕ → List Ternary → List Ternary → Type 0
Every n prev cur = Vector n prev × Vector n cur

-- all full orders agree for every admitted pair of vectors and every old output
abbrev pub Independent : ℕ → (List Ternary → List Ternary → Type 0) → Step → Type 0
Independent n Ok phi =
    (prev cur : List Ternary) (old : Ternary) (l m : List ℕ) → Ok prev cur → Full n l → Full n m →
    eval_order phi prev cur old l ≡ eval_order phi prev cur old m
