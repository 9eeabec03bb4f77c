-- Orders joined by a chain of neighbours whose pairwise answer is yes give one output. Assumes nothing.
use mathlib.Core.Path.{◌≡◌, sym, subst₂}
use mathlib.Core.List.{List, [], ◌∷◌, ◌++◌}
use Prim.Native.Nat.{ℕ, ◌<◌}
use native.Mathlib.Decide.{ℕ_discrete, dec_lt}
use native.Mathlib.Omega.{arith}
use Rattle.value.specs.declared.Ternary.{Ternary}
use Rattle.orders.specs.Order.{Step, Laws, eval_order, Family}
use Rattle.orders.specs.Pairs.{Commutes, Joined, same, swap, skip, then, Chain, stop, turn, Yes}
use Rattle.orders.proofs.Pairs.{joined_agree, commutes_of_pair}

module _ {P Q : ℕ → ℕ → Type 0} (f : (i j : ℕ) → P i j → Q i j) where
  inside : (p q : List ℕ) (i j : ℕ) → P i j → Joined Q (p ++ (i ∷ j ∷ q)) (p ++ (j ∷ i ∷ q))
  inside [] q i j c = swap (f i j c)
  inside (x ∷ p) q i j c = skip (inside p q i j c)

  joined_of_chain : {l m : List ℕ} → Chain P l m → Joined Q l m
  joined_of_chain stop = same
  joined_of_chain (turn p q i j a b c d) = then (subst₂ (Joined Q) (sym a) (sym b) (inside p q i j c)) (joined_of_chain d)

module _ {n : ℕ} {phi : Step} (L : Laws n phi) {Ok : List Ternary → List Ternary → Type 0} (F : Family n Ok) where
  pub yes_commutes : (i j : ℕ) → Yes n Ok phi i j → Commutes Ok phi i j
  yes_commutes i j y prev cur old ok = go (ℕ_discrete i j) (dec_lt i j)
    where
      go : Dec (i ≡ j) → Dec (i < j) → eval_order phi prev cur old (i ∷ j ∷ []) ≡ eval_order phi prev cur old (j ∷ i ∷ [])
      go (yes e) d = rw e
      go (no ne) (yes h) = commutes_of_pair L F i j ne (y.0 h) prev cur old ok
      go (no ne) (no h) = sym (commutes_of_pair L F j i (λ e. ne (sym e)) (y.1 (omega arith)) prev cur old ok)

  pub chain_agree : {l m : List ℕ} → Chain (Yes n Ok phi) l m → (prev cur : List Ternary) (old : Ternary) → Ok prev cur →
      eval_order phi prev cur old l ≡ eval_order phi prev cur old m
  chain_agree c = joined_agree L F (joined_of_chain yes_commutes c)
