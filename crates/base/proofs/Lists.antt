-- Searches of a list, and searches of the numbers of its places. Assumes nothing.
use Prim.Native.Nat.{ℕ, zero, suc, ◌<◌, ◌≤◌}
use mathlib.Core.Path.{◌≡◌, refl, sym, ap, ◌∙◌}
use mathlib.Core.Bool.{Bool, true, false, ◌&&◌, ◌||◌, and-true}
use mathlib.Core.List.{List, [], ◌∷◌}
use native.Mathlib.Numerals.{add-one}
use native.Mathlib.Nat.{zero-add}
use native.Mathlib.Omega.{arith}
use lib.ListN.{length, take, get_or, replicate, length-replicate, get_or-eq_default}
use Rattle.std.proofs.lemmas.List.{get_or-replicate}
use mathlib.Core.Logic.{⊎_elim}
use lib.Seq.{take-length}
use Rattle.std.specs.List.{fold, list_all, list_any, range_with_len}
use Rattle.std.proofs.lemmas.List.FromFn.{length-range_with_len, get_or-range_with_len}
use Rattle.std.proofs.lemmas.List.Folds.{list_all_more, list_any_more}
use Rattle.base.specs.Search.{every, some}
use Rattle.base.proofs.Search.{every_same, some_same}
use Rattle.base.proofs.Bools.{lt_or_ge}

module _ {A : Type 0} (f : A → Bool) (xs : List A) (d : A) where
  all_front : (n : ℕ) → n ≤ length xs → list_all f (take n xs) ≡ every n (λ (k : ℕ). f (get_or xs k d))
  unfolding every
  all_front zero h = refl
  all_front (suc n) h =
      let more : list_all f (take (suc n) xs) ≡ (list_all f (take n xs) && f (get_or xs n d)) = rw add-one at (list_all_more f xs n d (omega arith)) in
      more ∙ ap (λ (b : Bool). b && f (get_or xs n d)) (all_front n (omega arith))

  pub list_all_every : list_all f xs ≡ every (length xs) (λ (k : ℕ). f (get_or xs k d))
  list_all_every = ap (list_all f) (sym (take-length xs)) ∙ all_front (length xs) (omega arith)

  any_front : (n : ℕ) → n ≤ length xs → list_any f (take n xs) ≡ some n (λ (k : ℕ). f (get_or xs k d))
  unfolding some
  any_front zero h = refl
  any_front (suc n) h =
      let more : list_any f (take (suc n) xs) ≡ (list_any f (take n xs) || f (get_or xs n d)) = rw add-one at (list_any_more f xs n d (omega arith)) in
      more ∙ ap (λ (b : Bool). b || f (get_or xs n d)) (any_front n (omega arith))

  pub list_any_some : list_any f xs ≡ some (length xs) (λ (k : ℕ). f (get_or xs k d))
  list_any_some = ap (list_any f) (sym (take-length xs)) ∙ any_front (length xs) (omega arith)

module _ (f : ℕ → Bool) (n : ℕ) where
  below : (k : ℕ) → k < n → f (get_or (range_with_len 0 n) k 0) ≡ f k
  below k h = ap f (get_or-range_with_len 0 n k 0 h ∙ zero-add k)

  -- all, or any, of the numbers below n
  pub range_all_every : list_all f (range_with_len 0 n) ≡ every n f
  range_all_every =
      list_all_every f (range_with_len 0 n) 0
      ∙ rw (length-range_with_len 0 n) (every_same (λ (k : ℕ). f (get_or (range_with_len 0 n) k 0)) f n below)

  pub range_any_some : list_any f (range_with_len 0 n) ≡ some n f
  range_any_some =
      list_any_some f (range_with_len 0 n) 0
      ∙ rw (length-range_with_len 0 n) (some_same (λ (k : ℕ). f (get_or (range_with_len 0 n) k 0)) f n below)

-- a fold that takes every element into account, without an early end
and_first : (a b c : Bool) → ((a && b) && c) ≡ (a && (b && c))
and_first true b c = refl
and_first false b c = refl

fold_from : {A : Type 0} (f : A → Bool) (b : Bool) (xs : List A) → fold (λ (t : Bool) (x : A). t && f x) b xs ≡ (b && list_all f xs)
fold_from f b [] = sym (and-true b)
fold_from f b (x ∷ xs) = fold_from f (b && f x) xs ∙ and_first b (f x) (list_all f xs)

pub fold_all : {A : Type 0} (f : A → Bool) (xs : List A) → fold (λ (t : Bool) (x : A). t && f x) true xs ≡ list_all f xs
fold_all f xs = fold_from f true xs

pub zeros_at : (n p : ℕ) → get_or {A = ℕ} (replicate n 0) p 0 ≡ 0
zeros_at n p =
    ⊎_elim
    (λ (l : p < n). get_or-replicate {A = ℕ} n p 0 0 l)
    (λ (g : n ≤ p). get_or-eq_default (replicate n 0) 0 (omega (arith, length-replicate {A = ℕ} n 0)))
    (lt_or_ge p n)
