-- What a search gives as a number below n, or none. Assumes nothing.
use Prim.Native.Nat.{ℕ, ◌<◌, ◌≤◌}
use mathlib.Core.Path.{◌≡◌}
use mathlib.Core.Bool.{Bool, true, false}
use mathlib.Core.Logic.{⊎_elim}
use native.Mathlib.Omega.{arith}
use borrow.Author.Tests.{lt-ltb, le-ltb}
use Rattle.std.specs.Prelude.{Some, None}
use Rattle.base.specs.Search.{first}
use Rattle.base.proofs.Bools.{lt_or_ge}
use Rattle.base.proofs.Search.{first_found, first_none}
use Rattle.pair.specs.Search.{found}

-- what stands behind `Some`, and behind `None`
pub some_is : (n x r : ℕ) → Some r ≡ found n x → (r ≡ x) × (x < n)
some_is n x r e = ⊎_elim
    (λ (l : x < n). let z : r ≡ x = cc (rw (lt-ltb x n l) at e) in (z, l))
    (λ (g : n ≤ x). cc (rw (le-ltb x n g) at e))
    (lt_or_ge x n)

pub none_is : (n x : ℕ) → None ≡ found n x → n ≤ x
none_is n x e = ⊎_elim (λ (l : x < n). cc (rw (lt-ltb x n l) at e)) (λ (g : n ≤ x). g) (lt_or_ge x n)

module _ (f : ℕ → Bool) (n : ℕ) where
  pub found_below : (k : ℕ) → k < n → ((m : ℕ) → m < k → f m ≡ false) → f k ≡ true → Some k ≡ found n (first n f)
  found_below k h not_yet here = rw (first_found f n k h not_yet here, lt-ltb k n h)

  pub none_below : (k : ℕ) → n ≤ k → ((m : ℕ) → m < k → f m ≡ false) → None ≡ found n (first n f)
  none_below k h not_yet = rw (first_none f n (λ m l. not_yet m (omega arith)), le-ltb n n (omega arith))
