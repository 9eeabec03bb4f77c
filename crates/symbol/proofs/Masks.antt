-- Sets as numbers: what two of them share, and which are empty. Assumes nothing.
use Prim.Native.Nat.{ℕ, zero, suc, ◌+◌, ◌*◌, ◌/◌, ◌%◌, ◌<◌, ◌≤◌, min}
use mathlib.Core.Path.{◌≡◌, refl, sym, ◌∙◌}
use mathlib.Core.Bool.{Bool, true, false, not, cond, ◌&&◌}
use mathlib.Core.Logic.{⊎_elim}
use native.Mathlib.Nat.{eq-or-lt_of_le}
use native.Mathlib.Omega.{arith}
use lib.Bits.{bit_and, and_step}
use lib.Dec.{eqb}
use borrow.Author.Tests.{eq-eqb, ne_eqb}
use Rattle.base.specs.Search.{some}
use Rattle.base.proofs.Bools.{clash}
use Rattle.base.proofs.Search.{some_at, some_is}
use Rattle.symbol.specs.Masks.{mask_from, mask_of}

abbrev pub digit : Bool → ℕ
digit b = cond b 1 0

pub digit_small : (b : Bool) → digit b < 2
digit_small true = omega arith
digit_small false = omega arith

digit_and : (a b : Bool) → min (digit a) (digit b) ≡ digit (a && b)
digit_and true true = refl
digit_and true false = refl
digit_and false true = refl
digit_and false false = refl

-- a number with a lowest digit put below it
pub half : (x : ℕ) (b : Bool) → (x * 2 + digit b) / 2 ≡ x
half x b = omega (arith, digit_small b)

pub low : (x : ℕ) (b : Bool) → (x * 2 + digit b) % 2 ≡ digit b
low x b = omega (arith, digit_small b)

-- two sets, and the numbers in both
and_from : (f g : ℕ → Bool) (i m : ℕ) → bit_and (mask_from f i m) (mask_from g i m) ≡ mask_from (λ (k : ℕ). f k && g k) i m
unfolding mask_from
and_from f g i zero = refl
and_from f g i (suc m) =
    and_step (mask_from f i (suc m)) (mask_from g i (suc m))
    ∙ rw (
      half (mask_from f (suc i) m) (f i),
      half (mask_from g (suc i) m) (g i),
      low (mask_from f (suc i) m) (f i),
      low (mask_from g (suc i) m) (g i),
      and_from f g (suc i) m,
      digit_and (f i) (g i),
    )

pub mask_and : (f g : ℕ → Bool) (n : ℕ) → bit_and (mask_of n f) (mask_of n g) ≡ mask_of n (λ (k : ℕ). f k && g k)
unfolding mask_of
mask_and f g n = and_from f g 0 n

-- a set with a number in it, and the empty one
in_from : (f : ℕ → Bool) (i m k : ℕ) → i ≤ k → k < i + m → f k ≡ true → 0 < mask_from f i m
unfolding mask_from
in_from f i zero k l h e = absurd (omega arith)
in_from f i (suc m) k l h e =
    ⊎_elim
    (λ (q : i ≡ k). let t : f i ≡ true = rw q e in rw t (omega arith))
    (λ (g : i < k). let p = in_from f (suc i) m k g (omega arith) e in omega arith)
    (eq-or-lt_of_le l)

none_from : (f : ℕ → Bool) (i m : ℕ) → ((k : ℕ) → k < i + m → f k ≡ false) → mask_from f i m ≡ 0
unfolding mask_from
none_from f i zero h = refl
none_from f i (suc m) h = rw (h i (omega arith), none_from f (suc i) m (λ k l. h k (omega arith)))

found : (f : ℕ → Bool) (n : ℕ) → some n f ≡ false → (k : ℕ) → k < n → (b : Bool) → f k ≡ b → b ≡ false
found f n e k h true q = clash (sym (some_at f n k h q) ∙ e)
found f n e k h false q = refl

by_some : (f : ℕ → Bool) (n : ℕ) (b : Bool) → some n f ≡ b → b ≡ not (eqb (mask_of n f) 0)
unfolding mask_of
by_some f n true e =
    let w = some_is f n e in
    let p = in_from f 0 n w.0 (omega arith) (omega (arith, w.1)) w.2 in
    rw (ne_eqb (mask_from f 0 n) 0 (λ q. omega arith))
by_some f n false e = rw (eq-eqb (mask_from f 0 n) 0 (none_from f 0 n (λ k h. found f n e k (omega arith) (f k) refl)))

pub some_mask : (f : ℕ → Bool) (n : ℕ) → some n f ≡ not (eqb (mask_of n f) 0)
some_mask f n = by_some f n (some n f) refl
