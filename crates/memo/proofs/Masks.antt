-- Sets of rows as numbers. Assumes nothing.
use Prim.Native.Nat.{ℕ, zero, suc, ◌+◌, ◌-◌, ◌*◌, ◌^◌, ◌<◌, ◌≤◌}
use mathlib.Core.Path.{◌≡◌, refl, sym, ap, ◌∙◌}
use mathlib.Core.Bool.{Bool, true, false, cond}
use mathlib.Core.Logic.{⊎_elim}
use native.Mathlib.Nat.{pow-suc, eq-zero-or-pos, lt_of_lt_of_le, pow-le-pow_right}
use native.Mathlib.Omega.{arith}
use lib.Count.{count_trailing_zeros, under}
use lib.Dec.{lit<}
use borrow.Author.Tests.{eq-eqb, ne_eqb}
use Rattle.base.specs.Search.{first, first_from}
use Rattle.symbol.specs.Masks.{mask_from, mask_of}
use Rattle.symbol.proofs.Masks.{digit, digit_small, half, low}
use Rattle.memo.specs.Rows.{lowest}

ext_from : (f g : ℕ → Bool) → ((k : ℕ) → f k ≡ g k) → (i m : ℕ) → mask_from f i m ≡ mask_from g i m
unfolding mask_from
ext_from f g e i zero = refl
ext_from f g e i (suc m) = rw (ext_from f g e (suc i) m, e i)

-- sets with the same numbers in them
pub mask_ext : (f g : ℕ → Bool) (n : ℕ) → ((k : ℕ) → f k ≡ g k) → mask_of n f ≡ mask_of n g
unfolding mask_of
mask_ext f g n e = ext_from f g e 0 n

pub mask_lt : (f : ℕ → Bool) (i m : ℕ) → mask_from f i m < 2 ^ m
unfolding mask_from
mask_lt f i zero = omega arith
mask_lt f i (suc m) = rw (pow-suc 2 m) (omega (arith, mask_lt f (suc i) m, digit_small (f i)))

-- a loop that goes down from n: at its start, a turn, and its end
pub mask_top : (f : ℕ → Bool) (n i : ℕ) → i ≡ n → 0 ≡ mask_from f i (n - i)
unfolding mask_from
mask_top f n i h = let e : n - i ≡ 0 = omega arith in rw e

pub mask_down : (f : ℕ → Bool) (n i m b : ℕ) → 0 < i → i ≤ n → m ≡ mask_from f i (n - i) → b ≡ cond (f (i - 1)) 1 0
    → m * 2 + b ≡ mask_from f (i - 1) (n - (i - 1))
unfolding mask_from
mask_down f n i m b h l p q =
    let e : n - (i - 1) ≡ suc (n - i) = omega arith in
    let d : i ≡ suc (i - 1) = omega arith in
    rw (e, p, q, ← d)

pub mask_bottom : (f : ℕ → Bool) (n i m : ℕ) → i ≤ 0 → m ≡ mask_from f i (n - i) → m ≡ mask_of n f
unfolding mask_of
mask_bottom f n i m h p = let e : i ≡ 0 = omega arith in p ∙ rw e (ap (mask_from f 0) (omega arith))

-- the lowest bit is the first row
pick_first : (b : Bool) (i w x r : ℕ) → 0 < x * 2 + digit b → (0 < x → suc i + count_trailing_zeros w x ≡ r)
    → i + under (digit b) (count_trailing_zeros w x) ≡ cond b i r
pick_first true i w x r h go = omega arith
pick_first false i w x r h go = omega (arith, go (omega arith))

lowest_from : (f : ℕ → Bool) (i m w : ℕ) → m ≤ w → 0 < mask_from f i m → i + count_trailing_zeros w (mask_from f i m) ≡ first_from f i m
unfolding mask_from first_from count_trailing_zeros
lowest_from f i zero w h p = absurd (omega arith)
lowest_from f i (suc m) zero h p = absurd (omega arith)
lowest_from f i (suc m) (suc w) h p =
    rw (low (mask_from f (suc i) m) (f i), half (mask_from f (suc i) m) (f i))
    (pick_first (f i) i w (mask_from f (suc i) m) (first_from f (suc i) m) p (λ q. lowest_from f (suc i) m w (omega arith) q))

pick_none : (b : Bool) (x i r e : ℕ) → x * 2 + digit b ≡ 0 → (x ≡ 0 → r ≡ e) → cond b i r ≡ e
pick_none true x i r e h go = absurd (omega arith)
pick_none false x i r e h go = go (omega arith)

none_from : (f : ℕ → Bool) (i m : ℕ) → mask_from f i m ≡ 0 → first_from f i m ≡ i + m
unfolding mask_from first_from
none_from f i zero h = omega arith
none_from f i (suc m) h = pick_none (f i) (mask_from f (suc i) m) i (first_from f (suc i) m) (i + suc m) h (λ z. none_from f (suc i) m z ∙ omega arith)

pub lowest_first : (f : ℕ → Bool) (n : ℕ) → n ≤ 64 → lowest n (mask_of n f) ≡ first n f
unfolding lowest mask_of first
lowest_first f n h =
    ⊎_elim
    (λ z. rw (eq-eqb _ 0 z) (sym (none_from f 0 n z ∙ omega arith)))
    (λ p. rw (ne_eqb (mask_from f 0 n) 0 (λ z. omega arith)) (omega (arith, lowest_from f 0 n 64 h p)))
    (eq-zero-or-pos (mask_from f 0 n))

-- a mask of fewer than 64 rows has room for one more
pub mask_room : (f : ℕ → Bool) (i d m : ℕ) → m ≡ mask_from f i d → d < 64 → m < 2 ^ 63
mask_room f i d m e h = rw e (lt_of_lt_of_le (mask_lt f i d) (pow-le-pow_right {n = 2} (lit< tt) {i = d} {j = 63} (omega arith)))

pub bit_small : (b : Bool) (r : ℕ) → r ≡ cond b 1 0 → r < 2
bit_small b r e = rw e (digit_small b)

-- the mask of all numbers below n, and one more
all_from : (i m : ℕ) → mask_from (λ (r : ℕ). true) (suc i) m ≡ mask_from (λ (r : ℕ). true) i m
unfolding mask_from
all_from i zero = refl
all_from i (suc m) = rw (all_from (suc i) m)

pub all_more : (n m : ℕ) → m ≡ mask_of n (λ (r : ℕ). true) → m * 2 + 1 ≡ mask_of (n + 1) (λ (r : ℕ). true)
unfolding mask_of mask_from
all_more n m e = let s : n + 1 ≡ suc n = omega arith in rw (s, e, all_from 0 n)
