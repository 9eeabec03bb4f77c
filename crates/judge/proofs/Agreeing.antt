-- The two orders of a pair agree for every vector exactly where no candidate differs. Assumes nothing.
use Prim.Native.Nat.{ℕ, zero, suc, ◌+◌, ◌-◌, ◌*◌, ◌/◌, ◌%◌, ◌^◌, ◌<◌, ◌≤◌}
use mathlib.Core.Path.{◌≡◌, refl, sym, ◌∙◌}
use mathlib.Core.Bool.{true, false, ◌||◌, or-true}
use mathlib.Core.List.{List}
use native.Mathlib.Nat.{pow-suc}
use native.Mathlib.Omega.{arith}
use lib.Dec.{eqb}
use borrow.Author.Tests.{eq-eqb, eqb-true, not-false}
use Rattle.base.proofs.Search.{first_none, first_below}
use Rattle.table.specs.Table.{Table}
use Rattle.orders.specs.Verdict.{candidates}
use Rattle.orders.specs.Digits.{put_digit}
use Rattle.orders.proofs.Digits.{digit_is, put_lt}
use Rattle.memo.specs.Rows.{cells, all_rows}
use Rattle.memo.specs.Pair.{others_of, first_then, second_then}
use Rattle.memo.proofs.Others.{digit_same, digit_other, others_put}
use Rattle.exchange.specs.Pairs.{PairAgrees}
use Rattle.pair.specs.Search.{weight, differs_by, differs_in, differs_at, first_at}
use Rattle.judge.specs.Search.{pair_first}
use Rattle.judge.proofs.Findings.{pair_first_lem}

none_differs : (t : Table) (i j r : ℕ) → PairAgrees t i j → differs_at t i j r ≡ false
unfolding differs_at differs_in differs_by
none_differs t i j r A =
    rw (eq-eqb _ _
    ((A.at (r / 27)).same (r / 27 / weight t i % 3) (r / 27 / weight t j % 3) (r % 27 / 9) (r % 27 / 3 % 3) (r % 27 % 3) (omega arith) (omega arith)
    (omega arith) (omega arith) (omega arith)))

none_first : (t : Table) (i j : ℕ) → PairAgrees t i j → first_at t i j ≡ candidates t.inputs
unfolding first_at
none_first t i j A = first_none (differs_at t i j) (candidates t.inputs) (λ r l. none_differs t i j r A)

pub agreed : (t : Table) (i j : ℕ) → i < j → j < t.inputs → PairAgrees t i j → pair_first t i j ≡ candidates t.inputs
agreed t i j a b A = pair_first_lem t i j a b ∙ none_first t i j A

-- ---- and the other way: every vector of the other columns, with any values of these two, has a number

-- the number that the last n digits make
low : ℕ → ℕ → ℕ
low zero v = 0
low (suc n) v = low n (v / 3) * 3 + v % 3

low_lt : (n v : ℕ) → low n v < 3 ^ n
unfolding low
low_lt zero v = omega arith
low_lt (suc n) v = rw (pow-suc 3 n) (omega (arith, low_lt n (v / 3)))

others_low : (s : List (List ℕ)) (all i j k v : ℕ) → others_of s all i j k (low k v) ≡ others_of s all i j k v
unfolding others_of low
others_low s all i j zero v = refl
others_low s all i j (suc k) v =
    let a : (low k (v / 3) * 3 + v % 3) / 3 ≡ low k (v / 3) = omega arith in
    let b : (low k (v / 3) * 3 + v % 3) % 3 ≡ v % 3 = omega arith in
    rw (a, b, others_low s all i j k (v / 3))

module _ (n i j : ℕ) (lt : i < j) (lj : j < n) (v a b : ℕ) (la : a < 3) (lb : b < 3) where
  number : ℕ
  number = put_digit a (n - suc i) (put_digit b (n - suc j) (low n v))

  number_lt : number < 3 ^ n
  unfolding number
  number_lt = put_lt a (n - suc i) n _ la (omega arith) (put_lt b (n - suc j) n _ lb (omega arith) (low_lt n v))

  first_digit : number / 3 ^ (n - suc i) % 3 ≡ a
  unfolding number
  first_digit = sym (digit_is number (n - suc i)) ∙ digit_same a (n - suc i) _ la

  second_digit : number / 3 ^ (n - suc j) % 3 ≡ b
  unfolding number
  second_digit = sym (digit_is number (n - suc j)) ∙ digit_other a (n - suc i) (n - suc j) _ la (λ e. omega arith) ∙ digit_same b (n - suc j) _ lb

  others_number : (s : List (List ℕ)) (all : ℕ) → others_of s all i j n number ≡ others_of s all i j n v
  unfolding number
  others_number s all =
      let p : (eqb i i || eqb i j) ≡ true = rw (eq-eqb i i refl) in
      let q : (eqb j i || eqb j j) ≡ true = rw (eq-eqb j j refl) (or-true (eqb j i)) in
      others_put s all i j i n _ a p la (omega arith) ∙ others_put s all i j j n _ b q lb lj ∙ others_low s all i j n v

no_difference : (t : Table) (i j : ℕ) → i < j → j < t.inputs → candidates t.inputs ≤ first_at t i j → (v a b x y o : ℕ) → a < 3 → b < 3 → x < 3 →
    y < 3 → o < 3 →
    first_then t (cells t) i j (others_of (cells t) (all_rows t) i j t.inputs v) a b x y o
    ≡ second_then t (cells t) i j (others_of (cells t) (all_rows t) i j t.inputs v) a b x y o
unfolding first_at differs_at differs_in differs_by
no_difference t i j lt lj e v a b x y o la lb lx ly lo =
    let n : ℕ = t.inputs in
    let w : ℕ = number n i j lt lj v a b la lb in
    let r : ℕ = w * 27 + (x * 9 + (y * 3 + o)) in
    let low = number_lt n i j lt lj v a b la lb in
    let h : r < candidates n = omega (arith, low) in
    let f = first_below (differs_at t i j) (candidates n) r (omega (arith, h, e)) in
    let ew : r / 27 ≡ w = omega arith in
    let ex : r % 27 / 9 ≡ x = omega arith in
    let ey : r % 27 / 3 % 3 ≡ y = omega arith in
    let eo : r % 27 % 3 ≡ o = omega arith in
    eqb-true _ _ (not-false _ (rw (
      ew,
      ex,
      ey,
      eo,
      first_digit n i j lt lj v a b la lb,
      second_digit n i j lt lj v a b la lb,
      others_number n i j lt lj v a b la lb (cells t) (all_rows t),
    ) at f))

pub agrees_by : (t : Table) (i j : ℕ) → i < j → j < t.inputs → candidates t.inputs ≤ pair_first t i j → PairAgrees t i j
agrees_by t i j lt lj e = record {
  at = λ v. record { same = λ a b x y o la lb lx ly lo. no_difference t i j lt lj (rw (pair_first_lem t i j lt lj) at e) v a b x y o la lb lx ly lo };
}
