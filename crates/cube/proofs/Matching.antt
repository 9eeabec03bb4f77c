-- The rows that match in a lane. Assumes nothing.
use Prim.Native.Nat.{ℕ, zero, suc, ◌+◌, ◌-◌, ◌/◌, ◌%◌, ◌<◌, ◌≤◌}
use mathlib.Core.Path.{◌≡◌, refl, sym, ap, ◌∙◌}
use mathlib.Core.Bool.{Bool, true, false, cond, ◌&&◌, and-true, and_assoc}
use mathlib.Core.List.{List}
use mathlib.Core.Logic.{⊎_elim}
use native.Mathlib.Nat.{eq-or-lt_of_le, div-one, zero-add}
use native.Mathlib.Omega.{arith}
use lib.Bits.{bit_and}
use lib.Dec.{eqb}
use borrow.Author.Tests.{eq-eqb, ne_eqb}
use Rattle.base.specs.Limits.{row_limit}
use Rattle.base.proofs.Bools.{lt_or_ge}
use Rattle.orders.specs.Digits.{digit_of}
use Rattle.memo.specs.Rows.{cell_at, rest_of}
use Rattle.planes.specs.Words.{bit}
use Rattle.planes.specs.Planes.{lane_rows}
use Rattle.planes.proofs.Bits.{bit_and_lem, bit_ext}
use Rattle.planes.proofs.Answers.{row_in}
use Rattle.planes.proofs.Planes.{and_swap}
use Rattle.cube.specs.Lanes.{ColumnLanes, row_matches, RowLanes, Lanes}

-- ---- the lanes of a row

pub two_columns : (s : List (List ℕ)) (n i c r x y p q : ℕ) → n ≡ 2 → x ≡ cond (eqb (n - 1) i) c 0 → y ≡ cond (eqb (n - 2) i) c 0 →
    ColumnLanes s (n - 1) 1 x r p → ColumnLanes s (n - 2) 3 y r q → RowLanes s n i c r (bit_and q p)
unfolding row_matches
two_columns s n i c r x y p q en ex ey hp hq = record {
  at = λ l lt. bit_and_lem q p l ∙ rw (hq.at l lt, hp.at l lt, ex, ey, div-one l, en);
}

pub three_columns : (s : List (List ℕ)) (n i c r x y z p q v : ℕ) → n ≡ 3 → x ≡ cond (eqb (n - 1) i) c 0 → y ≡ cond (eqb (n - 2) i) c 0 →
    z ≡ cond (eqb 0 i) c 0 →
    ColumnLanes s (n - 1) 1 x r p → ColumnLanes s (n - 2) 3 y r q → ColumnLanes s 0 9 z r v → RowLanes s n i c r (bit_and (bit_and v q) p)
unfolding row_matches
three_columns s n i c r x y z p q v en ex ey ez hp hq hv = record {
  at = λ l lt.
      let e : l / 9 ≡ l / 3 / 3 = omega arith in
      bit_and_lem (bit_and v q) p l ∙ rw (bit_and_lem v q l, hq.at l lt, hp.at l lt, hv.at l lt, ex, ey, ez, div-one l, e, en);
}

-- ---- the same as sets

module _ (s : List (List ℕ)) (all i c r : ℕ) where
  below : (k v : ℕ) → k ≤ i → bit (rest_of s all i k v) r ≡ (bit all r && row_matches s i c r k v)
  unfolding rest_of row_matches
  below zero v h = sym (and-true (bit all r))
  below (suc k) v h =
      rw (ne_eqb k i (λ e. omega arith))
      (bit_and_lem (rest_of s all i k (v / 3)) (cell_at s k (v % 3)) r
      ∙ rw (below k (v / 3) (omega arith), zero-add (v % 3)) (and_assoc (bit all r) (row_matches s i c r k (v / 3)) (bit (cell_at s k (v % 3)) r)))

  -- the row matches in every column but i, and in column i what it is offered
  pub rest_matches : (k v : ℕ) → i < k → (bit (rest_of s all i k v) r && bit (cell_at s i (c + digit_of v (k - suc i))) r)
      ≡ (bit all r && row_matches s i c r k v)
  unfolding rest_of row_matches digit_of
  rest_matches zero v h = absurd (omega arith)
  rest_matches (suc k) v h = ⊎_elim here (λ (g : suc i < suc k). earlier g (rest_matches k (v / 3) (omega arith))) (eq-or-lt_of_le h)
    where
      here : suc i ≡ suc k → (bit (rest_of s all i (suc k) v) r && bit (cell_at s i (c + digit_of v (suc k - suc i))) r)
          ≡ (bit all r && row_matches s i c r (suc k) v)
      here q =
          let w : k ≡ i = omega arith in
          let z : suc k - suc i ≡ 0 = omega arith in
          rw (z, w, eq-eqb i i refl, below i (v / 3) (omega arith)) (and_assoc (bit all r) (row_matches s i c r i (v / 3)) (bit (cell_at s i (c + v % 3)) r))

      earlier : suc i < suc k → (bit (rest_of s all i k (v / 3)) r && bit (cell_at s i (c + digit_of (v / 3) (k - suc i))) r)
          ≡ (bit all r && row_matches s i c r k (v / 3)) →
          (bit (rest_of s all i (suc k) v) r && bit (cell_at s i (c + digit_of v (suc k - suc i))) r) ≡ (bit all r && row_matches s i c r (suc k) v)
      earlier g e =
          let z : suc k - suc i ≡ suc (k - suc i) = omega arith in
          rw (z, ne_eqb k i (λ q. omega arith), bit_and_lem (rest_of s all i k (v / 3)) (cell_at s k (v % 3)) r, zero-add (v % 3))
          (and_swap (bit (rest_of s all i k (v / 3)) r) (bit (cell_at s k (v % 3)) r) (bit (cell_at s i (c + digit_of (v / 3) (k - suc i))) r)
          ∙ ap (λ (b : Bool). b && bit (cell_at s k (v % 3)) r) e
          ∙ and_assoc (bit all r) (row_matches s i c r k (v / 3)) (bit (cell_at s k (v % 3)) r))

-- where no change is offered it does not matter to which column
pub any_column : (s : List (List ℕ)) (i j r k v : ℕ) → row_matches s i 0 r k v ≡ row_matches s j 0 r k v
unfolding row_matches
any_column s i j r zero v = refl
any_column s i j r (suc k) v = rw (any_column s i j r k (v / 3)) (go (eqb k i) (eqb k j))
  where
    go : (p q : Bool) →
        (row_matches s j 0 r k (v / 3) && bit (cell_at s k (cond p 0 0 + v % 3)) r)
        ≡ (row_matches s j 0 r k (v / 3) && bit (cell_at s k (cond q 0 0 + v % 3)) r)
    go true true = refl
    go true false = refl
    go false true = refl
    go false false = refl

-- the rows of lane l that are in x
module _ (s : List (List ℕ)) (all n m i c : ℕ) (g : List ℕ) (li : i < n) (lm : m ≤ row_limit) (few : (r : ℕ) → m ≤ r → bit all r ≡ false)
    (h : Lanes s n m i c g)
    (l : ℕ) (lt : l < 27) (x : ℕ) where
  abbrev cell : ℕ
  cell = cell_at s i (c + digit_of l (n - suc i))

  abbrev rest : ℕ
  rest = rest_of s all i n l

  same_bit : (r : ℕ) → (bit all r && bit (lane_rows g l) r) ≡ (bit rest r && bit cell r)
  same_bit r = ⊎_elim
      (λ (k : r < m). rw (row_in g r l (omega arith), (h.row r k).at l lt) (sym (rest_matches s all i c r n l li)))
      (λ (k : m ≤ r). let e : bit all r ≡ false = few r k in rw e (sym (rest_matches s all i c r n l li ∙ rw e)))
      (lt_or_ge r m)

  pub lane_set : bit_and (bit_and all x) (lane_rows g l) ≡ bit_and (bit_and rest x) cell
  lane_set = bit_ext _ _ (λ r. three all x (lane_rows g l) r ∙ ap (λ (b : Bool). b && bit x r) (same_bit r) ∙ sym (three rest x cell r))
    where
      three : (a b d r : ℕ) → bit (bit_and (bit_and a b) d) r ≡ ((bit a r && bit d r) && bit b r)
      three a b d r = bit_and_lem (bit_and a b) d r ∙ rw (bit_and_lem a b r) (and_swap (bit a r) (bit b r) (bit d r))
