-- The sets of rows of a column, row by row. Assumes nothing.
use Prim.Native.Nat.{ℕ, zero, suc, ◌+◌, ◌-◌, ◌*◌, ◌/◌, ◌%◌, ◌^◌, ◌<◌, ◌≤◌}
use mathlib.Core.Path.{◌≡◌, sym, ◌∙◌}
use mathlib.Core.Bool.{Bool, cond}
use mathlib.Core.List.{List, []}
use mathlib.Core.Logic.{⊎_elim}
use native.Mathlib.Nat.{pow-suc, div-div-eq-div-mul, mul_comm, div-one, add-zero, zero-add, eq-or-lt_of_le}
use native.Mathlib.Omega.{arith}
use lib.ListN.{length, get_or, set, replicate, length-set, length-replicate, get_or-replicate}
use lib.Seq.{get_or-set_same, get_or-set_other}
use borrow.Author.Tests.{lt-ltb, le-ltb}
use Rattle.base.proofs.Bools.{lt_or_ge}
use Rattle.base.specs.Listed.{listed}
use Rattle.base.proofs.Listed.{listed_is, listed_length, listed_at}
use Rattle.base.proofs.Patched.{Patched}
use Rattle.symbol.specs.Match.{offered}
use Rattle.table.specs.Table.{Table, row_at, symbol_at}
use Rattle.symbol.specs.declared.Symbol.TheVariants.{Held}
use Rattle.symbol.specs.Masks.{mask_from, mask_of, offers}
use Rattle.symbol.proofs.Masks.{half, low}
use Rattle.memo.specs.Rows.{column_of, offered_rows, cell_row, cells}
use Rattle.memo.proofs.Masks.{mask_top, mask_down, mask_bottom, mask_room}

-- ---- what stands in a column

pub column_symbol : (t : Table) (i k : ℕ) → k < t.inputs → column_of t i k ≡ symbol_at (row_at t i) k
unfolding column_of
column_symbol t i k h = rw (lt-ltb k t.inputs h)

pub column_state : (t : Table) (i k : ℕ) → t.inputs ≤ k → column_of t i k ≡ Held (row_at t i).state
unfolding column_of
column_state t i k h = rw (le-ltb k t.inputs h)

-- ---- one bit of a set

mask_digit : (f : ℕ → Bool) (i m c : ℕ) → c < m → mask_from f i m / 2 ^ c % 2 ≡ cond (f (i + c)) 1 0
unfolding mask_from
mask_digit f i zero c h = absurd (omega arith)
mask_digit f i (suc m) zero h = rw (div-one (mask_from f (suc i) m * 2 + cond (f i) 1 0), add-zero i) (low (mask_from f (suc i) m) (f i))
mask_digit f i (suc m) (suc c) h =
    let e : i + suc c ≡ suc i + c = omega arith in
    let x : ℕ = mask_from f (suc i) m * 2 + cond (f i) 1 0 in
    let d : x / 2 ^ suc c ≡ x / 2 / 2 ^ c = rw (pow-suc 2 c, mul_comm (2 ^ c) 2) (sym (div-div-eq-div-mul x 2 (2 ^ c))) in
    rw (d, half (mask_from f (suc i) m) (f i), e) (mask_digit f (suc i) m c (omega arith))

-- ---- a column, row by row from the last

module _ (t : Table) (k : ℕ) where
  abbrev rows : ℕ
  rows = length t.rows

  abbrev taken : ℕ → ℕ → Bool
  taken c r = offered (column_of t r k) c

  -- the twelve sets of the rows from i on
  pub record From (i : ℕ) (s : List ℕ) : Type 0 where
    pub within : i ≤ rows
    pub long : length s ≡ 12
    pub sets : (c : ℕ) → c < 12 → get_or s c 0 ≡ mask_from (taken c) i (rows - i)

  pub from_none : (i : ℕ) → i ≡ rows → From i (replicate {A = ℕ} 12 0)
  from_none i h = record {
    within = omega arith;
    long = length-replicate {A = ℕ} 12 0;
    sets = λ c b. get_or-replicate {A = ℕ} 12 c 0 0 b ∙ mask_top (taken c) rows i h;
  }

  pub from_room : (i : ℕ) (s : List ℕ) → From i s → 0 < i → rows ≤ 64 → (c : ℕ) → c < 12 → get_or s c 0 < 2 ^ 63
  from_room i s w h l c b = mask_room (taken c) i (rows - i) (get_or s c 0) (w.sets c b) (omega (arith, w.within))

  pub from_more : (i bits : ℕ) (s u : List ℕ) → 0 < i → From i s → bits ≡ offers (column_of t (i - 1) k) →
      Patched (λ (c : ℕ). get_or s c 0 * 2 + bits / 2 ^ c % 2) 0 s u 12 → From (i - 1) u
  unfolding offers mask_of
  from_more i bits s u h w e p = record {
    within = omega (arith, w.within);
    long = p.long ∙ w.long;
    sets = λ c b. rw (zero-add c) at (p.inside c b) ∙ mask_down (taken c) rows i (get_or s c 0) (bits / 2 ^ c % 2) h w.within (w.sets c b)
        (rw e (mask_digit (offered (column_of t (i - 1) k)) 0 12 c b ∙ rw (zero-add c)));
  }

  pub from_all : (i : ℕ) (s : List ℕ) → i ≤ 0 → From i s → s ≡ cell_row t k
  unfolding cell_row offered_rows
  from_all i s h w = sym (listed_is (offered_rows t k) 12 s 0 w.long (λ c b. sym (mask_bottom (taken c) rows i (get_or s c 0) h (w.sets c b))))

-- a column behind the last is the state's
behind_at : (t : Table) (k c : ℕ) → t.inputs ≤ k → offered_rows t k c ≡ offered_rows t t.inputs c
unfolding offered_rows column_of
behind_at t k c h = rw (le-ltb k t.inputs h, le-ltb t.inputs t.inputs (omega arith))

pub behind : (t : Table) (k : ℕ) → t.inputs ≤ k → cell_row t k ≡ cell_row t t.inputs
unfolding cell_row
behind t k h =
    listed_is (offered_rows t k) 12 (listed (offered_rows t t.inputs) 12) 0 (listed_length (offered_rows t t.inputs) 12)
    (λ c b. behind_at t k c h ∙ sym (listed_at (offered_rows t t.inputs) 12 c 0 b))

-- the columns: the first k have their own sets, and the others the state's
pub record Columns (t : Table) (s : List (List ℕ)) (k : ℕ) : Type 0 where
  pub long : length s ≡ 10
  pub own : (q : ℕ) → q < k → get_or s q [] ≡ cell_row t q
  pub states : (q : ℕ) → k ≤ q → q < 10 → get_or s q [] ≡ cell_row t t.inputs

pub columns_more : (t : Table) (s : List (List ℕ)) (k : ℕ) (r : List ℕ) → k < 10 → r ≡ cell_row t k → Columns t s k → Columns t (set s k r) (k + 1)
columns_more t s k r h e c = record {
  long = length-set s k r ∙ c.long;
  own = λ q l. ⊎_elim
      (λ (z : q ≡ k). rw (z, get_or-set_same s k r [] (omega (arith, c.long))) e)
      (λ (z : q < k). rw (get_or-set_other s k q r [] (λ y. omega arith)) (c.own q z))
      (eq-or-lt_of_le {n = q} {m = k} (omega arith));
  states = λ q g l. rw (get_or-set_other s k q r [] (λ y. omega arith)) (c.states q (omega arith) l);
}

pub columns_all : (t : Table) (s : List (List ℕ)) (k : ℕ) → t.inputs ≤ k → Columns t s k → s ≡ cells t
unfolding cells
columns_all t s k h c = sym (listed_is (cell_row t) 10 s [] c.long (λ q l. ⊎_elim
    (λ (z : q < k). sym (c.own q z))
    (λ (z : k ≤ q). behind t q (omega arith) ∙ sym (c.states q z l))
    (lt_or_ge q k)))
