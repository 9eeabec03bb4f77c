-- The steps of one column, in words. Assumes nothing.
use Prim.Native.Nat.{ℕ, zero, suc, ◌+◌, ◌-◌, ◌*◌, ◌/◌, ◌%◌, ◌^◌, ◌<◌, ◌≤◌}
use mathlib.Core.Path.{◌≡◌, refl, sym, ap, ◌∙◌}
use mathlib.Core.Bool.{Bool, true, false, cond, ◌&&◌, ◌||◌, xor, and-true, and-false, or-true, or-false}
use mathlib.Core.List.{List, [], ◌∷◌}
use native.Mathlib.Nat.{zero-add, add-zero}
use native.Mathlib.Omega.{arith}
use lib.Bits.{bit_and, bit_or, bit_xor}
use lib.Dec.{eqb}
use lib.ListN.{length, get_or, set}
use lib.Seq.{get_or-set_same, get_or-set_other}
use borrow.Author.Tests.{eqb-true, eqb-false, eq-eqb, ne_eqb}
use Rattle.base.specs.Limits.{row_limit}
use Rattle.table.specs.Table.{Table}
use Rattle.orders.specs.Digits.{digit_of}
use Rattle.orders.proofs.Digits.{digit_is, digit_low}
use Rattle.step.specs.Step.{answer_or}
use Rattle.memo.specs.declared.Memo.{Memo}
use Rattle.memo.specs.Memo.{MemoOf}
use Rattle.memo.specs.Outputs.{Low}
use Rattle.memo.specs.Rows.{all_rows, cell_at, rest_of, out_by, entry_of}
use Rattle.planes.specs.Words.{bit, Told}
use Rattle.planes.specs.Planes.{lane_rows, answer_in, answered, or_x, Spread, Closed}
use Rattle.planes.proofs.Bits.{bit_and_lem, bit_or_lem, bit_xor_lem, bit_past}
use Rattle.planes.proofs.Planes.{all_lanes, level_told, swap, told_same}
use Rattle.exchange.proofs.Entered.{out_rank, entry_low, given_of}
use Rattle.plain.proofs.Sets.{both_in}
use Rattle.plain.proofs.Alike as alike
use Rattle.cube.specs.Lanes.{Zeros, Lanes}
use Rattle.cube.specs.Steps.{Levels, Stays, Step, step_in, Steps}
use Rattle.cube.proofs.Shifts.{cut_bit}
use Rattle.cube.proofs.Matching.{any_column, lane_set}

-- ---- the level rows

any_lanes : (s : List (List ℕ)) (n m i j : ℕ) (g : List ℕ) → Lanes s n m i 0 g → Lanes s n m j 0 g
any_lanes s n m i j g h = record { row = λ r lr. record { at = λ l lt. (h.row r lr).at l lt ∙ any_column s i j r n l } }

module _ (memo : Memo) where
  abbrev cells : List (List ℕ)
  cells = memo.cells

  abbrev outputs : List ℕ
  outputs = memo.outputs

  abbrev inputs : ℕ
  inputs = memo.inputs

  few : (t : Table) → MemoOf t memo → (r : ℕ) → memo.rows ≤ r → bit memo.all r ≡ false
  unfolding all_rows
  few t M r l = rw M.all_are (bit_past (λ (i : ℕ). true) (length t.rows) r (rw M.rows_are at l))

  -- what the level rows answer where column k has its value in the lane
  abbrev level : ℕ → ℕ → ℕ → ℕ
  level k o l = answer_in outputs o
      (bit_and (bit_and (rest_of cells memo.all k inputs l) (cell_at cells inputs o)) (cell_at cells k (digit_of l (inputs - suc k))))

  abbrev Spreads : List ℕ → ℕ → List ℕ → Type 0
  Spreads g o p = Low outputs → Spread outputs g o (bit_and memo.all (cell_at cells inputs o)) (0 ∷ 0 ∷ 0 ∷ 134217727 ∷ []) p

  pub levels_by : (i : ℕ) (g a b c : List ℕ) → memo.rows ≤ row_limit → Lanes cells inputs memo.rows i 0 g → Spreads g 0 a → Spreads g 1 b →
      Spreads g 2 c → Levels memo (a ∷ b ∷ c ∷ [])
  levels_by i g a b c lm h ha hb hc = record { at = λ t M k o lk lo. go t M k o lk lo }
    where
      told : (t : Table) → MemoOf t memo → (k o : ℕ) → k < inputs → (p : List ℕ) → Spreads g o p → Told 4 p (level k o)
      told t M k o lk p hp = told_same 4 p _ _
          (λ l lt.
          ap (answer_in outputs o)
          (lane_set cells memo.all inputs memo.rows k 0 g lk lm (few t M) (any_lanes cells inputs memo.rows i k g h) l lt (cell_at cells inputs o)
          ∙ ap (λ (x : ℕ). bit_and (bit_and (rest_of cells memo.all k inputs l) (cell_at cells inputs o)) (cell_at cells k x))
          (zero-add (digit_of l (inputs - suc k)))))
          (level_told outputs g o _ _ p refl (hp M.outputs_are.low))

      go : (t : Table) → MemoOf t memo → (k o : ℕ) → k < inputs → o < 3 → Told 4 (get_or (a ∷ b ∷ c ∷ []) o []) (level k o)
      go t M k zero lk lo = told t M k 0 lk a ha
      go t M k (suc zero) lk lo = told t M k 1 lk b hb
      go t M k (suc (suc zero)) lk lo = told t M k 2 lk c hc
      go t M k (suc (suc (suc o))) lk lo = absurd (omega arith)

-- ---- where the column stays

module _ (p : List ℕ) (o still : ℕ) (lo : o < 3) where
  abbrev gone : ℕ
  gone = bit_xor still 134217727

  abbrev cleared : List ℕ
  cleared = bit_and (get_or p 0 0) gone ∷ bit_and (get_or p 1 0) gone ∷ bit_and (get_or p 2 0) gone ∷ bit_and (get_or p 3 0) gone ∷ []

  module _ (f : ℕ → ℕ) (t : Told 4 p f) where
    plane : (m l : ℕ) → m < 4 → l < 27 → bit (bit_and (get_or p m 0) gone) l ≡ (eqb (f l) m && xor (bit still l) true)
    plane m l lm lt =
        bit_and_lem (get_or p m 0) gone l
        ∙ rw (t.at m l lm lt) (ap (λ (b : Bool). eqb (f l) m && b) (bit_xor_lem still 134217727 l ∙ rw (all_lanes l lt)))

    cleared_at : (m l : ℕ) → m < 4 → l < 27 → bit (get_or cleared m 0) l ≡ (eqb (f l) m && xor (bit still l) true)
    cleared_at zero l lm lt = plane 0 l lm lt
    cleared_at (suc zero) l lm lt = plane 1 l lm lt
    cleared_at (suc (suc zero)) l lm lt = plane 2 l lm lt
    cleared_at (suc (suc (suc zero))) l lm lt = plane 3 l lm lt
    cleared_at (suc (suc (suc (suc m)))) l lm lt = absurd (omega arith)

    on_plane : (q : ℕ) (b : Bool) → ((eqb q o && xor b true) || b) ≡ eqb (cond b o q) o
    unfolding xor
    on_plane q true = or-true (eqb q o && false) ∙ sym (eq-eqb o o refl)
    on_plane q false = or-false (eqb q o && true) ∙ and-true (eqb q o)

    off_plane : (q m : ℕ) (b : Bool) → (m ≡ o → ⊥) → (eqb q m && xor b true) ≡ eqb (cond b o q) m
    unfolding xor
    off_plane q m true ne = and-false (eqb q m) ∙ sym (ne_eqb o m (λ e. ne (sym e)))
    off_plane q m false ne = and-true (eqb q m)

    stay_at : (m l : ℕ) → m < 4 → l < 27 → bit (get_or (set cleared o (bit_or (get_or cleared o 0) still)) m 0) l ≡ eqb (cond (bit still l) o (f l)) m
    stay_at m l lm lt = go (eqb m o) refl
      where
        go : (b : Bool) → eqb m o ≡ b → bit (get_or (set cleared o (bit_or (get_or cleared o 0) still)) m 0) l ≡ eqb (cond (bit still l) o (f l)) m
        go true e =
            let z : m ≡ o = eqb-true m o e in
            rw (z, get_or-set_same cleared o (bit_or (get_or cleared o 0) still) 0 (omega arith))
            (bit_or_lem (get_or cleared o 0) still l ∙ rw (cleared_at o l (omega arith) lt) (on_plane (f l) (bit still l)))
        go false e =
            rw (get_or-set_other cleared o m (bit_or (get_or cleared o 0) still) 0 (eqb-false m o e))
            (cleared_at m l lm lt ∙ off_plane (f l) m (bit still l) (eqb-false m o e))

  pub stays_by : Stays p o still (set cleared o (bit_or (get_or cleared o 0) still))
  stays_by = record { told = λ f t. record { at = λ m l lm lt. stay_at f t m l lm lt } }

pub step_by : (outs g : List ℕ) (o set still : ℕ) (p q r : List ℕ) → Stays p o still q → (Low outs → Closed outs g o set q r) → Step outs g o set still p r
step_by outs g o set still p q r hs hc = record { told = λ low f t. (hc low).told _ (hs.told f t) }

-- ---- the step of a column

-- a column that is offered one of three changes in a row is offered it in their union
in_edges : (s : List (List ℕ)) (i c d k : ℕ) → d < 3 → bit (cell_at s i (c + d)) k ≡ true →
    bit (bit_or (cell_at s i c) (bit_or (cell_at s i (c + 1)) (cell_at s i (c + 2)))) k ≡ true
in_edges s i c d k h e = bit_or_lem (cell_at s i c) (bit_or (cell_at s i (c + 1)) (cell_at s i (c + 2))) k
    ∙ rw (bit_or_lem (cell_at s i (c + 1)) (cell_at s i (c + 2)) k) (go d h e)
  where
    go : (d : ℕ) → d < 3 → bit (cell_at s i (c + d)) k ≡ true → (bit (cell_at s i c) k || (bit (cell_at s i (c + 1)) k || bit (cell_at s i (c + 2)) k)) ≡ true
    go zero h e = let z : bit (cell_at s i c) k ≡ true = rw (add-zero c) at e in rw z
    go (suc zero) h e = rw e (or-true (bit (cell_at s i c) k))
    go (suc (suc zero)) h e = rw (e, or-true (bit (cell_at s i (c + 1)) k)) (or-true (bit (cell_at s i c) k))
    go (suc (suc (suc d))) h e = absurd (omega arith)

eqb_comm : (a b : ℕ) → eqb a b ≡ eqb b a
eqb_comm a b = go (eqb a b) refl
  where
    go : (x : Bool) → eqb a b ≡ x → x ≡ eqb b a
    go true e = sym (eq-eqb b a (sym (eqb-true a b e)))
    go false e = sym (ne_eqb b a (λ z. eqb-false a b e (sym z)))

chosen : (b : Bool) (o x y : ℕ) → o < 3 → or_x (cond (eqb (cond b o x) 3) y (cond b o x)) ≡ cond b o (or_x (cond (eqb x 3) y x))
unfolding or_x
chosen true o x y h = let e : eqb o 3 ≡ false = ne_eqb o 3 (λ z. omega arith) in rw (e, e)
chosen false o x y h = refl

-- the step of column i in place e
pub record Stepped (memo : Memo) (i e : ℕ) (p : List ℕ) : Type 0 where
  pub told : (t : Table) → MemoOf t memo → Told 3 p (step_in t memo i (e / 3) (e % 3))

module _ (memo : Memo) (i a o w z : ℕ) (g : List ℕ) (levels : List (List ℕ)) (p : List ℕ) (lm : memo.rows ≤ row_limit) (li : i < memo.inputs)
    (la : a < 3) (lo : o < 3)
    (hg : Lanes memo.cells memo.inputs memo.rows i (3 + a * 3) g) (hl : Levels memo levels) (ew : w ≡ 3 ^ (memo.inputs - suc i)) (hz : Zeros w z) where
  abbrev s : List (List ℕ)
  s = memo.cells

  abbrev outs : List ℕ
  outs = memo.outputs

  abbrev n : ℕ
  n = memo.inputs

  abbrev all : ℕ
  all = memo.all

  abbrev edges : ℕ
  edges = bit_or (cell_at s i (3 + a * 3)) (bit_or (cell_at s i (3 + a * 3 + 1)) (cell_at s i (3 + a * 3 + 2)))

  abbrev still : ℕ
  still = z * 2 ^ (w * a) % 2 ^ 32

  module _ (t : Table) (M : MemoOf t memo) (l : ℕ) (lt : l < 27) where
    abbrev digit : ℕ
    digit = digit_of l (n - suc i)

    abbrev here : ℕ
    here = bit_and (rest_of s all i n l) (cell_at s n o)

    still_at : bit still l ≡ eqb a digit
    still_at = cut_bit (z * 2 ^ (w * a)) l lt ∙ hz.at a l la lt ∙ rw (ew, ← digit_is l (n - suc i)) (eqb_comm digit a)

    edge_set : bit_and (bit_and (bit_and all (cell_at s n o)) edges) (lane_rows g l) ≡ bit_and here (cell_at s i (3 + (a * 3 + digit)))
    edge_set =
        let e : 3 + a * 3 + digit ≡ 3 + (a * 3 + digit) = omega arith in
        swap (bit_and all (cell_at s n o)) edges (lane_rows g l)
        ∙ ap (λ (x : ℕ). bit_and x edges) (lane_set s all n memo.rows i (3 + a * 3) g li lm (few memo t M) hg l lt (cell_at s n o))
        ∙ alike.stays (bit_and here (cell_at s i (3 + a * 3 + digit))) edges
        (λ k q. in_edges s i (3 + a * 3) digit k (digit_low l (n - suc i)) (both_in here (cell_at s i (3 + a * 3 + digit)) k q).1)
        ∙ ap (λ (x : ℕ). bit_and here (cell_at s i x)) e

    step_is : or_x (answered outs g o (bit_and (bit_and all (cell_at s n o)) edges)
        (λ (l : ℕ). cond (bit still l) o
        (answer_in outs o (bit_and (bit_and (rest_of s all i n l) (cell_at s n o)) (cell_at s i (digit_of l (n - suc i)))))) l) ≡ step_in t memo i a o l
    unfolding answered entry_of out_by answer_or
    step_is =
        let k : t.inputs ≡ n = sym M.inputs_are in
        rw (still_at, edge_set, k)
        (chosen (eqb a digit) o (answer_in outs o (bit_and here (cell_at s i digit))) (answer_in outs o (bit_and here (cell_at s i (3 + (a * 3 + digit))))) lo
        ∙ ap (λ (x : ℕ). cond (eqb a digit) o x)
        (sym (out_rank t memo i i (given_of t memo i i M li li) o lo (rest_of s all i n l) (cell_at s i digit) (cell_at s i (3 + (a * 3 + digit))))))

  pub stepped_by : (e x : ℕ) → e ≡ a * 3 + o → x ≡ edges → Step outs g o (bit_and (bit_and all (cell_at s n o)) x) still (get_or levels o []) p →
      Stepped memo i e p
  stepped_by e x q ex hx = record {
    told = λ t M.
        let ea : e / 3 ≡ a = omega arith in
        let eo : e % 3 ≡ o = omega arith in
        let h = rw ex at hx in
        rw (ea, eo) (told_same 3 p _ _ (λ l lt. step_is t M l lt) (h.told M.outputs_are.low _ (hl.at t M i o li lo)));
  }

pub steps_by : (memo : Memo) (i : ℕ) (f : List (List ℕ)) → i < memo.inputs → ((e : ℕ) → e < 9 → Stepped memo i e (get_or f e [])) → Steps memo i f
steps_by memo i f li h = record {
  tell = λ t M. record {
    at = λ a o la lo. go t M a o (a * 3 + o) la lo refl;
    low = λ a o l lo. entry_low t memo i i (given_of t memo i i M li li) o lo i _ _ a;
  };
}
  where
    go : (t : Table) → MemoOf t memo → (a o e : ℕ) → a < 3 → o < 3 → e ≡ a * 3 + o → Told 3 (get_or f e []) (step_in t memo i a o)
    go t M a o e la lo q =
        let ea : e / 3 ≡ a = omega arith in
        let eo : e % 3 ≡ o = omega arith in
        rw (ea, eo) at ((h e (omega arith)).told t M)
