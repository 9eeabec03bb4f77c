-- Where every row is steady and matches no change of the two columns, their orders agree. Assumes nothing.
use Prim.Native.Nat.{ℕ, ◌+◌, ◌*◌, ◌^◌, ◌<◌}
use mathlib.Core.Path.{◌≡◌, refl, sym, ap, ◌∙◌}
use mathlib.Core.Bool.{Bool, true, false, cond, ◌&&◌}
use mathlib.Core.List.{List}
use mathlib.Core.Logic.{⊎_elim}
use native.Mathlib.Nat.{eq-zero-or-pos, lt_of_le_of_lt, le_trans}
use native.Mathlib.Omega.{arith}
use lib.Bits.{bit_and, and_le_l, and_le_r}
use lib.Count.{count_trailing_zeros}
use lib.Dec.{eqb}
use borrow.Author.Tests.{eqb-true, eq-eqb, ne_eqb}
use Rattle.base.proofs.Bools.{clash}
use Rattle.table.specs.Table.{Table}
use Rattle.step.specs.Step.{answer_or}
use Rattle.memo.specs.declared.Memo.{Memo}
use Rattle.memo.specs.Rows.{cell_at, out_by, entry_of}
use Rattle.memo.specs.Pair.{first_then, second_then}
use Rattle.planes.specs.Words.{bit}
use Rattle.planes.specs.Planes.{lane_rows, answer_in, or_x}
use Rattle.exchange.specs.Lanes.{Agree, Given, LanesAgree}
use Rattle.plain.specs.declared.PlainRows.{PlainRows}
use Rattle.plain.specs.Plain.{Steady, Edges, Only, Plain}
use Rattle.planes.proofs.Bits.{bit_and_lem, bit_zero, bit_ext, lowest_in}
use Rattle.planes.proofs.Planes.{swap}
use Rattle.exchange.proofs.Entered.{state_lt, out_rank, entry_low}
use Rattle.exchange.proofs.Orders.{by_change}
use Rattle.plain.proofs.Sets.{both_in}

-- a test that each member passes, and one that none does
pub stays : (a b : ℕ) → ((k : ℕ) → bit a k ≡ true → bit b k ≡ true) → bit_and a b ≡ a
stays a b h = bit_ext (bit_and a b) a (λ k. bit_and_lem a b k ∙ go (bit a k) (bit b k) (h k))
  where
    go : (x y : Bool) → (x ≡ true → y ≡ true) → (x && y) ≡ x
    go true y e = e refl
    go false y e = refl

empty : (a b : ℕ) → ((k : ℕ) → bit a k ≡ true → bit b k ≡ true → ⊥) → bit_and a b ≡ 0
empty a b h = bit_ext (bit_and a b) 0 (λ k. bit_and_lem a b k ∙ go (bit a k) (bit b k) (h k) ∙ sym (bit_zero k))
  where
    go : (x y : Bool) → (x ≡ true → y ≡ true → ⊥) → (x && y) ≡ false
    go true true e = absurd (e refl refl)
    go true false e = refl
    go false y e = refl

module _ (t : Table) (memo : Memo) (i j : ℕ) (d : Given t memo i j) (rest r : ℕ) (rows : PlainRows)
    (sub : (k : ℕ) → bit rest k ≡ true → bit r k ≡ true) (pl : Plain memo i j rows) (o : Only r rows) where
  abbrev s : List (List ℕ)
  s = memo.cells

  abbrev outs : List ℕ
  outs = memo.outputs

  abbrev n : ℕ
  n = memo.inputs

  abbrev steady : ℕ
  steady = rows.steady

  abbrev edges : ℕ
  edges = rows.edges

  st : Steady memo steady
  st = pl.rows

  in_steady : (k : ℕ) → bit rest k ≡ true → bit steady k ≡ true
  in_steady k h = (both_in r steady k (ap (λ (x : ℕ). bit x k) o.all ∙ sub k h)).1

  no_edge : (k : ℕ) → bit rest k ≡ true → bit edges k ≡ true → ⊥
  no_edge k h e =
      let z : bit (bit_and r edges) k ≡ true = bit_and_lem r edges k ∙ rw (sub k h, e) in
      clash (sym z ∙ ap (λ (x : ℕ). bit x k) o.none ∙ bit_zero k)

  -- the step of column c whose changes no row matches: the lowest level row alone answers
  module _ (c h u w a p : ℕ) (ec : Edges s c edges) (lu : u < 3) (la : a < 3) (lp : p < 3) where
    abbrev here : ℕ
    here = bit_and (bit_and rest (cell_at s h w)) (cell_at s c u)

    level_is : bit_and (bit_and (bit_and rest (cell_at s h w)) (cell_at s n p)) (cell_at s c u) ≡ here
    level_is = ap (λ (x : ℕ). bit_and x (cell_at s c u)) (stays (bit_and rest (cell_at s h w)) (cell_at s n p)
        (λ k e. (st.at k p lp (in_steady k (both_in rest (cell_at s h w) k e).0)).0))

    edge_is : bit_and (bit_and (bit_and rest (cell_at s h w)) (cell_at s n p)) (cell_at s c (3 + (a * 3 + u))) ≡ 0
    edge_is = empty _ _ (λ k e f. no_edge k (both_in rest (cell_at s h w) k (both_in (bit_and rest (cell_at s h w)) (cell_at s n p) k e).0).0
        (ec.at k (a * 3 + u) (omega arith) f))

    here_lt : here < 2 ^ 64
    here_lt = rw (← level_is) (lt_of_le_of_lt (le_trans (and_le_l (bit_and (bit_and rest (cell_at s h w)) (cell_at s n p)) (cell_at s c u))
        (and_le_r (bit_and rest (cell_at s h w)) (cell_at s n p))) (state_lt t memo i j d p lp))

    answer_none : (q : ℕ) → answer_in outs q 0 ≡ 3
    unfolding answer_in
    answer_none q = refl

    alone : (q : ℕ) → or_x (cond (eqb q 3) 3 q) ≡ or_x q
    alone q = go (eqb q 3) refl
      where
        go : (b : Bool) → eqb q 3 ≡ b → or_x (cond b 3 q) ≡ or_x q
        go true e = ap or_x (sym (eqb-true q 3 e))
        go false e = refl

    step_is : eqb a u ≡ false → entry_of t s c (bit_and rest (cell_at s h w)) u a p ≡ or_x (answer_in outs p here)
    unfolding entry_of out_by answer_or
    step_is e =
        let k : t.inputs ≡ n = sym d.inputs_are in
        rw (e, k) (out_rank t memo i j d p lp (bit_and rest (cell_at s h w)) (cell_at s c u) (cell_at s c (3 + (a * 3 + u)))
        ∙ rw (level_is, edge_is, answer_none p) (alone (answer_in outs p here)))

    -- whatever the old output is
    any_old : answer_in outs p here ≡ answer_in outs 0 here
    unfolding answer_in
    any_old = ⊎_elim
        (λ (z : here ≡ 0). rw (eq-eqb here 0 z))
        (λ (l : 0 < here).
        let q = count_trailing_zeros 64 here in
        let m : bit rest q ≡ true = (both_in rest (cell_at s h w) q (both_in (bit_and rest (cell_at s h w)) (cell_at s c u) q
        (lowest_in 64 here l here_lt)).0).0 in
        let v = (st.at q p lp (in_steady q m)).1 in
        let f = (st.at q 0 (omega arith) (in_steady q m)).1 in
        rw (ne_eqb here 0 (λ z. omega arith)) (v ∙ sym f))
        (eq-zero-or-pos here)

    pub plain_step : eqb a u ≡ false → entry_of t s c (bit_and rest (cell_at s h w)) u a p ≡ or_x (answer_in outs 0 here)
    plain_step e = step_is e ∙ ap or_x any_old

  both_change : (a b x y q : ℕ) → a < 3 → b < 3 → x < 3 → y < 3 → q < 3 → eqb a x ≡ false → eqb b y ≡ false →
      first_then t s i j rest a b x y q ≡ second_then t s i j rest a b x y q
  unfolding first_then second_then
  both_change a b x y q la lb lx ly lq e f =
      plain_step j i y x b (entry_of t s i (bit_and rest (cell_at s j b)) x a q) pl.second ly lb (entry_low t memo i j d q lq i _ x a) f
      ∙ ap (λ (m : ℕ). or_x (answer_in outs 0 m)) (swap rest (cell_at s i x) (cell_at s j y))
      ∙ sym (plain_step i j x y a (entry_of t s j (bit_and rest (cell_at s i a)) y b q) pl.first lx la (entry_low t memo i j d q lq j _ y b) e)

  pub plain_agree : Agree t s i j rest
  plain_agree = record { same = λ a b x y q la lb lx ly lq. by_change t s i j rest a b x y q (λ e f. both_change a b x y q la lb lx ly lq e f) }

-- and so in every lane
pub plain_lanes : (memo : Memo) (g : List ℕ) (i j x r : ℕ) (p : PlainRows) → ((k : ℕ) → bit x k ≡ true → bit r k ≡ true) →
    Plain memo i j p → Only r p → LanesAgree memo g i j x
plain_lanes memo g i j x r p sub pl o = record {
  at = λ t l lt d. plain_agree t memo i j d (bit_and x (lane_rows g l)) r p (λ k e. sub k (both_in x (lane_rows g l) k e).0) pl o;
}
