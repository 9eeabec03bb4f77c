-- What is worked out from the masks is what the step answers. Assumes nothing.
use Prim.Native.Nat.{ℕ, zero, suc, ◌+◌, ◌-◌, ◌*◌, ◌/◌, ◌%◌, ◌<◌, ◌≤◌}
use mathlib.Core.Path.{◌≡◌, refl, sym, ap, ◌∙◌}
use mathlib.Core.Logic.{⊎_elim}
use mathlib.Core.Bool.{Bool, true, false, cond, ◌&&◌}
use mathlib.Core.List.{List, []}
use native.Mathlib.Nat.{eq-or-lt_of_le, le_of_suc-le-suc}
use native.Mathlib.Omega.{arith}
use lib.Bits.{bit_and}
use lib.Dec.{eqb}
use lib.ListN.{get_or, length}
use borrow.Author.Tests.{eqb-true, eq-eqb, ne_eqb, lt-ltb, le-ltb}
use Rattle.base.specs.Search.{every}
use Rattle.base.proofs.Search.{every_same}
use Rattle.base.specs.Limits.{input_limit}
use Rattle.base.proofs.Listed.{listed_at}
use Rattle.value.specs.declared.Ternary.{Ternary}
use Rattle.value.specs.declared.Ternary.TheVariants.{V0}
use Rattle.value.specs.Value.{rank_of, value_of, same_value}
use Rattle.symbol.specs.Match.{match_field, match_held, match_change, match_level, offered}
use Rattle.table.specs.Table.{Table, row_at, symbol_at}
use Rattle.table.specs.Match.{field_of, columns_match, row_matches}
use Rattle.orders.specs.Vectors.{at, put, vector_of}
use Rattle.orders.specs.Order.{Step}
use Rattle.orders.proofs.Candidates.{rank_value, length_vector_of}
use Rattle.orders.specs.Digits.{digit_of}
use Rattle.orders.proofs.Digits.{digit_low, value_digit, last_value, earlier_value}
use Rattle.step.specs.Step.{row_for, answer_of, step_of}
use Rattle.step.proofs.Laws.{step_arrives}
use Rattle.symbol.specs.Masks.{mask_of}
use Rattle.memo.specs.Rows.{lowest, column_of, offered_rows, all_rows, cell_row, cells, cell_at, rest_of, out_by, entry_of, Small}
use Rattle.memo.proofs.Masks.{mask_ext, lowest_first}
use Rattle.symbol.proofs.Masks.{mask_and}

-- what the step answers where input k + 1 arrives from value number x at its value in vector number v, the old output being value number o
unfoldable pub kept : ℕ → Step → ℕ → ℕ → ℕ → ℕ → ℕ
kept n phi k v x o = rank_of (phi (put (vector_of n v) (suc k) (value_of x)) (vector_of n v) (suc k) (value_of o))

and_swap : (a b c : Bool) → ((a && b) && c) ≡ ((a && c) && b)
and_swap true true true = refl
and_swap true true false = refl
and_swap true false true = refl
and_swap true false false = refl
and_swap false b c = refl

and-true : (a : Bool) → (a && true) ≡ a
and-true true = refl
and-true false = refl

-- the one place j taken out of a test of every place
every_one : (n j : ℕ) (f : ℕ → Bool) (e : Bool) → j < n → (every n (λ (q : ℕ). cond (eqb q j) true (f q)) && e) ≡ every n (λ (q : ℕ). cond (eqb q j) e (f q))
unfolding every
every_one zero j f e h = absurd (omega arith)
every_one (suc n) j f e h =
    ⊎_elim
    (λ q. rw (eq-eqb n j (sym q), and-true (every n (λ (q : ℕ). cond (eqb q j) true (f q))))
    (ap (λ (b : Bool). b && e) (every_same _ _ n (λ k l. rw (ne_eqb k j (λ z. omega arith))))))
    (λ l. rw (ne_eqb n j (λ z. omega arith)) (and_swap (every n (λ (q : ℕ). cond (eqb q j) true (f q))) (f n) e
    ∙ ap (λ (b : Bool). b && f n) (every_one n j f e l)))
    (eq-or-lt_of_le (le_of_suc-le-suc h))

module _ (t : Table) where
  pub cell_is : (k c : ℕ) → k ≤ input_limit → c < 12 → cell_at (cells t) k c ≡ offered_rows t k c
  unfolding cell_at cells cell_row
  cell_is k c h l = ap (λ (r : List ℕ). get_or r c 0) (listed_at (cell_row t) (input_limit + 1) k [] (omega arith)) ∙ listed_at (offered_rows t k) 12 c 0 l

  held : ℕ → Ternary → ℕ → Bool
  held i y q = match_held (symbol_at (row_at t i) q) y

  -- a value that is offered, a change, and the old output that is offered to the state
  value_rows : (k c : ℕ) → k < t.inputs → c < 3 → offered_rows t k c ≡ mask_of (length t.rows) (λ (i : ℕ). held i (value_of c) k)
  unfolding offered_rows column_of offered held
  value_rows k c h l = rw (lt-ltb k t.inputs h, lt-ltb c 3 l)

  change_rows : (k x d : ℕ) → k < t.inputs → x < 3 → d < 3 →
      offered_rows t k (3 + (x * 3 + d)) ≡ mask_of (length t.rows) (λ (i : ℕ). match_change (symbol_at (row_at t i) k) (value_of x) (value_of d))
  unfolding offered_rows column_of offered
  change_rows k x d h lx ld =
      let a : (3 + (x * 3 + d) - 3) / 3 ≡ x = omega arith in
      let b : (3 + (x * 3 + d) - 3) % 3 ≡ d = omega arith in
      rw (lt-ltb k t.inputs h, le-ltb (3 + (x * 3 + d)) 3 (omega arith), a, b)

  state_rows : (o : ℕ) → o < 3 → offered_rows t t.inputs o ≡ mask_of (length t.rows) (λ (i : ℕ). match_level (row_at t i).state (value_of o))
  unfolding offered_rows column_of offered match_held
  state_rows o l = rw (le-ltb t.inputs t.inputs (omega arith), lt-ltb o 3 l)

  -- the rows that match in every column but j
  rest_is : (j k v : ℕ) → k ≤ t.inputs → k ≤ input_limit →
      rest_of (cells t) (all_rows t) j k v ≡ mask_of (length t.rows) (λ (i : ℕ). every k
      (λ (q : ℕ). cond (eqb q j) true (held i (get_or (vector_of k v) q V0) q)))
  unfolding rest_of all_rows every
  rest_is j zero v a b = refl
  rest_is j (suc k) v a b = go (rest_is j k (v / 3) (omega arith) (omega arith)) (eqb k j) refl
    where
      before : ℕ → Bool
      before i = every k (λ (q : ℕ). cond (eqb q j) true (held i (get_or (vector_of k (v / 3)) q V0) q))

      front : (i : ℕ) → before i ≡ every k (λ (q : ℕ). cond (eqb q j) true (held i (get_or (vector_of (suc k) v) q V0) q))
      front i = every_same _ _ k (λ q h. rw (earlier_value k q v h))

      here : (i : ℕ) → held i (value_of (v % 3)) k ≡ held i (get_or (vector_of (suc k) v) k V0) k
      here i = rw (last_value k v)

      go : rest_of (cells t) (all_rows t) j k (v / 3) ≡ mask_of (length t.rows) before → (b : Bool) → eqb k j ≡ b →
          cond b (rest_of (cells t) (all_rows t) j k (v / 3)) (bit_and (rest_of (cells t) (all_rows t) j k (v / 3)) (cell_at (cells t) k (v % 3)))
          ≡ mask_of (length t.rows) (λ (i : ℕ). every k (λ (q : ℕ). cond (eqb q j) true (held i (get_or (vector_of (suc k) v) q V0) q)) && cond b true
          (held i (get_or (vector_of (suc k) v) k V0) k))
      go below true e = below ∙ mask_ext _ _ _ (λ i. sym (and-true _ ∙ sym (front i)))
      go below false e =
          rw (below, cell_is k (v % 3) (omega arith) (omega arith), value_rows k (v % 3) (omega arith) (omega arith))
          (mask_and _ _ _ ∙ mask_ext _ _ _ (λ i. rw (front i, here i)))

  module _ (small : Small t) (j v x o d : ℕ) (lj : j < t.inputs) (lx : x < 3) (lo : o < 3) (ld : d ≡ digit_of v (t.inputs - suc j)) where
    abbrev w : List Ternary
    w = vector_of t.inputs v

    d_low : d < 3
    d_low = rw ld (digit_low v (t.inputs - suc j))

    at_j : get_or w j V0 ≡ value_of d
    at_j = value_digit t.inputs (suc j) v (omega arith) lj ∙ ap value_of (sym ld)

    abbrev rest : ℕ
    rest = rest_of (cells t) (all_rows t) j t.inputs v

    -- the rows that match in the other columns, in column j as e says, and in the state
    rows_by_lem : (cell : ℕ) (e : ℕ → Bool) → cell ≡ mask_of (length t.rows) e →
        bit_and (bit_and rest (cell_at (cells t) t.inputs o)) cell
        ≡ mask_of (length t.rows) (λ (i : ℕ). every t.inputs (λ (q : ℕ). cond (eqb q j) (e i) (held i (get_or w q V0) q)) && match_level (row_at t i).state
        (value_of o))
    rows_by_lem cell e q =
        rw (rest_is j t.inputs v (omega arith) small.inputs, cell_is t.inputs o small.inputs (omega arith), state_rows o lo, q)
        (ap (λ (m : ℕ). bit_and m (mask_of (length t.rows) e)) (mask_and _ _ _) ∙ mask_and _ _ _
        ∙ mask_ext _ _ _ (λ i. and_swap (every t.inputs (λ (q : ℕ). cond (eqb q j) true (held i (get_or w q V0) q)))
        (match_level (row_at t i).state (value_of o)) (e i) ∙ ap (λ (b : Bool). b && match_level (row_at t i).state (value_of o))
        (every_one t.inputs j (λ (q : ℕ). held i (get_or w q V0) q) (e i) lj)))

    lowest_by : (cell k : ℕ) (e : ℕ → Bool) → cell ≡ mask_of (length t.rows) e →
        ((i q : ℕ) → q < t.inputs → cond (eqb q j) (e i) (held i (get_or w q V0) q) ≡ match_field (field_of (symbol_at (row_at t i) q) w k (value_of x) q)) →
        lowest (length t.rows) (bit_and (bit_and rest (cell_at (cells t) t.inputs o)) cell) ≡ row_for t w k (value_of x) (value_of o)
    unfolding row_for row_matches columns_match
    lowest_by cell k e q fits =
        ap (lowest (length t.rows))
        (rows_by_lem cell e q ∙ mask_ext _ _ _ (λ i. ap (λ (b : Bool). b && match_level (row_at t i).state (value_of o))
        (every_same _ _ t.inputs (λ q h. fits i q h))))
        ∙ lowest_first _ (length t.rows) small.rows

    level_fits : (i q : ℕ) → q < t.inputs →
        cond (eqb q j) (held i (value_of d) j) (held i (get_or w q V0) q) ≡ match_field (field_of (symbol_at (row_at t i) q) w t.inputs (value_of x) q)
    unfolding match_field field_of held
    level_fits i q h = rw (ne_eqb q t.inputs (λ z. omega arith)) (go (eqb q j) refl)
      where
        go : (b : Bool) → eqb q j ≡ b → cond b (held i (value_of d) j) (held i (get_or w q V0) q) ≡ match_held (symbol_at (row_at t i) q) (get_or w q V0)
        go true e = let p : q ≡ j = eqb-true q j e in rw (p, at_j)
        go false e = refl

    edge_fits : (i q : ℕ) → q < t.inputs →
        cond (eqb q j) (match_change (symbol_at (row_at t i) j) (value_of x) (value_of d)) (held i (get_or w q V0) q)
        ≡ match_field (field_of (symbol_at (row_at t i) q) w j (value_of x) q)
    unfolding match_field field_of held
    edge_fits i q h = go (eqb q j) refl
      where
        go : (b : Bool) → eqb q j ≡ b →
            cond b (match_change (symbol_at (row_at t i) j) (value_of x) (value_of d)) (held i (get_or w q V0) q)
            ≡ cond b (match_change (symbol_at (row_at t i) q) (value_of x) (get_or w q V0)) (match_held (symbol_at (row_at t i) q) (get_or w q V0))
        go true e = let p : q ≡ j = eqb-true q j e in rw (p, at_j)
        go false e = refl

    level_row : lowest (length t.rows) (bit_and (bit_and rest (cell_at (cells t) t.inputs o)) (cell_at (cells t) j d))
        ≡ row_for t w t.inputs (value_of x) (value_of o)
    level_row =
        lowest_by (cell_at (cells t) j d) t.inputs (λ (i : ℕ). held i (value_of d) j)
        (cell_is j d (omega (arith, small.inputs)) (omega (arith, d_low)) ∙ value_rows j d lj d_low) level_fits

    edge_row : lowest (length t.rows) (bit_and (bit_and rest (cell_at (cells t) t.inputs o)) (cell_at (cells t) j (3 + (x * 3 + d))))
        ≡ row_for t w j (value_of x) (value_of o)
    edge_row =
        lowest_by (cell_at (cells t) j (3 + (x * 3 + d))) j (λ (i : ℕ). match_change (symbol_at (row_at t i) j) (value_of x) (value_of d))
        (cell_is j (3 + (x * 3 + d)) (omega (arith, small.inputs)) (omega (arith, d_low)) ∙ change_rows j x d lj lx d_low) edge_fits

    out_is : out_by t
        (bit_and (bit_and rest (cell_at (cells t) t.inputs o)) (cell_at (cells t) j d))
        (bit_and (bit_and rest (cell_at (cells t) t.inputs o)) (cell_at (cells t) j (3 + (x * 3 + d))))
        (value_of o) ≡ answer_of t w (suc j) (value_of x) (value_of o)
    unfolding out_by answer_of
    out_is = let e : suc j - 1 ≡ j = omega arith in rw (level_row, edge_row, e)

    same_rank : same_value (value_of x) (at w (suc j)) ≡ eqb x d
    unfolding same_value
    same_rank = rw (at_j, rank_value x lx, rank_value d d_low)

    -- what is worked out for one place is what is to stand there
    pub entry_right : entry_of t (cells t) j rest d x o ≡ kept t.inputs (step_of t) j v x o
    unfolding entry_of kept
    entry_right = rw (step_arrives t w (suc j) (value_of x) (value_of o) (omega arith) (omega (arith, length_vector_of t.inputs v)), same_rank, out_is)
        (go (eqb x d))
      where
        go : (b : Bool) → cond b o (rank_of (answer_of t w (suc j) (value_of x) (value_of o)))
            ≡ rank_of (cond b (value_of o) (answer_of t w (suc j) (value_of x) (value_of o)))
        go true = sym (rank_value o lo)
        go false = refl
