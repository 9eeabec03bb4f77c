-- The two orders of a pair, worked out from the masks, give what the orders of the definition give. Assumes nothing.
use Prim.Native.Nat.{ℕ, suc, ◌-◌, ◌/◌, ◌%◌, ◌^◌, ◌<◌}
use mathlib.Core.Path.{◌≡◌, refl, sym, ap, ◌∙◌}
use mathlib.Core.Logic.{◌≢◌}
use mathlib.Core.List.{List}
use native.Mathlib.Omega.{arith}
use lib.Bits.{bit_and}
use borrow.Author.Tests.{eq-eqb}
use Rattle.value.specs.declared.Ternary.{Ternary}
use Rattle.value.specs.Value.{rank_of, value_of}
use Rattle.table.specs.Table.{Table}
use Rattle.orders.specs.Vectors.{at, put, Vector, vector_of}
use Rattle.orders.specs.Order.{Step, Laws, eval_order}
use Rattle.orders.specs.Pairs.{pair_order}
use Rattle.orders.specs.Verdict.{current_at, first_output, second_output}
use Rattle.orders.proofs.Places.{at_other, at_same, put_back, put_comm, vector_put, only_two}
use Rattle.orders.proofs.Pairs.{tail_idle}
use Rattle.orders.proofs.Candidates.{value_rank, rank_value, rank_low, vector_number}
use Rattle.orders.specs.Digits.{digit_of, put_digit}
use Rattle.orders.proofs.Digits as digits
use Rattle.step.specs.Step.{step_of}
use Rattle.step.proofs.Laws.{laws}
use Rattle.memo.specs.Rows.{cells, all_rows, cell_at, rest_of, entry_of, Small}
use Rattle.memo.specs.Pair.{others_of, first_then, second_then}
use Rattle.memo.proofs.Entries.{kept, entry_right}
use Rattle.memo.proofs.Others.{others_comm, others_put, rest_others, digit_same, digit_other}

-- ---- an order of two inputs is two steps, whatever the step

module _ {n : ℕ} {phi : Step} (L : Laws n phi) where
  -- the input of column k goes from q, where it had value number x, to vector number p
  one_step : (k p x : ℕ) (q d : List Ternary) (o : Ternary) → Vector n d →
      put (vector_of n p) (suc k) (value_of x) ≡ q → at d (suc k) ≡ at (vector_of n p) (suc k) → rank_of (phi q d (suc k) o) ≡ kept n phi k p x (rank_of o)
  unfolding kept
  one_step k p x q d o g e h =
      let w : Vector n (put (vector_of n p) (suc k) (value_of x)) = vector_put (suc k) (value_of x) (vector_number n p) in
      rw (e, value_rank o) (ap rank_of (L.own (suc k) (rw e at w) g (vector_number n p) h))

  -- u is the vector once the first has changed, w once both have
  module _ (i j v u w a b q : ℕ) (x y : Ternary) (li : i < n) (ne : i ≢ j) (lq : q < 3)
      (c : List Ternary) (only : c ≡ put (put (vector_of n v) (suc i) x) (suc j) y)
      (eu : vector_of n u ≡ put (vector_of n v) (suc i) x) (ew : vector_of n w ≡ c)
      (ea : at (vector_of n v) (suc i) ≡ value_of a) (eb : at (vector_of n v) (suc j) ≡ value_of b) where
    abbrev p : List Ternary
    p = vector_of n v

    g : Vector n p
    g = vector_number n v

    h : Vector n c
    h = rw only (vector_put (suc j) y (vector_put (suc i) x g))

    apart : suc i ≢ suc j
    apart e = ne (omega arith)

    at_i : at c (suc i) ≡ x
    at_i = rw only (at_other (put p (suc i) x) (suc j) (suc i) y apart ∙ at_same p (suc i) x (omega arith) (omega (arith, g.size)))

    back_i : put (vector_of n u) (suc i) (value_of a) ≡ p
    back_i = rw (eu, ← ea) (put_back p (suc i) x)

    here_i : at c (suc i) ≡ at (vector_of n u) (suc i)
    here_i = at_i ∙ sym (rw eu (at_same p (suc i) x (omega arith) (omega (arith, g.size))))

    first_step : rank_of (phi p c (suc i) (value_of q)) ≡ kept n phi i u a q
    first_step = one_step i u a p c (value_of q) h back_i here_i ∙ rw (rank_value q lq)

    next : put p (suc i) (at c (suc i)) ≡ vector_of n u
    next = rw at_i (sym eu)

    at_j : at (vector_of n u) (suc j) ≡ value_of b
    at_j = rw eu (at_other p (suc i) (suc j) x (λ e. apart (sym e)) ∙ eb)

    both : c ≡ put (vector_of n u) (suc j) y
    both = rw eu only

    back_j : put (vector_of n w) (suc j) (value_of b) ≡ vector_of n u
    back_j = rw (ew, both, ← at_j) (put_back (vector_of n u) (suc j) y)

    two_steps : rank_of (eval_order phi p c (value_of q) (pair_order n (suc i) (suc j))) ≡ kept n phi j w b (kept n phi i u a q)
    two_steps =
        ap rank_of (tail_idle L (value_of q) g h (suc i) (suc j) apart (rw only (only_two p (suc i) (suc j) x y)))
        ∙ rw next (one_step j w b (vector_of n u) c (phi p c (suc i) (value_of q)) h back_j (ap (λ (v : List Ternary). at v (suc j)) (sym ew)))
        ∙ ap (kept n phi j w b) first_step

-- ---- the two steps from the masks

module _ (t : Table) (small : Small t) where
  abbrev n : ℕ
  n = t.inputs

  abbrev others : ℕ → ℕ → ℕ → ℕ
  others i j v = others_of (cells t) (all_rows t) i j n v

  abbrev digit : ℕ → ℕ → ℕ
  digit i v = digit_of v (n - suc i)

  abbrev moved : ℕ → ℕ → ℕ → ℕ
  moved i x v = put_digit x (n - suc i) v

  -- i arrives from a at x, j stands at b
  one_entry : (i j v a b x o : ℕ) → i < n → j < n → i ≢ j → a < 3 → x < 3 → o < 3 → b ≡ digit j v →
      entry_of t (cells t) i (bit_and (others i j v) (cell_at (cells t) j b)) x a o ≡ kept n (step_of t) i (moved i x v) a o
  one_entry i j v a b x o li lj ne la lx lo eb =
      let e : rest_of (cells t) (all_rows t) i n (moved i x v) ≡ bit_and (others i j v) (cell_at (cells t) j b) =
      rest_others (cells t) (all_rows t) i j n (moved i x v) ne lj
      ∙ rw (
        others_put (cells t) (all_rows t) i j i n v x (rw (eq-eqb i i refl)) lx li,
        digit_other x (n - suc i) (n - suc j) v lx
            (λ z. ne (omega arith)),
        eb,
      ) in
      rw (← e) (entry_right t small i (moved i x v) a o x li la lo (sym (digit_same x (n - suc i) v lx)))

  kept_low : (k v x o : ℕ) → kept n (step_of t) k v x o < 3
  unfolding kept
  kept_low k v x o = rank_low _

  -- the order i, j from vector v, where the two have the values a and b
  module _ (i j v a b x y o : ℕ) (li : i < n) (lj : j < n) (ne : i ≢ j) (lx : x < 3) (ly : y < 3) (lo : o < 3) (ea : a ≡ digit i v) (eb : b ≡ digit j v) where
    apart_back : j ≢ i
    apart_back e = ne (sym e)

    abbrev u : ℕ
    u = moved i x v

    b_there : b ≡ digit j u
    b_there = eb ∙ sym (digit_other x (n - suc i) (n - suc j) v lx (λ z. ne (omega arith)))

    same_others : others j i u ≡ others i j v
    same_others = others_comm (cells t) (all_rows t) j i n u ∙ others_put (cells t) (all_rows t) i j i n v x (rw (eq-eqb i i refl)) lx li

    then_is : first_then t (cells t) i j (others i j v) a b x y o ≡ kept n (step_of t) j (moved j y u) b (kept n (step_of t) i u a o)
    unfolding first_then
    then_is =
        rw (one_entry i j v a b x o li lj ne (rw ea (digits.digit_low v (n - suc i))) lx lo eb, ← same_others)
        (one_entry j i u b x y (kept n (step_of t) i u a o) lj li apart_back (rw eb (digits.digit_low v (n - suc j))) ly (kept_low i u a o)
        (sym (digit_same x (n - suc i) v lx)))

    value_at_lem : (k d : ℕ) → k < n → d ≡ digit k v → at (vector_of n v) (suc k) ≡ value_of d
    value_at_lem k d h e = digits.value_digit n (suc k) v (omega arith) h ∙ ap value_of (sym e)

    u_vector : vector_of n u ≡ put (vector_of n v) (suc i) (value_of x)
    u_vector = digits.vector_put n (suc i) x v lx (omega arith) li

    w_vector : vector_of n (moved j y u) ≡ put (put (vector_of n v) (suc i) (value_of x)) (suc j) (value_of y)
    w_vector = digits.vector_put n (suc j) y u ly (omega arith) lj ∙ ap (λ (c : List Ternary). put c (suc j) (value_of y)) u_vector

    order_is : (c : List Ternary) → c ≡ put (put (vector_of n v) (suc i) (value_of x)) (suc j) (value_of y) →
        rank_of (eval_order (step_of t) (vector_of n v) c (value_of o) (pair_order n (suc i) (suc j))) ≡ first_then t (cells t) i j (others i j v) a b x y o
    order_is c e =
        two_steps (laws t n) i j v u (moved j y u) a b o (value_of x) (value_of y) li ne lo c e u_vector (w_vector ∙ sym e) (value_at_lem i a li ea)
        (value_at_lem j b lj eb) ∙ sym then_is

  -- candidate r of the columns i and j
  module _ (i j r : ℕ) (li : i < n) (lj : j < n) (ne : i ≢ j) where
    abbrev a : ℕ
    a = r / 27 / 3 ^ (n - suc i) % 3

    abbrev b : ℕ
    b = r / 27 / 3 ^ (n - suc j) % 3

    here : (k : ℕ) → r / 27 / 3 ^ (n - suc k) % 3 ≡ digit k (r / 27)
    here k = sym (digits.digit_is (r / 27) (n - suc k))

    pub first_is : rank_of (first_output n (step_of t) (suc i) (suc j) r) ≡ first_then t (cells t) i j (others i j (r / 27)) a b (r / 9 % 3) (r / 3 % 3) (r % 3)
    first_is = order_is i j (r / 27) a b (r / 9 % 3) (r / 3 % 3) (r % 3) li lj ne (omega arith) (omega arith) (omega arith) (here i) (here j)
        (current_at n (suc i) (suc j) r) refl

    pub second_is : rank_of (second_output n (step_of t) (suc i) (suc j) r)
        ≡ second_then t (cells t) i j (others i j (r / 27)) a b (r / 9 % 3) (r / 3 % 3) (r % 3)
    unfolding second_then first_then
    second_is =
        rw (others_comm (cells t) (all_rows t) i j n (r / 27))
        (order_is j i (r / 27) b a (r / 3 % 3) (r / 9 % 3) (r % 3) lj li (λ e. ne (sym e)) (omega arith) (omega arith) (omega arith) (here j) (here i)
        (current_at n (suc i) (suc j) r) (put_comm (vector_of n (r / 27)) (suc i) (suc j) (value_of (r / 9 % 3)) (value_of (r / 3 % 3))
        (λ e. ne (omega arith))))
