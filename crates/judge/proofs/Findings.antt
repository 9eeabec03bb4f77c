-- What the search finds is right. Assumes nothing.
use Prim.Native.Nat.{ℕ, zero, suc, ◌+◌, ◌*◌, ◌/◌, ◌%◌, ◌^◌, ◌<◌, ◌≤◌}
use mathlib.Core.Path.{◌≡◌, refl, sym, ap, ◌∙◌}
use mathlib.Core.Logic.{◌≢◌, ⊎_elim}
use mathlib.Core.Bool.{Bool, true, false, not, cond, ◌&&◌}
use native.Mathlib.Numerals.{add-one}
use native.Mathlib.Omega.{arith}
use lib.Dec.{ltb}
use borrow.Author.Tests.{ltb-true, ltb-false, lt-ltb, le-ltb, not-true, not-false}
use borrow.Author.Count.{below_more}
use Rattle.base.specs.Limits.{input_limit}
use Rattle.base.specs.Search.{first}
use Rattle.base.proofs.Bools.{both, clash, lt_or_ge}
use Rattle.base.proofs.Search.{first_below, first_found, first_none, first_holds}
use Rattle.value.specs.Value.{same_value}
use Rattle.orders.specs.Order.{Step, Every}
use Rattle.orders.specs.Verdict.{candidates, first_now, second_now, first_output, second_output, Disagrees, First}
use Rattle.orders.proofs.Places.{vector_put, every_family}
use Rattle.orders.proofs.Candidates.{value_rank, same_of, of_same, vector_number}
use Rattle.orders.proofs.Answers.{judged_iff}
use Rattle.table.specs.Table.{Table}
use Rattle.step.specs.Step.{step_of}
use Rattle.step.proofs.Laws.{laws}
use Rattle.memo.specs.Rows.{Small}
use Rattle.std.specs.Prelude.{Some, None}
use Rattle.pair.proofs.Options.{some_is, none_is}
use Rattle.pair.specs.Search.{found, differs_at, first_at}
use Rattle.verdict.specs.declared.Witness.{Witness}
use Rattle.verdict.specs.declared.Finding.TheVariants.{Independent, Dependent}
use Rattle.judge.specs.Search.{pair_first, pair_differs, pairs, first_pair, witness_in, finding_in}
use Rattle.judge.specs.Judge.{Witnesses, RightFinding}
use Rattle.judge.proofs.Ranks.{output_is, other_is, differs_is}

-- what a pair that differs tells
pub record Told (t : Table) (i j : ℕ) : Type 0 where
  pub rising : i < j
  pub last : j < t.inputs
  pub counted : pair_first t i j < candidates t.inputs

pub told : (t : Table) (i j : ℕ) → pair_differs t i j ≡ true → Told t i j
unfolding pair_differs pair_first
told t i j e = go (ltb i j && ltb j t.inputs) refl e
  where
    go : (b : Bool) → (ltb i j && ltb j t.inputs) ≡ b → ltb (cond b (first_at t i j) (candidates t.inputs)) (candidates t.inputs) ≡ true → Told t i j
    go true p h =
        let q = both (ltb i j) (ltb j t.inputs) p in
        record { rising = ltb-true i j q.0; last = ltb-true j t.inputs q.1; counted = rw p (ltb-true (first_at t i j) (candidates t.inputs) h) }
    go false p h = absurd (omega (arith, ltb-true (candidates t.inputs) (candidates t.inputs) h))

-- the search of two columns
pub pair_first_lem : (t : Table) (i j : ℕ) → i < j → j < t.inputs → pair_first t i j ≡ first_at t i j
unfolding pair_first
pair_first_lem t i j a b = rw (lt-ltb i j a, lt-ltb j t.inputs b)

pub no_pair : (t : Table) (i j : ℕ) → j ≤ i → pair_first t i j ≡ candidates t.inputs
unfolding pair_first
no_pair t i j a = rw (le-ltb i j a)

pub past_pair : (t : Table) (i j : ℕ) → t.inputs ≤ j → pair_first t i j ≡ candidates t.inputs
unfolding pair_first
past_pair t i j a = rw (le-ltb j t.inputs a) (go (ltb i j))
  where
    go : (b : Bool) → cond (b && false) (first_at t i j) (candidates t.inputs) ≡ candidates t.inputs
    go true = refl
    go false = refl

nothing : (t : Table) (i j : ℕ) → candidates t.inputs ≤ pair_first t i j → pair_differs t i j ≡ false
unfolding pair_differs
nothing t i j h = le-ltb (pair_first t i j) (candidates t.inputs) h

pub differs_not : (t : Table) (i j : ℕ) → None ≡ found (candidates t.inputs) (pair_first t i j) → pair_differs t i j ≡ false
differs_not t i j e = nothing t i j (none_is (candidates t.inputs) (pair_first t i j) e)

-- ---- the pairs in turn, as the code takes them

module _ (t : Table) where
  abbrev tried : ℕ → Bool
  tried p = pair_differs t (p / input_limit) (p % input_limit)

  pub found_pair : (i j r : ℕ) (w : Witness) → i < input_limit → j < input_limit → ((k : ℕ) → k < i * input_limit + j → tried k ≡ false) →
      Some r ≡ found (candidates t.inputs) (pair_first t i j) → w ≡ witness_in t i j r → Dependent w ≡ finding_in t
  unfolding finding_in first_pair pair_differs
  found_pair i j r w li lj below er ew =
      let p : ℕ = i * input_limit + j in
      let h : p < pairs = omega arith in
      let ei : p / input_limit ≡ i = omega arith in
      let ej : p % input_limit ≡ j = omega arith in
      let s = some_is (candidates t.inputs) (pair_first t i j) r er in
      let here : tried p ≡ true = rw (ei, ej) (lt-ltb (pair_first t i j) (candidates t.inputs) s.1) in
      let e : first pairs tried ≡ p = first_found tried pairs p h below here in
      rw (e, lt-ltb p pairs h, ei, ej, ← s.0) (ap Dependent ew)

  -- no number up to i is the second of a pair whose first is i, and none from the number of inputs on
  pub low_pairs : (i : ℕ) → ((k : ℕ) → k < i * input_limit → tried k ≡ false) → (k : ℕ) → k < i * input_limit + (i + 1) → i < input_limit → tried k ≡ false
  low_pairs i h k lk li = ⊎_elim (h k)
      (λ g. nothing t (k / input_limit) (k % input_limit) (omega (arith, no_pair t (k / input_limit) (k % input_limit) (omega arith))))
      (lt_or_ge k (i * input_limit))

  pub next_pair : (i j : ℕ) → j < input_limit → ((k : ℕ) → k < i * input_limit + j → tried k ≡ false) → pair_differs t i j ≡ false →
      (k : ℕ) → k < i * input_limit + (j + 1) → tried k ≡ false
  next_pair i j lj h e k lk =
      let ei : (i * input_limit + j) / input_limit ≡ i = omega arith in
      let ej : (i * input_limit + j) % input_limit ≡ j = omega arith in
      below_more (λ (q : ℕ). tried q ≡ false) (i * input_limit + j) h (rw (ei, ej) e) k (omega arith)

  pub high_pairs : (i j : ℕ) → t.inputs ≤ j → ((k : ℕ) → k < i * input_limit + j → tried k ≡ false) → (k : ℕ) → k < (i + 1) * input_limit → tried k ≡ false
  high_pairs i j lj h k lk = ⊎_elim (h k)
      (λ g. nothing t (k / input_limit) (k % input_limit) (omega (arith, past_pair t (k / input_limit) (k % input_limit) (omega arith))))
      (lt_or_ge k (i * input_limit + j))

  past : (k : ℕ) → t.inputs ≤ k / input_limit → tried k ≡ false
  past k h = nothing t (k / input_limit) (k % input_limit) (⊎_elim
      (λ l. omega (arith, past_pair t (k / input_limit) (k % input_limit) (omega arith)))
      (λ l. omega (arith, no_pair t (k / input_limit) (k % input_limit) l))
      (lt_or_ge (k / input_limit) (k % input_limit)))

  pub none_found : (p : ℕ) → input_limit * t.inputs ≤ p → ((k : ℕ) → k < p → tried k ≡ false) → Independent ≡ finding_in t
  unfolding finding_in first_pair
  none_found p h below =
      let e : first pairs tried ≡ pairs = first_none tried pairs (λ k l. ⊎_elim (below k) (λ g. past k (omega arith)) (lt_or_ge k p)) in
      rw e

-- ---- what they find

module _ (t : Table) (small : Small t) where
  abbrev n : ℕ
  n = t.inputs

  abbrev phi : Step
  phi = step_of t

  module _ (i j : ℕ) (lt : i < j) (lj : j < n) where
    apart : i ≢ j
    apart e = omega arith

    agrees_of : (s : ℕ) → s < candidates n → differs_at t i j s ≡ false → Disagrees n (Every n) phi (suc i) (suc j) s → ⊥
    agrees_of s ls e d =
        let q = sym (differs_is t small i j (omega arith) lj apart s) ∙ e in
        d.differ (of_same _ _ (not-false _ q))

    differs_of : (s : ℕ) → s < candidates n → differs_at t i j s ≡ true → Disagrees n (Every n) phi (suc i) (suc j) s
    differs_of s ls e = record {
      admitted = (vector_number n (s / 27), vector_put (suc j) (second_now s) (vector_put (suc i) (first_now s) (vector_number n (s / 27))));
      differ = λ q.
          let p : not (same_value (first_output n phi (suc i) (suc j) s) (second_output n phi (suc i) (suc j) s)) ≡ true =
          sym (differs_is t small i j (omega arith) lj apart s) ∙ e in
          clash (sym (same_of _ _ q) ∙ not-true _ p);
    }

    -- a pair that does not differ has no disagreement
    fine : pair_differs t i j ≡ false → (s : ℕ) → s < candidates n → Disagrees n (Every n) phi (suc i) (suc j) s → ⊥
    unfolding pair_differs pair_first first_at
    fine e s ls =
        let z : ltb (first (candidates n) (differs_at t i j)) (candidates n) ≡ false = rw (lt-ltb i j lt, lt-ltb j n lj) at e in
        agrees_of s ls (first_below (differs_at t i j) (candidates n) s (omega (arith, ltb-false (first (candidates n) (differs_at t i j)) (candidates n) z)))

  module _ (most : n ≤ input_limit) where
    abbrev test : ℕ → Bool
    test p = pair_differs t (p / input_limit) (p % input_limit)

    -- a pair before the first that differs
    earlier : (k a b : ℕ) → ((q : ℕ) → q < k → test q ≡ false) → a < b → b < n → a * input_limit + b < k →
        (s : ℕ) → s < candidates n → Disagrees n (Every n) phi (suc a) (suc b) s → ⊥
    earlier k a b none lt lb h =
        let x : (a * input_limit + b) / input_limit ≡ a = omega arith in
        let y : (a * input_limit + b) % input_limit ≡ b = omega arith in
        fine a b lt lb (rw (x, y) at (none (a * input_limit + b) h))

    first_at_lem : (p : ℕ) → ((q : ℕ) → q < p → test q ≡ false) → test p ≡ true →
        First n (Every n) phi (suc (p / input_limit)) (suc (p % input_limit)) (pair_first t (p / input_limit) (p % input_limit))
    unfolding first_at
    first_at_lem p none here =
        let i : ℕ = p / input_limit in
        let j : ℕ = p % input_limit in
        let k : Told t i j = told t i j here in
        let e : pair_first t i j ≡ first (candidates n) (differs_at t i j) = pair_first_lem t i j k.rising k.last in
        let c : first (candidates n) (differs_at t i j) < candidates n = rw e at k.counted in
        rw e (record {
          one = omega arith;
          rising = omega (arith, k.rising);
          last = k.last;
          counted = c;
          here = differs_of i j k.rising k.last (first (candidates n) (differs_at t i j)) c (first_holds (differs_at t i j) (candidates n) c);
          before_i = λ a b s la lt ab bn ls d. before a b s la lt ab bn ls d;
          before_j = λ b s ib bj ls d. between b s ib bj ls d;
          before_r = λ s ls d. agrees_of i j k.rising k.last s (omega arith) (first_below (differs_at t i j) (candidates n) s ls) d;
        })
      where
        before : (a b s : ℕ) → 1 ≤ a → a < suc (p / input_limit) → a < b → b ≤ n → s < candidates n → Disagrees n (Every n) phi a b s → ⊥
        before zero b s la lt ab bn ls d = absurd (omega arith)
        before (suc a) zero s la lt ab bn ls d = absurd (omega arith)
        before (suc a) (suc b) s la lt ab bn ls d = earlier p a b none (omega arith) (omega arith) (omega arith) s ls d

        between : (b s : ℕ) → suc (p / input_limit) < b → b < suc (p % input_limit) → s < candidates n →
            Disagrees n (Every n) phi (suc (p / input_limit)) b s → ⊥
        between zero s ib bj ls d = absurd (omega arith)
        between (suc b) s ib bj ls d =
            earlier p (p / input_limit) b none (omega arith) (omega (arith, (told t (p / input_limit) (p % input_limit) here).last)) (omega arith) s ls d

    none_at : ((q : ℕ) → q < pairs → test q ≡ false) → (i j r : ℕ) → 1 ≤ i → i < j → j ≤ n → r < candidates n → Disagrees n (Every n) phi i j r → ⊥
    none_at none zero j r a b c h = absurd (omega arith)
    none_at none (suc i) zero r a b c h = absurd (omega arith)
    none_at none (suc i) (suc j) r a b c h = earlier pairs i j none (omega arith) (omega arith) (omega arith) r h

    witness_right : (i j r : ℕ) → i < j → j < n → First n (Every n) phi (suc i) (suc j) r → Witnesses n phi (witness_in t i j r)
    unfolding witness_in
    witness_right i j r lt lj w = rw (add-one i, add-one j) (record {
      candidate = r;
      first = w;
      previous = refl;
      first_now = refl;
      second_now = refl;
      old = refl;
      first_output = rw (output_is t small i j (omega arith) lj (λ e. omega arith) r) (value_rank _);
      second_output = rw (other_is t small i j (omega arith) lj (λ e. omega arith) r) (value_rank _);
    })

    pub finding_right : RightFinding n phi (finding_in t)
    unfolding finding_in first_pair
    finding_right = go (ltb (first pairs test) pairs) refl
      where
        go : (b : Bool) → ltb (first pairs test) pairs ≡ b →
            RightFinding n phi (cond b (Dependent
            (witness_in t (first pairs test / input_limit) (first pairs test % input_limit)
            (pair_first t (first pairs test / input_limit) (first pairs test % input_limit)))) Independent)
        go true e =
            let p : ℕ = first pairs test in
            let here : test p ≡ true = first_holds test pairs (ltb-true p pairs e) in
            let k : Told t (p / input_limit) (p % input_limit) = told t (p / input_limit) (p % input_limit) here in
            witness_right (p / input_limit) (p % input_limit) (pair_first t (p / input_limit) (p % input_limit)) k.rising k.last
            (first_at_lem p (first_below test pairs) here)
        go false e = (judged_iff (laws t n) (every_family n)).1
            (none_at (λ q h. first_below test pairs q (omega (arith, ltb-false (first pairs test) pairs e))))
