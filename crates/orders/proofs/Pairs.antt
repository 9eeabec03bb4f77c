-- All full orders agree if and only if every pair does. Assumes nothing.
use mathlib.Core.Path.{◌≡◌, refl, sym, ap₂, ◌∙◌}
use mathlib.Core.Logic.{◌≢◌, ◌↔◌, ◌⊎◌, inl, inr}
use mathlib.Core.List.{List, [], ◌∷◌}
use Prim.Native.Nat.{ℕ, zero, suc, ◌≤◌, ◌<◌}
use native.Mathlib.Decide.{ℕ_discrete, dec_lt, dec_le}
use native.Mathlib.Omega.{arith}
use Rattle.value.specs.declared.Ternary.{Ternary}
use Rattle.orders.specs.Vectors.{at, put, Vector}
use Rattle.orders.specs.Order.{Step, Laws, eval_order, count, Family, Independent}
use Rattle.orders.specs.Pairs.{others, pair_order, OnlyTwo, PairAgrees, AllPairs, Commutes, Joined, same, swap, skip, then}
use Rattle.orders.proofs.Places.{at_out, at_other, at_step, put_at, put_both, at_cases, vector_put, same_size}
use Rattle.orders.proofs.Counts.{hit_self, joined_of_count, out_others, full_pair, full_counts}

flip : {i j : ℕ} → i ≢ j → j ≢ i
flip ne e = ne (sym e)

module _ {n : ℕ} {phi : Step} (L : Laws n phi) where
  -- unchanged inputs leave the output
  pub idle : (l : List ℕ) {prev cur : List Ternary} {old : Ternary} → Vector n prev → Vector n cur → ((k : ℕ) → 1 ≤ count k l → at prev k ≡ at cur k) →
      eval_order phi prev cur old l ≡ old
  idle [] g h q = refl
  idle (k ∷ l) {prev} {cur} {old} g h q =
      let e : at prev k ≡ at cur k = q k (omega (arith, hit_self k)) in
      rw (← e, put_at prev k, L.still k g h e) (idle l g h (λ m c. q m (omega arith)))

  module _ {prev cur : List Ternary} (old : Ternary) (g : Vector n prev) (h : Vector n cur) (i j : ℕ) (ne : i ≢ j) where
    -- unchanged inputs after i and j
    pub tail_idle : OnlyTwo i j prev cur → eval_order phi prev cur old (pair_order n i j) ≡ eval_order phi prev cur old (i ∷ j ∷ [])
    tail_idle q =
        idle (others n i j) (vector_put j _ (vector_put i _ g)) h
        (λ k c. let r : (k ≢ i) × (k ≢ j) = out_others n i j ne k c in at_other _ j k _ r.1 ∙ at_other _ i k _ r.0 ∙ q k r.0 r.1)

    two_own : {d : List Ternary} → Vector n d → at cur i ≡ at d i → at cur j ≡ at d j → eval_order phi prev cur old (i ∷ j ∷ []) ≡ eval_order phi prev d old (i ∷ j ∷ [])
    two_own {d} m ei ej = rw (ei, L.own i g h m ei, L.own j (vector_put i (at d i) g) h m ej)

    -- an unchanged i commutes with j
    idle_commutes : at prev i ≡ at cur i → eval_order phi prev cur old (i ∷ j ∷ []) ≡ eval_order phi prev cur old (j ∷ i ∷ [])
    idle_commutes e =
        rw (← e, put_at prev i, L.still i g h e)
        (sym (L.still i (vector_put j _ g) h (at_other prev j i (at cur j) ne ∙ e)))

  -- where one of two inputs is unchanged, and all others are, their two orders agree
  pub still_agrees : {prev cur : List Ternary} (old : Ternary) → Vector n prev → Vector n cur → (i j : ℕ) → i ≢ j → OnlyTwo i j prev cur →
      (at prev i ≡ at cur i) ⊎ (at prev j ≡ at cur j) → eval_order phi prev cur old (pair_order n i j) ≡ eval_order phi prev cur old (pair_order n j i)
  still_agrees {prev} {cur} old g h i j ne q e = tail_idle old g h i j ne q ∙ go e ∙ sym (tail_idle old g h j i (flip ne) (λ k a b. q k b a))
    where
      go : (at prev i ≡ at cur i) ⊎ (at prev j ≡ at cur j) → eval_order phi prev cur old (i ∷ j ∷ []) ≡ eval_order phi prev cur old (j ∷ i ∷ [])
      go (inl e) = idle_commutes old g h i j ne e
      go (inr e) = sym (idle_commutes old g h j i (flip ne) e)

  -- an input that the vectors do not have is unchanged
  out : {prev cur : List Ternary} (i : ℕ) → Vector n prev → Vector n cur → Dec (0 < i) → Dec (i ≤ n) → ((0 < i) × (i ≤ n)) ⊎ (at prev i ≡ at cur i)
  out i g h (yes a) (yes b) = inl (a, b)
  out zero g h (no a) d = inr refl
  out (suc i) g h (no a) d = absurd (omega arith)
  out zero g h (yes a) (no b) = inr refl
  out {prev} {cur} (suc i) g h (yes a) (no b) = inr (at_out prev (suc i) (omega (arith, g.size)) ∙ sym (at_out cur (suc i) (omega (arith, h.size))))

  module _ {Ok : List Ternary → List Ternary → Type 0} (F : Family n Ok) where
    -- an admitted pair stays admitted after a step
    ok_step : {prev cur : List Ternary} (k : ℕ) → Ok prev cur → Ok (put prev k (at cur k)) cur
    ok_step {prev} {cur} k ok = F.fewer ok (vector_put k _ (F.first ok)) (F.second ok) (λ j. go j (at_cases prev cur k j (same_size (F.first ok) (F.second ok))))
      where
        go : (j : ℕ) → (at (put prev k (at cur k)) j ≡ at cur j) ⊎ (at (put prev k (at cur k)) j ≡ at prev j) →
            (at (put prev k (at cur k)) j ≡ at cur j) ⊎ ((at (put prev k (at cur k)) j ≡ at prev j) × (at cur j ≡ at cur j))
        go j (inl e) = inl e
        go j (inr e) = inr (e, refl)

    -- Lemma 9 of source 000: orders that are joined by pairs that commute agree
    pub joined_agree : {l m : List ℕ} → Joined (Commutes Ok phi) l m → (prev cur : List Ternary) (old : Ternary) → Ok prev cur →
        eval_order phi prev cur old l ≡ eval_order phi prev cur old m
    joined_agree same prev cur old ok = refl
    joined_agree (swap {i} {j} {l} c) prev cur old ok = ap₂ (λ (p : List Ternary) (x : Ternary). eval_order phi p cur x l) (put_both prev cur i j) (c prev cur old ok)
    joined_agree (skip {k} d) prev cur old ok = joined_agree d (put prev k (at cur k)) cur (phi prev cur k old) (ok_step k ok)
    joined_agree (then d e) prev cur old ok = joined_agree d prev cur old ok ∙ joined_agree e prev cur old ok

    -- the check of a pair says that the two commute, whatever else changes
    pub commutes_of_pair : (i j : ℕ) → i ≢ j → PairAgrees n Ok phi i j → Commutes Ok phi i j
    commutes_of_pair i j ne pair prev cur old ok =
        sym (two_own old g m i j ne h di dj)
        ∙ sym (tail_idle old g m i j ne only)
        ∙ pair prev d old (F.fewer ok g m fewer) only
        ∙ tail_idle old g m j i (flip ne) (λ k a b. only k b a)
        ∙ two_own old g m j i (flip ne) h dj di
      where
        g : Vector n prev
        g = F.first ok

        h : Vector n cur
        h = F.second ok

        p : List Ternary
        p = put prev i (at cur i)

        d : List Ternary
        d = put p j (at cur j)

        r : Vector n p
        r = vector_put i (at cur i) g

        m : Vector n d
        m = vector_put j (at cur j) r

        di : at d i ≡ at cur i
        di = at_other p j i _ ne ∙ at_step prev cur i (same_size g h)

        dj : at d j ≡ at cur j
        dj = at_step p cur j (same_size r h)

        only : OnlyTwo i j prev d
        only k a b = sym (at_other p j k _ b ∙ at_other prev i k _ a)

        fewer : (k : ℕ) → (at prev k ≡ at d k) ⊎ ((at prev k ≡ at prev k) × (at d k ≡ at cur k))
        fewer k = go (at_cases p cur j k (same_size r h)) (at_cases prev cur i k (same_size g h))
          where
            go : (at d k ≡ at cur k) ⊎ (at d k ≡ at p k) → (at p k ≡ at cur k) ⊎ (at p k ≡ at prev k) → (at prev k ≡ at d k) ⊎ ((at prev k ≡ at prev k) × (at d k ≡ at cur k))
            go (inl e) b = inr (refl, e)
            go (inr e) (inl b) = inr (refl, e ∙ b)
            go (inr e) (inr b) = inl (sym (e ∙ b))

    all_commute : AllPairs n Ok phi → (i j : ℕ) → Commutes Ok phi i j
    all_commute pairs i j prev cur old ok = go (ℕ_discrete i j) (out i g h (dec_lt 0 i) (dec_le i n)) (out j g h (dec_lt 0 j) (dec_le j n)) (dec_lt i j)
      where
        g : Vector n prev
        g = F.first ok

        h : Vector n cur
        h = F.second ok

        go : Dec (i ≡ j) → ((0 < i) × (i ≤ n)) ⊎ (at prev i ≡ at cur i) → ((0 < j) × (j ≤ n)) ⊎ (at prev j ≡ at cur j) → Dec (i < j) →
            eval_order phi prev cur old (i ∷ j ∷ []) ≡ eval_order phi prev cur old (j ∷ i ∷ [])
        go (yes e) a b f = rw e
        go (no ne) (inl a) (inl b) (yes f) = commutes_of_pair i j ne (pairs i j a.0 f b.1) prev cur old ok
        go (no ne) (inl a) (inl b) (no f) = sym (commutes_of_pair j i (flip ne) (pairs j i b.0 (omega arith) a.1) prev cur old ok)
        go (no ne) (inr e) b f = idle_commutes old g h i j ne e
        go (no ne) (inl a) (inr e) f = sym (idle_commutes old g h j i (flip ne) e)

    -- Theorem 7 of source 000: pairs suffice
    pub independent_iff : Independent n Ok phi ↔ AllPairs n Ok phi
    independent_iff = (
      λ ind i j a b c prev cur old ok _.
          ind prev cur old (pair_order n i j) (pair_order n j i) ok
          (full_pair n i j (omega arith) a (omega arith) (omega arith) c)
          (full_pair n j i (omega arith) (omega arith) c a (omega arith)),
      λ pairs prev cur old l m ok f e. joined_agree (joined_of_count (all_commute pairs) l m (full_counts f e)) prev cur old ok,
    )
