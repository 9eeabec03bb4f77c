-- The two orders of a witness, by place. Assumes nothing.
use mathlib.Core.Path.{◌≡◌, refl, sym, ap, ap₂, ◌∙◌}
use mathlib.Core.Logic.{◌≢◌, ite, ⊎_elim}
use mathlib.Core.List.{List, [], ◌∷◌, ◌++◌}
use Prim.Native.Nat.{ℕ, zero, suc, ◌+◌, ◌-◌, ◌≤◌, ◌<◌}
use native.Mathlib.Nat.{add-zero}
use native.Mathlib.Decide.{ℕ_discrete}
use native.Mathlib.Omega.{arith}
use borrow.Author.Tests.{ne_eqb, lt-ltb, le-ltb}
use lib.ListN.{length, get_or, length-append, get_or-append}
use lib.Seq.{get_or-append-add}
use Rattle.base.specs.Listed.{listed}
use Rattle.base.proofs.Listed.{listed_is}
use Rattle.base.proofs.Bools.{lt_or_ge}
use Rattle.orders.specs.Pairs.{rise, without, others, pair_order}
use Rattle.verdict.specs.Verdict as words
use Rattle.verdict.specs.Meaning.{shown, meant, Sound, SoundFinding}
use Rattle.verdict.specs.declared.Witness.{Witness}
use Rattle.verdict.specs.declared.Finding.{Finding}
use Rattle.verdict.specs.declared.Finding.TheVariants.{Independent, Dependent}
use Rattle.handed.specs.Handed.{Handed, verdict_of}
use Rattle.entry.specs.Draft.{order_at, drafted, draft_finding, draft}

-- ---- rising numbers

rise_append : (a p q : ℕ) → rise a (p + q) ≡ rise a p ++ rise (a + p) q
rise_append a zero q =
    let e : zero + q ≡ q = omega arith in
    ap₂ rise (sym (add-zero a)) e
rise_append a (suc p) q =
    let e : suc p + q ≡ suc (p + q) = omega arith in
    let f : suc a + p ≡ a + suc p = omega arith in
    rw e (ap (λ (l : List ℕ). a ∷ l) (rise_append (suc a) p q ∙ rw f))

rise_length : (a m : ℕ) → length (rise a m) ≡ m
rise_length a zero = refl
rise_length a (suc m) = ap suc (rise_length (suc a) m)

rise_at : (a m k : ℕ) → k < m → get_or (rise a m) k 0 ≡ a + k
rise_at a zero k h = absurd (omega arith)
rise_at a (suc m) zero h = omega arith
rise_at a (suc m) (suc k) h = rise_at (suc a) m k (omega arith) ∙ omega arith

-- ---- a number left out

without_here : (i : ℕ) (l : List ℕ) → without i (i ∷ l) ≡ without i l
without_here i l = go (ℕ_discrete i i)
  where
    go : (d : Dec (i ≡ i)) → ite d (without i l) (i ∷ without i l) ≡ without i l
    go (yes e) = refl
    go (no ne) = absurd (ne refl)

without_other : (i x : ℕ) (l : List ℕ) → i ≢ x → without i (x ∷ l) ≡ x ∷ without i l
without_other i x l h = go (ℕ_discrete i x)
  where
    go : (d : Dec (i ≡ x)) → ite d (without i l) (x ∷ without i l) ≡ x ∷ without i l
    go (yes e) = absurd (h e)
    go (no ne) = refl

without_append : (i : ℕ) (u v : List ℕ) → without i (u ++ v) ≡ without i u ++ without i v
without_append i [] v = refl
without_append i (x ∷ u) v = go (ℕ_discrete i x) (without_append i u v)
  where
    go : (d : Dec (i ≡ x)) → without i (u ++ v) ≡ without i u ++ without i v
        → ite d (without i (u ++ v)) (x ∷ without i (u ++ v)) ≡ ite d (without i u) (x ∷ without i u) ++ without i v
    go (yes e) below = below
    go (no ne) below = ap (λ (l : List ℕ). x ∷ l) below

without_rise : (i a m : ℕ) → ((k : ℕ) → a ≤ k → k < a + m → i ≢ k) → without i (rise a m) ≡ rise a m
without_rise i a zero h = refl
without_rise i a (suc m) h =
    without_other i a (rise (suc a) m) (h a (omega arith) (omega arith))
    ∙ ap (λ (l : List ℕ). a ∷ l) (without_rise i (suc a) m (λ k p q. h k (omega arith) (omega arith)))

-- ---- the others of i < j

module _ (n i j : ℕ) (from : 1 ≤ i) (apart : i < j) (to : j ≤ n) where
  low : List ℕ
  low = rise 1 (i - 1)

  mid : List ℕ
  mid = rise (suc i) (j - i - 1)

  high : List ℕ
  high = rise (suc j) (n - j)

  whole : rise 1 n ≡ low ++ (i ∷ (mid ++ (j ∷ high)))
  unfolding low mid high
  whole =
      let e : n ≡ (i - 1) + suc ((j - i - 1) + suc (n - j)) = omega arith in
      let f : 1 + (i - 1) ≡ i = omega arith in
      let g : suc i + (j - i - 1) ≡ j = omega arith in
      ap (rise 1) e
      ∙ rise_append 1 (i - 1) (suc ((j - i - 1) + suc (n - j)))
      ∙ rw f (ap (λ (l : List ℕ). rise 1 (i - 1) ++ (i ∷ l)) (rise_append (suc i) (j - i - 1) (suc (n - j)) ∙ rw g))

  others_first : without i (without j (rise 1 n)) ≡ low ++ (mid ++ high)
  unfolding low mid high
  others_first =
      rw (
        whole,
        without_append j low (i ∷ (mid ++ (j ∷ high))),
        without_other j i (mid ++ (j ∷ high)) (λ e. omega arith),
        without_append j mid (j ∷ high),
        without_here j high,
        without_rise j 1 (i - 1) (λ k p q e. omega arith),
        without_rise j (suc i) (j - i - 1) (λ k p q e. omega arith),
        without_rise j (suc j) (n - j) (λ k p q e. omega arith),
        without_append i low (i ∷ (mid ++ high)),
        without_here i (mid ++ high),
        without_append i mid high,
        without_rise i 1 (i - 1) (λ k p q e. omega arith),
        without_rise i (suc i) (j - i - 1) (λ k p q e. omega arith),
        without_rise i (suc j) (n - j) (λ k p q e. omega arith),
      )

  others_second : without j (without i (rise 1 n)) ≡ low ++ (mid ++ high)
  unfolding low mid high
  others_second =
      rw (
        whole,
        without_append i low (i ∷ (mid ++ (j ∷ high))),
        without_here i (mid ++ (j ∷ high)),
        without_append i mid (j ∷ high),
        without_other i j high (λ e. omega arith),
        without_rise i 1 (i - 1) (λ k p q e. omega arith),
        without_rise i (suc i) (j - i - 1) (λ k p q e. omega arith),
        without_rise i (suc j) (n - j) (λ k p q e. omega arith),
        without_append j low (mid ++ (j ∷ high)),
        without_append j mid (j ∷ high),
        without_here j high,
        without_rise j 1 (i - 1) (λ k p q e. omega arith),
        without_rise j (suc i) (j - i - 1) (λ k p q e. omega arith),
        without_rise j (suc j) (n - j) (λ k p q e. omega arith),
      )

  size : length (low ++ (mid ++ high)) ≡ n - 2
  unfolding low mid high
  size = omega (arith, length-append low (mid ++ high), length-append mid high, rise_length 1 (i - 1), rise_length (suc i) (j - i - 1), rise_length (suc j) (n - j))

  -- number m of the others
  at_low : (m : ℕ) → m + 1 < i → get_or (low ++ (mid ++ high)) m 0 ≡ m + 1
  unfolding low mid high
  at_low m h = get_or-append low (mid ++ high) 0 m (omega (arith, rise_length 1 (i - 1))) ∙ rise_at 1 (i - 1) m (omega arith) ∙ omega arith

  at_mid : (m : ℕ) → i ≤ m + 1 → m + 2 < j → get_or (low ++ (mid ++ high)) m 0 ≡ m + 2
  unfolding low mid high
  at_mid m h g =
      let e : m ≡ length low + (m - (i - 1)) = omega (arith, rise_length 1 (i - 1)) in
      ap (λ (k : ℕ). get_or (low ++ (mid ++ high)) k 0) e
      ∙ get_or-append-add low (mid ++ high) (m - (i - 1)) 0
      ∙ get_or-append mid high 0 (m - (i - 1)) (omega (arith, rise_length (suc i) (j - i - 1)))
      ∙ rise_at (suc i) (j - i - 1) (m - (i - 1)) (omega arith)
      ∙ omega arith

  at_high : (m : ℕ) → j ≤ m + 2 → m + 2 < n → get_or (low ++ (mid ++ high)) m 0 ≡ m + 3
  unfolding low mid high
  at_high m h g =
      let e : m ≡ length low + (length mid + (m - (j - 2))) = omega (arith, rise_length 1 (i - 1), rise_length (suc i) (j - i - 1)) in
      ap (λ (k : ℕ). get_or (low ++ (mid ++ high)) k 0) e
      ∙ get_or-append-add low (mid ++ high) (length mid + (m - (j - 2))) 0
      ∙ get_or-append-add mid high (m - (j - 2)) 0
      ∙ rise_at (suc j) (n - j) (m - (j - 2)) (omega arith)
      ∙ omega arith

  place : (a b k : ℕ) → k < n → order_at i j a b k ≡ get_or (a ∷ b ∷ (low ++ (mid ++ high))) k 0
  unfolding order_at
  place a b zero h = refl
  place a b (suc zero) h = refl
  place a b (suc (suc m)) h =
      let p : suc (suc m) - 1 ≡ suc m = omega arith in
      rw (p, ne_eqb (suc (suc m)) 0 (λ e. omega arith), ne_eqb (suc (suc m)) 1 (λ e. omega arith))
      (⊎_elim
      (λ (l : suc m < i). rw (lt-ltb (suc m) i l, lt-ltb (suc m) j (omega arith)) (sym (at_low m (omega arith) ∙ omega arith)))
      (λ (g : i ≤ suc m). ⊎_elim
      (λ (l : suc (suc m) < j). rw (le-ltb (suc m) i g, lt-ltb (suc (suc m)) j l) (sym (at_mid m (omega arith) (omega arith) ∙ omega arith)))
      (λ (r : j ≤ suc (suc m)). rw (le-ltb (suc m) i g, le-ltb (suc (suc m)) j r) (sym (at_high m (omega arith) (omega arith) ∙ omega arith)))
      (lt_or_ge (suc (suc m)) j))
      (lt_or_ge (suc m) i))

  listed_order : (a b : ℕ) (l : List ℕ) → l ≡ low ++ (mid ++ high) → listed (order_at i j a b) n ≡ a ∷ b ∷ l
  listed_order a b l e = rw e (listed_is (order_at i j a b) n (a ∷ b ∷ (low ++ (mid ++ high))) 0 (omega (arith, size)) (place a b))

  pub first_order : listed (order_at i j i j) n ≡ pair_order n i j
  first_order = listed_order i j (others n i j) others_first

  pub second_order : listed (order_at i j j i) n ≡ pair_order n j i
  second_order = listed_order j i (others n j i) others_second

-- ---- where a verdict fits, the draft is what is meant

pub draft_shown : (n : ℕ) (w : Witness) → Sound n w → drafted n w ≡ shown n w
unfolding shown
draft_shown n w s = rw (first_order n w.first w.second s.from s.apart s.to, second_order n w.first w.second s.from s.apart s.to)

pub draft_meant : (n : ℕ) (f : Finding) → SoundFinding n f → draft_finding n f ≡ meant n f
unfolding meant
draft_meant n Independent s = refl
draft_meant n (Dependent w) s = ap words.dependent (draft_shown n w s)

pub draft_verdict : (h : Handed) → SoundFinding h.inputs h.finding → draft h ≡ verdict_of h
draft_verdict h s = rw (draft_meant h.inputs h.finding s)
