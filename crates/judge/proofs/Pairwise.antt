-- The square that the search gives is the square of the definition. Assumes nothing.
use Prim.Native.Nat.{ℕ, suc, ◌<◌, ◌≤◌}
use mathlib.Core.Path.{◌≡◌, refl, sym, ◌∙◌}
use mathlib.Core.Logic.{◌⊎◌, inl, inr, ⊎_elim}
use mathlib.Core.Bool.{Bool, true, false, not, cond, ◌&&◌, ◌||◌}
use mathlib.Core.List.{List, []}
use native.Mathlib.Omega.{arith}
use lib.Dec.{ltb}
use lib.ListN.{get_or}
use lib.Seq.{get_or-take}
use borrow.Author.Tests.{ltb-true, lt-ltb, le-ltb}
use Rattle.base.specs.Limits.{input_limit}
use Rattle.base.specs.Listed.{listed}
use Rattle.base.specs.Search.{some, first}
use Rattle.base.proofs.Bools.{lt_or_ge}
use Rattle.base.proofs.Search.{first_below, first_holds, some_at, some_none}
use Rattle.base.proofs.Listed.{listed_is, listed_length, listed_at, Filled}
use Rattle.orders.specs.Order.{Step}
use Rattle.orders.specs.Verdict.{candidates}
use Rattle.table.specs.Table.{Table}
use Rattle.step.specs.Step.{step_of}
use Rattle.memo.specs.Rows.{Small}
use Rattle.pair.specs.Search.{differs_at, first_at}
use Rattle.judge.specs.Search.{pair_first, pair_differs, yes_in, square_in}
use Rattle.judge.specs.Judge.{disagree, pair_yes, square_of}
use Rattle.judge.proofs.Ranks.{differs_is}
use Rattle.exchange.specs.Pairs.{Tells}
use Rattle.judge.proofs.Findings.{no_pair}
use Rattle.judge.proofs.Agreeing.{agreed, agrees_by}

first_some : (m : ℕ) (g h : ℕ → Bool) → ((k : ℕ) → k < m → g k ≡ h k) → ltb (first m g) m ≡ some m h
first_some m g h e = ⊎_elim found none (lt_or_ge (first m g) m)
  where
    found : first m g < m → ltb (first m g) m ≡ some m h
    found l = lt-ltb (first m g) m l ∙ sym (some_at h m (first m g) l (sym (e (first m g) l) ∙ first_holds g m l))

    none : m ≤ first m g → ltb (first m g) m ≡ some m h
    none l = le-ltb (first m g) m l ∙ sym (some_none h m (λ k b. sym (e k b) ∙ first_below g m k (omega arith)))

guarded : (a b : Bool) (x : Bool) (f c : ℕ) → (a ≡ true → b ≡ true → ltb f c ≡ x) → ltb (cond (a && b) f c) c ≡ (a && (b && x))
guarded true true x f c h = h refl refl
guarded true false x f c h = le-ltb c c (omega arith)
guarded false b x f c h = le-ltb c c (omega arith)

module _ (t : Table) (small : Small t) where
  abbrev n : ℕ
  n = t.inputs

  abbrev phi : Step
  phi = step_of t

  pair_is : (i j : ℕ) → pair_differs t i j ≡ (ltb i j && (ltb j n && disagree n phi (suc i) (suc j)))
  unfolding pair_differs pair_first first_at disagree
  pair_is i j =
      guarded (ltb i j) (ltb j n) _ _ (candidates n) (λ a b.
      let lt : i < j = ltb-true i j a in
      let lj : j < n = ltb-true j n b in
      first_some (candidates n) (differs_at t i j) _ (λ r h. differs_is t small i j (omega arith) lj (λ e. omega arith) r))

  yes_is : (i j : ℕ) → yes_in t i j ≡ pair_yes n phi i j
  unfolding yes_in pair_yes
  yes_is i j = rw (pair_is i j, pair_is j i)

  pub square_right : square_in t ≡ square_of n phi
  unfolding square_in square_of
  square_right =
      listed_is (λ (i : ℕ). listed (yes_in t i) input_limit) input_limit (listed (λ (i : ℕ). listed (pair_yes n phi i) input_limit) input_limit) []
      (listed_length (λ (i : ℕ). listed (pair_yes n phi i) input_limit) input_limit)
      (λ i h. row i ∙ sym (listed_at (λ (i : ℕ). listed (pair_yes n phi i) input_limit) input_limit i [] h))
    where
      row : (i : ℕ) → listed (yes_in t i) input_limit ≡ listed (pair_yes n phi i) input_limit
      row i =
          listed_is (yes_in t i) input_limit (listed (pair_yes n phi i) input_limit) true (listed_length (pair_yes n phi i) input_limit)
          (λ j h. yes_is i j ∙ sym (listed_at (pair_yes n phi i) input_limit j true h))

-- what a loop has filled
pub filled_at : {A : Type 0} (f : ℕ → A) (n k : ℕ) (l : List A) (d : A) → Filled f n l k → (i : ℕ) → i < k → get_or l i d ≡ f i
filled_at f n k l d w i h = sym (get_or-take k l i d h) ∙ rw w.front (listed_at f k i d h)

-- ---- one answer, as the code finds it

or_comm : (a b : Bool) → (a || b) ≡ (b || a)
or_comm true true = refl
or_comm true false = refl
or_comm false true = refl
or_comm false false = refl

yes_comm : (t : Table) (i j : ℕ) → yes_in t i j ≡ yes_in t j i
unfolding yes_in
yes_comm t i j = rw (or_comm (pair_differs t i j) (pair_differs t j i))

-- it stands in an earlier row
pub yes_before : (t : Table) (i j : ℕ) (l : List (List Bool)) (b : Bool) → j < i → i < input_limit →
    ((k : ℕ) → k < i → get_or l k [] ≡ listed (yes_in t k) input_limit) →
    b ≡ get_or (get_or l j []) i false → b ≡ yes_in t i j
yes_before t i j l b lj li w e = e ∙ rw (w j lj) (listed_at (yes_in t j) input_limit i false li ∙ yes_comm t j i)

-- where it is no pair of columns nothing differs
pub yes_nowhere : (t : Table) (i j : ℕ) → i ≤ j → pair_first t i j ≡ candidates t.inputs → true ≡ yes_in t i j
unfolding yes_in pair_differs
yes_nowhere t i j l e = rw (no_pair t j i l, e, le-ltb (candidates t.inputs) (candidates t.inputs) (omega arith))

-- the test of a pair tells it
pub yes_told : (t : Table) (i j : ℕ) (r : Bool) → i < j → j < t.inputs → Tells t i j r → r ≡ yes_in t i j
unfolding yes_in pair_differs
yes_told t i j r lt lj w = rw (no_pair t j i (omega arith), le-ltb (candidates t.inputs) (candidates t.inputs) (omega arith))
    (go (lt_or_ge (pair_first t i j) (candidates t.inputs)) r refl)
  where
    go : (pair_first t i j < candidates t.inputs) ⊎ (candidates t.inputs ≤ pair_first t i j) → (b : Bool) → r ≡ b →
        b ≡ not (ltb (pair_first t i j) (candidates t.inputs) || false)
    go (inl h) true e = absurd (omega (arith, h, agreed t i j lt lj (w.sound e)))
    go (inl h) false e = rw (lt-ltb (pair_first t i j) (candidates t.inputs) h)
    go (inr h) b e = rw (le-ltb (pair_first t i j) (candidates t.inputs) h) (sym e ∙ w.whole (agrees_by t i j lt lj h))
