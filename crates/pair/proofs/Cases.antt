-- A case in which a column stays, and all 27 cases at once. Assumes nothing.
use Prim.Native.Nat.{ℕ, zero, suc, ◌+◌, ◌/◌, ◌%◌, ◌<◌}
use mathlib.Core.Path.{◌≡◌, refl, sym, ap}
use mathlib.Core.Bool.{Bool, true, false, not, ◌&&◌, ◌||◌}
use mathlib.Core.List.{List}
use mathlib.Core.Logic.{⊎_elim, ◌≢◌}
use native.Mathlib.Decide.{ℕ_discrete}
use native.Mathlib.Omega.{arith}
use lib.Dec.{eqb}
use borrow.Author.Tests.{eq-eqb, eqb-true}
use Rattle.base.specs.Search.{first}
use Rattle.base.proofs.Bools.{both, either}
use Rattle.base.proofs.Search.{first_none}
use Rattle.table.specs.Table.{Table}
use Rattle.memo.specs.Rows.{entry_of}
use Rattle.memo.specs.Pair.{first_then, second_then}
use Rattle.pair.specs.Search.{differs_by}

-- one of three, as the code writes it
pub third : (g : ℕ → Bool) → (g 0 && (g 1 && g 2)) ≡ true → (k : ℕ) → k < 3 → g k ≡ true
third g e zero h = (both (g 0) _ e).0
third g e (suc zero) h = (both (g 1) (g 2) (both (g 0) _ e).1).0
third g e (suc (suc zero)) h = (both (g 1) (g 2) (both (g 0) _ e).1).1
third g e (suc (suc (suc k))) h = absurd (omega arith)

-- a value other than b is one of the two after it
pub one_of_two : (P : ℕ → Type 0) (b y : ℕ) → b < 3 → y < 3 → y ≢ b → P ((b + 1) % 3) → P ((b + 2) % 3) → P y
one_of_two P b y lb ly ne p q = go (ℕ_discrete y ((b + 1) % 3))
  where
    go : Dec (y ≡ (b + 1) % 3) → P y
    go (yes e) = rw e p
    go (no d) = let e : y ≡ (b + 2) % 3 = omega arith in rw e q

-- the second order is the first with the two exchanged
pub second_first : (t : Table) (s : List (List ℕ)) (i j rest a b x y o : ℕ) → second_then t s i j rest a b x y o ≡ first_then t s j i rest b a y x o
unfolding first_then second_then
second_first t s i j rest a b x y o = refl

-- all three old outputs
pub agree_third : (t : Table) (s : List (List ℕ)) (i j rest a b x y : ℕ) (p q r : Bool) →
    p ≡ eqb (first_then t s i j rest a b x y 0) (second_then t s i j rest a b x y 0) →
    q ≡ eqb (first_then t s i j rest a b x y 1) (second_then t s i j rest a b x y 1) →
    r ≡ eqb (first_then t s i j rest a b x y 2) (second_then t s i j rest a b x y 2) →
    (p && (q && r)) ≡ true → (o : ℕ) → o < 3 → first_then t s i j rest a b x y o ≡ second_then t s i j rest a b x y o
agree_third t s i j rest a b x y p q r ep eq er e o h =
    eqb-true _ _
    (third (λ (k : ℕ). eqb (first_then t s i j rest a b x y k) (second_then t s i j rest a b x y k))
    (rw (ep, eq, er) at e) o h)

module _ (t : Table) (s : List (List ℕ)) (i j rest a b : ℕ) where
  abbrev Agree : ℕ → ℕ → ℕ → Type 0
  Agree x y o = first_then t s i j rest a b x y o ≡ second_then t s i j rest a b x y o

  -- an input that stays leaves the output
  still_i : (y o : ℕ) → Agree a y o
  unfolding first_then second_then entry_of
  still_i y o = rw (eq-eqb a a refl)

  still_j : (x o : ℕ) → Agree x b o
  unfolding first_then second_then entry_of
  still_j x o = rw (eq-eqb b b refl)

  every_case : a < 3 → b < 3 → ((x y o : ℕ) → x < 3 → y < 3 → o < 3 → x ≢ a → y ≢ b → Agree x y o) →
      (x y o : ℕ) → x < 3 → y < 3 → o < 3 → Agree x y o
  every_case la lb f x y o lx ly lo = go (ℕ_discrete x a) (ℕ_discrete y b)
    where
      go : Dec (x ≡ a) → Dec (y ≡ b) → Agree x y o
      go (yes e) d = rw e (still_i y o)
      go (no p) (yes e) = rw e (still_j x o)
      go (no p) (no q) = f x y o lx ly lo p q

  -- the cases in which both columns change decide all 27
  pub no_case : a < 3 → b < 3 → ((x y o : ℕ) → x < 3 → y < 3 → o < 3 → x ≢ a → y ≢ b → Agree x y o) →
      27 ≡ first 27 (differs_by t s i j rest a b)
  unfolding differs_by
  no_case la lb f =
      sym (first_none (differs_by t s i j rest a b) 27
      (λ c h. ap not
      (eq-eqb _ _ (every_case la lb f (c / 9) (c / 3 % 3) (c % 3) (omega arith) (omega arith) (omega arith)))))

  abbrev Differ : ℕ → ℕ → ℕ → Bool
  Differ x y o = not (eqb (first_then t s i j rest a b x y o) (second_then t s i j rest a b x y o))

  -- and then the two orders do not differ
  pub one_stays : (x y o : ℕ) → (eqb x a || eqb y b) ≡ true → false ≡ Differ x y o
  one_stays x y o e = ⊎_elim
      (λ p. let z : x ≡ a = eqb-true x a p in sym (ap not (eq-eqb _ _ (rw z (still_i y o)))))
      (λ p. let z : y ≡ b = eqb-true y b p in sym (ap not (eq-eqb _ _ (rw z (still_j x o)))))
      (either (eqb x a) (eqb y b) e)

  -- the case of a number
  pub case_is : (c x y o : ℕ) (r : Bool) → c < 27 → x ≡ c / 9 % 3 → y ≡ c / 3 % 3 → o ≡ c % 3 → r ≡ Differ x y o → differs_by t s i j rest a b c ≡ r
  unfolding differs_by
  case_is c x y o r h ex ey eo e = let z : c / 9 % 3 ≡ c / 9 = omega arith in sym (rw (ex, ey, eo, z) at e)
