-- Bytes at a place of a text. Assumes nothing.
use mathlib.Core.Path.{◌≡◌, refl}
use Rattle.std.specs.Prelude.{Result as Answer, Ok, Err, IsErrAnd}
use mathlib.Core.Bool.{Bool, true, false, cond, ◌||◌}
use mathlib.Core.List.{List, [], ◌∷◌}
use Prim.Native.Nat.{ℕ, suc, ◌+◌, ◌≤◌, ◌<◌}
use native.Mathlib.Numerals.{add-one}
use native.Mathlib.Omega.{arith}
use lib.Dec.{T, eqb, eqb→eq}
use borrow.Author.Tests.{eqb-true}
use lib.ListN.{length, get_or, drop, drop_of_length-le}
use lib.Seq.{drop-cons, drop-drop}
use Rattle.refusal.specs.Refusal.{number_of}
use Rattle.refusal.specs.declared.Refusal.{Refusal}
use Rattle.refusal.specs.declared.Fault.TheVariants.{OpenComment, Unexpected}
use Rattle.text.specs.Blanks.{begins, one}
use Rattle.text.specs.Places.{meant}
use Rattle.text.specs.Reader.{got, refused, bind, give, byte, ahead, fault}

-- what is not expected, by its number
pub fault_is : (b : Bool) → number_of (cond b OpenComment Unexpected) ≡ cond b 2 3
fault_is true = refl
fault_is false = refl

-- a refusal that is passed on by `?`
pub passed_on : {T A : Type 0} (t : List ℕ) (end : T → ℕ) (f : T → A) (r : Answer T Refusal) (e : Refusal) → IsErrAnd r (λ x. x ≡ e)
    → refused (number_of e.fault) e.place ≡ meant t end f r
passed_on t end f (Ok x) e h = absurd h
passed_on t end f (Err x) e h = rw h

module _ (t : List ℕ) (i : ℕ) where
  pub mark_at : (c : ℕ) → byte (λ b. eqb b c) i (drop i t) ≡ cond (one c (drop i t)) (got c (i + 1) (drop (i + 1) t)) (fault i (drop i t))
  mark_at c = let e : i + 1 ≡ suc i = omega arith in rw (← drop-drop 1 i t, e) (go (drop i t))
    where
      go : (s : List ℕ) → byte (λ b. eqb b c) i s ≡ cond (one c s) (got c (suc i) (drop 1 s)) (fault i s)
      go [] = refl
      go (b ∷ l) = pick (eqb b c) (λ e. eqb→eq b c e)
        where
          pick : (x : Bool) → (T x → b ≡ c) → cond x (got b (suc i) l) (fault i (b ∷ l)) ≡ cond x (got c (suc i) l) (fault i (b ∷ l))
          pick true e = rw (e tt)
          pick false e = refl

  pub either_at : (c d : ℕ)
      → bind (byte (λ b. eqb b c || eqb b d) i (drop i t)) (λ b. give (eqb b c))
      ≡ cond (one c (drop i t)) (got true (i + 1) (drop (i + 1) t)) (cond (one d (drop i t)) (got false (i + 1) (drop (i + 1) t)) (fault i (drop i t)))
  either_at c d = let e : i + 1 ≡ suc i = omega arith in rw (← drop-drop 1 i t, e) (go (drop i t))
    where
      go : (s : List ℕ)
          → bind (byte (λ b. eqb b c || eqb b d) i s) (λ b. give (eqb b c))
          ≡ cond (one c s) (got true (suc i) (drop 1 s)) (cond (one d s) (got false (suc i) (drop 1 s)) (fault i s))
      go [] = refl
      go (b ∷ l) = pick (eqb b c) refl (eqb b d)
        where
          pick : (x : Bool) → eqb b c ≡ x → (y : Bool)
              → bind (cond (x || y) (got b (suc i) l) (fault i (b ∷ l))) (λ b. give (eqb b c))
              ≡ cond x (got true (suc i) l) (cond y (got false (suc i) l) (fault i (b ∷ l)))
          pick true e y = rw e
          pick false e true = rw e
          pick false e false = refl

-- ---- what a byte says

pub ahead_is : (p : ℕ → Bool) (k : ℕ) (s : List ℕ) → ahead p k s ≡ got (begins p s) k s
ahead_is p k [] = refl
ahead_is p k (b ∷ l) = refl

pub ahead_one : (c k : ℕ) (s : List ℕ) → ahead (λ b. eqb b c) k s ≡ got (one c s) k s
ahead_one c k [] = refl
ahead_one c k (b ∷ l) = refl

pub ahead_none : (k : ℕ) (s : List ℕ) → ahead (λ b. false) k s ≡ got false k s
ahead_none k [] = refl
ahead_none k (b ∷ l) = refl

module _ (t : List ℕ) (i : ℕ) (p : ℕ → Bool) where
  pub byte_cons : i < length t → byte p i (drop i t) ≡ cond (p (get_or t i 0)) (got (get_or t i 0) (i + 1) (drop (i + 1) t)) (fault i (drop i t))
  byte_cons h = rw (add-one, drop-cons t i 0)

  pub byte_nil : length t ≤ i → byte p i (drop i t) ≡ fault i (drop i t)
  byte_nil h = rw (drop_of_length-le t h)

-- one of two bytes
pub byte_two : (t : List ℕ) (i c d : ℕ)
    → byte (λ b. eqb b c || eqb b d) i (drop i t)
    ≡ cond (one c (drop i t)) (got c (i + 1) (drop (i + 1) t)) (cond (one d (drop i t)) (got d (i + 1) (drop (i + 1) t)) (fault i (drop i t)))
byte_two t i c d = let e : i + 1 ≡ suc i = omega arith in rw (← drop-drop 1 i t, e) (go (drop i t))
  where
    go : (s : List ℕ) → byte (λ b. eqb b c || eqb b d) i s ≡ cond (one c s) (got c (suc i) (drop 1 s)) (cond (one d s) (got d (suc i) (drop 1 s)) (fault i s))
    go [] = refl
    go (b ∷ l) = pick (eqb b c) refl (eqb b d) refl
      where
        pick : (x : Bool) → eqb b c ≡ x → (y : Bool) → eqb b d ≡ y
            → cond (x || y) (got b (suc i) l) (fault i (b ∷ l)) ≡ cond x (got c (suc i) l) (cond y (got d (suc i) l) (fault i (b ∷ l)))
        pick true e y f = rw (eqb-true b c e)
        pick false e true f = rw (eqb-true b d f)
        pick false e false f = refl
