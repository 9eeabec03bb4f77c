-- What holds of the value that a reader gives. Assumes nothing.
use mathlib.Core.Path.{◌≡◌, refl}
use mathlib.Core.List.{List}
use mathlib.Core.Bool.{Bool, true, false}
use Rattle.std.specs.Prelude.{Option, None, Some}
use Prim.Native.Nat.{ℕ}
use Rattle.text.specs.Reader.{Result, got, refused, Reader, bind, ◌>>=◌, give, refuse, if, fault, check, need}

abbrev pub Post : {A : Type 0} → (A → Type 0) → Result A → Type 0
Post P (got a k s) = P a
Post P (refused c p) = Unit {0}

abbrev pub Says : {A : Type 0} → (A → Type 0) → Option A → Type 0
Says P None = Unit {0}
Says P (Some a) = P a

-- every value of the reader has the property
pub record Gives {A : Type 0} (P : A → Type 0) (m : Reader A) : Type 0 where
  pub post : (k : ℕ) (s : List ℕ) → Post P (m k s)

module _ {A B : Type 0} {Q : B → Type 0} where
  -- a step whose value has P; a step whose value does not matter
  pub after : {P : A → Type 0} {m : Reader A} {f : A → Reader B} → Gives P m → ((a : A) → P a → Gives Q (f a)) → Gives Q (m >>= f)
  unfolding ◌>>=◌
  after {P} {m} {f} h g = record { post = λ k s. go (m k s) (h.post k s) }
    where
      go : (r : Result A) → Post P r → Post Q (bind r f)
      go (got a j t) p = (g a p).post j t
      go (refused c p) q = tt

  pub past : (m : Reader A) {f : A → Reader B} → ((a : A) → Gives Q (f a)) → Gives Q (m >>= f)
  unfolding ◌>>=◌
  past m {f} g = record { post = λ k s. go (m k s) }
    where
      go : (r : Result A) → Post Q (bind r f)
      go (got a j t) = (g a).post j t
      go (refused c p) = tt

module _ {B : Type 0} {Q : B → Type 0} where
  pub given : (b : B) → Q b → Gives Q (give b)
  given b q = record { post = λ k s. q }

  pub refuses : (c p : ℕ) → Gives Q (refuse c p)
  refuses c p = record { post = λ k s. tt }

  pub faults : Gives Q fault
  faults = record { post = λ k s. tt }

  pub checked : (b : Bool) (c p : ℕ) (f : Unit {0} → Reader B) → (b ≡ true → Gives Q (f tt)) → Gives Q (check b c p >>= f)
  unfolding ◌>>=◌ check
  checked true c p f g = record { post = λ k s. (g refl).post k s }
  checked false c p f g = record { post = λ k s. tt }

  pub branch : (b : Bool) (m l : Reader B) → (b ≡ true → Gives Q m) → (b ≡ false → Gives Q l) → Gives Q (if b m l)
  unfolding if
  branch true m l g h = g refl
  branch false m l g h = h refl

  pub needed : (o : Option B) (c p : ℕ) → Says Q o → Gives Q (need o c p)
  unfolding need
  needed None c p q = record { post = λ k s. tt }
  needed (Some a) c p q = record { post = λ k s. q }
