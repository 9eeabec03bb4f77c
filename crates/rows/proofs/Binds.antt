-- Readers one after the other. Assumes nothing.
use mathlib.Core.Path.{◌≡◌, refl}
use mathlib.Core.List.{List}
use Prim.Native.Nat.{ℕ}
use native.Mathlib.Omega.{arith}
use Rattle.text.specs.Reader.{Result, got, refused, Reader, bind, ◌>>=◌}
use Rattle.rows.specs.Drawn.{drawn}

pub assoc : {A B C : Type 0} (m : Reader A) (f : A → Reader B) (g : B → Reader C) (k : ℕ) (s : List ℕ) → ((m >>= f) >>= g) k s ≡ (m >>= λ a. f a >>= g) k s
unfolding ◌>>=◌
assoc {A = A} m f g k s = go (m k s)
  where
    go : (r : Result A) → bind (bind r f) g ≡ bind r (λ a. f a >>= g)
    go (got a j z) = refl
    go (refused c p) = refl

pub under : {A B : Type 0} (m : Reader A) {f g : A → Reader B} → ((a : A) (k : ℕ) (s : List ℕ) → f a k s ≡ g a k s) → (k : ℕ) (s : List ℕ)
    → (m >>= f) k s ≡ (m >>= g) k s
unfolding ◌>>=◌
under {A = A} m {f} {g} h k s = go (m k s)
  where
    go : (r : Result A) → bind r f ≡ bind r g
    go (got a j z) = h a j z
    go (refused c p) = refl

-- what is drawn was read
pub drawn_got : {A B : Type 0} (f : A → B) (r : Result A) (b : B) (k : ℕ) (s : List ℕ) → drawn f r ≡ got b k s → (a : A) × (r ≡ got a k s) × (f a ≡ b)
drawn_got f (got a j z) b k s e = (a, cc, cc)
drawn_got f (refused c p) b k s e = absurd (let z : ◌≡◌ {A = ℕ} 0 1 = cc in omega arith)

pub drawn_refused : {A B : Type 0} (f : A → B) (r : Result A) (c p : ℕ) → drawn f r ≡ refused c p → r ≡ refused c p
drawn_refused f (got a j z) c p e = absurd (let z : ◌≡◌ {A = ℕ} 0 1 = cc in omega arith)
drawn_refused f (refused d q) c p e = cc
