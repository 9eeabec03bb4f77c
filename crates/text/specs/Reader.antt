-- Readers: what stands at a place is read, or refused. A reader gets the place and the bytes from there on.
use Rattle.std.specs.Prelude.{List, [], ◌∷◌, Bool, true, false, cond, ◌||◌, ℕ, zero, suc, pred, eqb, leb, length, Option, None, Some}
use Prim.Native.Char.{Char, code}
use Rattle.base.specs.Limits.{name_limit}
use Rattle.text.specs.Bytes.{in_name}
use Rattle.text.specs.Words.{same, is_name, name_fits}
use Rattle.text.specs.Blanks.{gap, endless}

-- a value, with the next place and the bytes behind it; or a refusal's number and place
pub data Result (A : Type 0) : Type 0 where
  got : A → ℕ → List ℕ → Result A
  refused : ℕ → ℕ → Result A

abbrev pub Reader : Type 0 → Type 0
Reader A = ℕ → List ℕ → Result A

abbrev pub bind : {A B : Type 0} → Result A → (A → Reader B) → Result B
bind (got a k s) f = f a k s
bind (refused c p) f = refused c p

infixl 20 ◌>>=◌
unfoldable pub ◌>>=◌ : {A B : Type 0} → Reader A → (A → Reader B) → Reader B
◌>>=◌ m f k s = bind (m k s) f

infixl 20 ◌>>◌
abbrev pub ◌>>◌ : {A B : Type 0} → Reader A → Reader B → Reader B
◌>>◌ m f = m >>= λ a. f

abbrev pub give : {A : Type 0} → A → Reader A
give a k s = got a k s

abbrev pub refuse : {A : Type 0} → ℕ → ℕ → Reader A
refuse c p k s = refused c p

-- what stands here is not expected: 2 for a comment without end, else 3
abbrev pub fault : {A : Type 0} → Reader A
fault k s = refused (cond (endless s) 2 3) k

unfoldable pub check : Bool → ℕ → ℕ → Reader (Unit {0})
check true c p = give tt
check false c p = refuse c p

unfoldable pub need : {A : Type 0} → Option A → ℕ → ℕ → Reader A
need None c p = refuse c p
need (Some a) c p = give a

unfoldable pub if : {A : Type 0} → Bool → Reader A → Reader A → Reader A
if true m l = m
if false m l = l

abbrev pub here : Reader ℕ
here k s = got k k s

-- over so many bytes, and then over blanks and comments
abbrev pub pass : ℕ → Reader (Unit {0})
pass m k [] = got tt k []
pass zero k (b ∷ l) = let r = pass (pred (gap (b ∷ l))) (suc k) l in cond (eqb (gap (b ∷ l)) 0) (got tt k (b ∷ l)) r
pass (suc m) k (b ∷ l) = pass m (suc k) l

abbrev pub skip : Reader (Unit {0})
skip = pass 0

-- one byte that has the property
abbrev pub byte : (ℕ → Bool) → Reader ℕ
byte p k [] = fault k []
byte p k (b ∷ l) = cond (p b) (got b (suc k) l) (fault k (b ∷ l))

-- one byte that says something
abbrev pub said_by : {A : Type 0} → Option A → ℕ → ℕ → List ℕ → Result A
said_by None k b l = fault k (b ∷ l)
said_by (Some a) k b l = got a (suc k) l

abbrev pub said : {A : Type 0} → (ℕ → Option A) → Reader A
said f k [] = fault k []
said f k (b ∷ l) = said_by (f b) k b l

-- does a byte with the property stand here?
abbrev pub ahead : (ℕ → Bool) → Reader Bool
ahead p k [] = got false k []
ahead p k (b ∷ l) = got (p b) k (b ∷ l)

-- the longest run of name bytes; and that run, where it has the property
abbrev pub with : ℕ → Result (List ℕ) → Result (List ℕ)
with b (got w k s) = got (b ∷ w) k s
with b (refused c p) = refused c p

abbrev pub run : Reader (List ℕ)
run k [] = got [] k []
run k (b ∷ l) = cond (in_name b) (with b (run (suc k) l)) (got [] k (b ∷ l))

unfoldable pub word : (List ℕ → Bool) → Reader (List ℕ)
word p k s = bind (run k s) (λ w. cond (p w) (give w) (λ j r. fault k s))

-- ---- behind blanks: a sign, one of two signs (is it the first?), a word, a name with its place

unfoldable pub mark : ℕ → Reader ℕ
mark c = skip >> byte (λ b. eqb b c)

abbrev pub sign : Char → Reader ℕ
sign c = mark (code c)

unfoldable pub either_mark : ℕ → ℕ → Reader Bool
either_mark c d = do
  skip
  b ← byte (λ b. eqb b c || eqb b d)
  give (eqb b c)

abbrev pub either : Char → Char → Reader Bool
either c d = either_mark (code c) (code d)

unfoldable pub keyword : List ℕ → Reader (List ℕ)
keyword w = skip >> word (λ v. same v w)

pub record Named : Type 0 where
  pub spelt : List ℕ
  pub place : ℕ

unfoldable pub name : Reader Named
name = do
  skip
  p ← here
  w ← word is_name
  check (leb (length w) name_limit) 4 p
  give (record { spelt = w; place = p })

-- `unfolding basics` opens all of the above
unfoldable pub basics : Unit {0}
unfolding ◌>>=◌ if check need word mark either_mark keyword name is_name name_fits
basics = tt
