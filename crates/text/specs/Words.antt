-- Words and names.
use Rattle.std.specs.Prelude.{List, [], ◌∷◌, Bool, true, false, not, ◌&&◌, ◌||◌, ℕ, eqb, leb, length}
use Rattle.base.specs.Limits.{name_limit}
use Rattle.text.specs.Bytes.{bytes, starts, in_name}

-- equal lists of bytes
abbrev pub same : List ℕ → List ℕ → Bool
same [] [] = true
same [] (y ∷ m) = false
same (x ∷ l) [] = false
same (x ∷ l) (y ∷ m) = eqb x y && same l m

-- a word in a list of words
abbrev pub member : List ℕ → List (List ℕ) → Bool
member w [] = false
member w (v ∷ l) = same w v || member w l

-- the words that are no names
abbrev pub keywords : List (List ℕ)
keywords =
    bytes "primitive" ∷ bytes "output" ∷ bytes "input" ∷ bytes "reg" ∷ bytes "initial" ∷ bytes "table" ∷ bytes "endtable" ∷ bytes "endprimitive" ∷ []

abbrev pub all_in_name : List ℕ → Bool
all_in_name [] = true
all_in_name (b ∷ w) = in_name b && all_in_name w

-- a name starts with a letter or `_`, goes on with letters, digits, `_` or `$`, and is none of the words
unfoldable pub is_name : List ℕ → Bool
is_name [] = false
is_name (b ∷ w) = starts b && all_in_name w && not (member (b ∷ w) keywords)

-- a name that is not too long
unfoldable pub name_fits : List ℕ → Bool
name_fits w = is_name w && leb (length w) name_limit
