-- Bytes and their classes.
use Rattle.std.specs.Prelude.{◌≡◌, List, [], ◌∷◌, Bool, cond, ◌&&◌, ◌||◌, ℕ, ◌<◌, eqb, leb, get_or}
use Prim.Native.String.{String, [] as empty, ◌∷◌ as first}
use Prim.Native.Char.{Char, code}

-- quoted text as bytes
abbrev pub bytes : String → List ℕ
bytes empty = []
bytes (first c s) = code c ∷ bytes s

abbrev pub is : ℕ → Char → Bool
is b c = eqb b (code c)

abbrev pub among : ℕ → Char → Char → Bool
among b c d = leb (code c) b && leb b (code d)

-- a letter in either case
abbrev pub letter : ℕ → Char → Char → Bool
letter b c d = is b c || is b d

-- space, tab, CR, LF, form feed
abbrev pub is_blank : ℕ → Bool
is_blank b = is b " " || is b "\t" || is b "\r" || is b "\n" || eqb b 12

-- what a name starts with, and what it goes on with
abbrev pub starts : ℕ → Bool
starts b = among b "a" "z" || among b "A" "Z" || is b "_"

abbrev pub in_name : ℕ → Bool
in_name b = starts b || among b "0" "9" || is b "$"

-- what a table symbol begins with: 0 1 x b ? r f p n * - and the ( of a pair
abbrev pub is_symbol : ℕ → Bool
is_symbol b =
    is b "0" || is b "1" || letter b "x" "X" || letter b "b" "B" || is b "?"
    || letter b "r" "R" || letter b "f" "F" || letter b "p" "P" || letter b "n" "N" || is b "*" || is b "-" || is b "("

-- the class of a byte: the rule of the one table
pub data Class : Type 0 where
  onward plainLetter symbolLetter symbolDigit symbolSign blank other : Class

abbrev pub class_of : ℕ → Class
class_of b =
    cond (is_blank b) blank
    (cond (starts b) (cond (is_symbol b) symbolLetter plainLetter)
    (cond (in_name b) (cond (is_symbol b) symbolDigit onward)
    (cond (is_symbol b) symbolSign other)))

-- the number that the table has for a class, so ordered that each question about a byte is a range
abbrev pub num_of : Class → ℕ
num_of onward = 0
num_of plainLetter = 1
num_of symbolLetter = 2
num_of symbolDigit = 3
num_of symbolSign = 4
num_of blank = 5
num_of other = 6

-- a table that has, for each byte, the number of its class
abbrev pub Ruled : List ℕ → Type 0
Ruled classes = (b : ℕ) → b < 256 → get_or classes b 0 ≡ num_of (class_of b)
