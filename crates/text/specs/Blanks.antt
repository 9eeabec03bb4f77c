-- Blanks and comments: `//` to the LF or the text's end, and `/* */`.
use Rattle.std.specs.Prelude.{List, [], ◌∷◌, Bool, false, cond, ◌&&◌, ℕ, suc, ◌+◌, eqb, drop, Option, None, Some, is_none}
use Prim.Native.Char.{code}
use Rattle.text.specs.Bytes.{is, is_blank}

-- a text begins with a byte that has the property; with the byte c; with the bytes c and d
abbrev pub begins : (ℕ → Bool) → List ℕ → Bool
begins p [] = false
begins p (b ∷ l) = p b

abbrev pub one : ℕ → List ℕ → Bool
one c [] = false
one c (b ∷ l) = eqb b c

abbrev pub two : ℕ → ℕ → List ℕ → Bool
two c d [] = false
two c d (b ∷ l) = eqb b c && one d l

-- how many bytes stand before the LF
abbrev pub to_line : List ℕ → ℕ
to_line [] = 0
to_line (b ∷ l) = cond (is b "\n") 0 (suc (to_line l))

-- how many bytes there are up to and with `*/`
abbrev pub more : Option ℕ → Option ℕ
more None = None
more (Some m) = Some (suc m)

abbrev pub to_close : List ℕ → Option ℕ
to_close [] = None
to_close (b ∷ l) = cond (two (code "*") (code "/") (b ∷ l)) (Some 2) (more (to_close l))

abbrev pub closed : Option ℕ → ℕ
closed None = 0
closed (Some m) = 2 + m

-- the length of the blank or the comment that a text begins with: 0 where it begins with neither, or with a comment without end
abbrev pub gap : List ℕ → ℕ
gap [] = 0
gap (b ∷ l) =
    cond (is_blank b) 1
    (cond (two (code "/") (code "/") (b ∷ l)) (2 + to_line (drop 1 l))
    (cond (two (code "/") (code "*") (b ∷ l)) (closed (to_close (drop 1 l))) 0))

-- a text that begins with a comment without end
abbrev pub endless : List ℕ → Bool
endless s = two (code "/") (code "*") s && is_none (to_close (drop 2 s))
