-- Two steps one after the other, in all lanes at once. Three words that follow each other tell what a step gives for each old output.
use Rattle.std.specs.Prelude.{ℕ, ◌+◌, ◌/◌, ◌%◌, Bool, true, cond, ◌&&◌, List, [], eqb, get_or}
use Rattle.std.specs.Int.Bits.{bit_and, bit_or, bit_xor}
use Rattle.exchange.specs.Lanes.{steps_at}

abbrev pub word_at : List (List ℕ) → ℕ → ℕ → ℕ
word_at f p m = get_or (get_or f p []) m 0

-- the lanes in which the step that the words p tell, and then the steps from q on of h, give m
unfoldable pub path_of : List ℕ → List (List ℕ) → ℕ → ℕ → ℕ
path_of p h q m =
    bit_or (bit_and (get_or p 0 0) (word_at h q m)) (bit_or (bit_and (get_or p 1 0) (word_at h (q + 1) m)) (bit_and (get_or p 2 0) (word_at h (q + 2) m)))

-- the lanes in which two such ways differ: by step p of f and the steps from q on of h, and by step u of h and those from v on of f
unfoldable pub differ_of : List (List ℕ) → List (List ℕ) → ℕ → ℕ → ℕ → ℕ → ℕ
differ_of f h p q u v =
    bit_or
    (bit_xor (path_of (get_or f p []) h q 1) (path_of (get_or h u []) f v 1))
    (bit_xor (path_of (get_or f p []) h q 2) (path_of (get_or h u []) f v 2))

-- they agree in every lane for every old output
unfoldable pub agree_of : List (List ℕ) → List (List ℕ) → ℕ → ℕ → ℕ → ℕ → Bool
agree_of f h p q u v =
    eqb (bit_and (bit_or (differ_of f h p q u v) (bit_or (differ_of f h (p + 1) q (u + 1) v) (differ_of f h (p + 2) q (u + 2) v))) 134217727) 0

-- the two orders agree where the first column goes from a to x and the second from b to y
unfoldable pub agree_at : List (List ℕ) → List (List ℕ) → ℕ → ℕ → ℕ → ℕ → Bool
agree_at f h x y a b = cond (eqb b y) true (agree_of f h (steps_at x b a) (steps_at y x b) (steps_at y a b) (steps_at x y a))

-- whatever value the second comes from; k stands for x, y and a
unfoldable pub agree_in : List (List ℕ) → List (List ℕ) → ℕ → Bool
agree_in f h k =
    cond (eqb (k % 3) (k / 9)) true
    (agree_at f h (k / 9) (k / 3 % 3) (k % 3) 0 && (agree_at f h (k / 9) (k / 3 % 3) (k % 3) 1 && agree_at f h (k / 9) (k / 3 % 3) (k % 3) 2))
