-- Bytes in parts, each followed by the byte c: the lines of a book and their LF, the fields of a line and their space.
use Rattle.std.specs.Prelude.{◌≢◌, cond, List, [], ◌∷◌, ◌++◌, ℕ, zero, suc, ◌-◌, length, get_or, take, drop, eqb}
use Rattle.base.specs.Search.{first_from}

-- no c anywhere: past the end get_or gives 0, which is no such byte
abbrev pub Without : ℕ → List ℕ → Type 0
Without c t = (k : ℕ) → get_or t k 0 ≢ c

abbrev pub join : ℕ → List (List ℕ) → List ℕ
join c [] = []
join c (b ∷ bs) = b ++ (c ∷ join c bs)

-- the parts, and what follows the last c
abbrev pub split_from : ℕ → List ℕ → List ℕ → List (List ℕ) × List ℕ
split_from c so_far [] = ([], so_far)
split_from c so_far (x ∷ l) =
    cond {A = List (List ℕ) × List ℕ} (eqb x c) (so_far ∷ (split_from c [] l).0, (split_from c [] l).1) (split_from c (so_far ++ (x ∷ [])) l)

abbrev pub split : ℕ → List ℕ → List (List ℕ) × List ℕ
split c l = split_from c [] l

-- the place after the k-th c, or the end where there are fewer
unfoldable pub after_mark : ℕ → ℕ → List ℕ → ℕ
after_mark c zero l = 0
after_mark c (suc k) [] = 0
after_mark c (suc k) (x ∷ l) = suc (cond (eqb x c) (after_mark c k l) (after_mark c (suc k) l))

-- the place of the first c from i on, or the end where there is none
unfoldable pub next_mark : ℕ → List ℕ → ℕ → ℕ
next_mark c l i = first_from (λ k. eqb (get_or l k 0) c) i (length l - i)

-- the bytes from place a up to place e
abbrev pub between : ℕ → ℕ → List ℕ → List ℕ
between a e l = take (e - a) (drop a l)

-- part k, counted from 0: what stands after k c's and before the next
unfoldable pub part_at : ℕ → ℕ → List ℕ → List ℕ
part_at c k l = between (after_mark c k l) (next_mark c l (after_mark c k l)) l
