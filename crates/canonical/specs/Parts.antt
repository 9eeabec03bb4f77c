-- Parts of an area that the encoding fixes.
use Rattle.std.specs.Prelude.{ℕ, ◌+◌, Bool, List, eqb, get_or}
use Rattle.base.specs.Search.{every}
use Rattle.table.specs.Places.{row_place}
use Rattle.table.specs.Area.{area_byte, decode}

-- the byte at place p is the one that the encoding of the table has there
abbrev pub as_encoded : List ℕ → ℕ → Bool
as_encoded a p = eqb (get_or a p 0) (area_byte (decode a) p)

-- the first m bytes of row i are
abbrev pub row_as_encoded : List ℕ → ℕ → ℕ → Bool
row_as_encoded a i m = every m (λ (k : ℕ). as_encoded a (row_place i k))

-- m bytes from place p on are zero
abbrev pub zero_from : List ℕ → ℕ → ℕ → Bool
zero_from a p m = every m (λ (k : ℕ). eqb (get_or a (p + k) 0) 0)
