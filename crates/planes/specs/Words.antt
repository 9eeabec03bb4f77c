-- A word as a set of numbers.
use Rattle.std.specs.Prelude.{ℕ, zero, suc, ◌/◌, ◌%◌, ◌<◌, ◌≡◌, Bool, List, eqb, get_or}

-- number k is in the set m
unfoldable pub bit : ℕ → ℕ → Bool
bit m zero = eqb (m % 2) 1
bit m (suc k) = bit (m / 2) k

-- the n words p tell, for each of 27 lanes, which number below n f has there
pub record Told (n : ℕ) (p : List ℕ) (f : ℕ → ℕ) : Type 0 where
  pub at : (m l : ℕ) → m < n → l < 27 → bit (get_or p m 0) l ≡ eqb (f l) m
