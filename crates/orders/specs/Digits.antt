-- A vector's number, digit by digit.
use Rattle.std.specs.Prelude.{ℕ, zero, suc, ◌+◌, ◌*◌, ◌/◌, ◌%◌}

-- the digit at place m, counted from the right; and the number with that digit replaced by x
unfoldable pub digit_of : ℕ → ℕ → ℕ
digit_of v zero = v % 3
digit_of v (suc m) = digit_of (v / 3) m

unfoldable pub put_digit : ℕ → ℕ → ℕ → ℕ
put_digit x zero v = v / 3 * 3 + x
put_digit x (suc m) v = put_digit x m (v / 3) * 3 + v % 3
