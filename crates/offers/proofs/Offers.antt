-- What bytes may be offered. Assumes nothing.
use Prim.Native.Nat.{ℕ, ◌+◌, ◌*◌}
use Prim.Native.Char.{code}
use mathlib.Core.Path.{◌≡◌, refl}
use mathlib.Core.Logic.{◌≢◌}
use lib.Bits.{bit_and}
use lib.Dec.{eqb}
use borrow.Author.Tests.{ne_eqb}
use Rattle.value.specs.Value.{same_value, rank_of, value_of}
use Rattle.symbol.specs.declared.Level.{Level}
use Rattle.symbol.specs.declared.Level.TheVariants.{Zero, One, Unknown, Binary, Any}
use Rattle.symbol.specs.declared.Symbol.TheVariants.{Held, Edge}
use Rattle.symbol.specs.Match.{match_level, match_edge, match_held, match_change, offered}
use Rattle.symbol.specs.Masks.{mask_from, mask_of, offers}
use Rattle.stored.specs.Stored.{level_byte, level_of}

-- ? is offered each value
pub any_offers : (l : Level) → eqb (level_byte l) (code "?") ≡ eqb (offers (Held l)) 7
unfolding level_byte offers mask_of mask_from offered match_held match_change match_level same_value rank_of value_of
any_offers Zero = refl
any_offers One = refl
any_offers Unknown = refl
any_offers Binary = refl
any_offers Any = refl

-- the changes from each value
pub from_zero : (w : Level) → bit_and (offers (Held w)) 6 * 8 ≡ offers (Edge Zero w)
unfolding offers mask_of mask_from offered match_held match_change match_edge match_level same_value rank_of value_of
from_zero Zero = refl
from_zero One = refl
from_zero Unknown = refl
from_zero Binary = refl
from_zero Any = refl

pub from_one : (w : Level) → bit_and (offers (Held w)) 5 * 64 ≡ offers (Edge One w)
unfolding offers mask_of mask_from offered match_held match_change match_edge match_level same_value rank_of value_of
from_one Zero = refl
from_one One = refl
from_one Unknown = refl
from_one Binary = refl
from_one Any = refl

pub from_x : (w : Level) → bit_and (offers (Held w)) 3 * 512 ≡ offers (Edge Unknown w)
unfolding offers mask_of mask_from offered match_held match_change match_edge match_level same_value rank_of value_of
from_x Zero = refl
from_x One = refl
from_x Unknown = refl
from_x Binary = refl
from_x Any = refl

pub from_binary : (w : Level) → bit_and (offers (Held w)) 6 * 8 + bit_and (offers (Held w)) 5 * 64 ≡ offers (Edge Binary w)
unfolding offers mask_of mask_from offered match_held match_change match_edge match_level same_value rank_of value_of
from_binary Zero = refl
from_binary One = refl
from_binary Unknown = refl
from_binary Binary = refl
from_binary Any = refl

from_any : (w : Level) → bit_and (offers (Held w)) 6 * 8 + bit_and (offers (Held w)) 5 * 64 + bit_and (offers (Held w)) 3 * 512 ≡ offers (Edge Any w)
unfolding offers mask_of mask_from offered match_held match_change match_edge match_level same_value rank_of value_of
from_any Zero = refl
from_any One = refl
from_any Unknown = refl
from_any Binary = refl
from_any Any = refl

-- a byte that stands for no other level stands for ?
pub from_rest : (b x : ℕ) (w : Level) → x ≡ offers (Held w) → b ≢ code "0" → b ≢ code "1" → b ≢ code "x" → b ≢ code "b"
    → bit_and x 6 * 8 + bit_and x 5 * 64 + bit_and x 3 * 512 ≡ offers (Edge (level_of b) w)
unfolding level_of
from_rest b x w e zero one unknown binary =
    rw (e, ne_eqb b (code "0") zero, ne_eqb b (code "1") one, ne_eqb b (code "x") unknown, ne_eqb b (code "b") binary) (from_any w)
