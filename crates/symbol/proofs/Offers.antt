-- What the sets of a symbol's offers tell. Assumes nothing.
use Prim.Native.Nat.{ℕ, suc, ◌%◌}
use mathlib.Core.Path.{◌≡◌, refl, sym, ap, ◌∙◌}
use mathlib.Core.Bool.{Bool, true, false, not, ◌&&◌}
use native.Mathlib.Omega.{arith}
use lib.Bits.{bit_and, and_self}
use lib.Dec.{eqb}
use borrow.Author.Tests.{eq-eqb}
use Rattle.value.specs.Value.{same_value, rank_of, value_of}
use Rattle.symbol.specs.declared.Level.TheVariants.{Zero, One, Unknown, Binary, Any}
use Rattle.symbol.specs.declared.Symbol.{Symbol}
use Rattle.symbol.specs.declared.Symbol.TheVariants.{Held, Edge, Rise, Fall, Positive, Negative, Every}
use Rattle.symbol.specs.Match.{match_level, match_held, match_change, is_edge, offered, meet, possible}
use Rattle.symbol.specs.Masks.{mask_from, mask_of, offers}
use Rattle.symbol.proofs.Masks.{mask_and, some_mask}

-- two symbols meet where their sets share an offer
pub meet_offers : (s u : Symbol) → meet s u ≡ not (eqb (bit_and (offers s) (offers u)) 0)
unfolding meet offers
meet_offers s u = some_mask (λ (c : ℕ). offered s c && offered u c) 12 ∙ ap (λ (m : ℕ). not (eqb m 0)) (sym (mask_and (offered s) (offered u) 12))

pub possible_offers : (s : Symbol) → possible s ≡ not (eqb (offers s) 0)
unfolding possible
possible_offers s = meet_offers s s ∙ ap (λ (m : ℕ). not (eqb m 0)) (and_self (offers s))

-- an edge is offered no value
no_value : (f : ℕ → Bool) (m : ℕ) → f 0 ≡ false → f 1 ≡ false → f 2 ≡ false → true ≡ eqb (mask_from f 0 (suc (suc (suc m))) % 8) 0
unfolding mask_from
no_value f m p q r = sym (eq-eqb (mask_from f 0 (suc (suc (suc m))) % 8) 0 (rw (p, q, r) (omega arith)))

pub edge_offers : (s : Symbol) → is_edge s ≡ eqb (offers s % 8) 0
unfolding is_edge offers mask_of mask_from offered match_held match_change match_level same_value rank_of value_of
edge_offers (Held Zero) = refl
edge_offers (Held One) = refl
edge_offers (Held Unknown) = refl
edge_offers (Held Binary) = refl
edge_offers (Held Any) = refl
edge_offers (Edge v w) = no_value (offered (Edge v w)) 9 refl refl refl
edge_offers Rise = no_value (offered Rise) 9 refl refl refl
edge_offers Fall = no_value (offered Fall) 9 refl refl refl
edge_offers Positive = no_value (offered Positive) 9 refl refl refl
edge_offers Negative = no_value (offered Negative) 9 refl refl refl
edge_offers Every = no_value (offered Every) 9 refl refl refl
