use mathlib.Core.Path.{◌≡◌, sym}
use Rattle.symbol.specs.Masks.{offers}
use Rattle.symbol.proofs.Offers.{possible_offers}
use Rattle.stored.proofs.Stores.{symbol_of_bytes}
use Rattle.offers.proofs.is_possible.Goals as goal

pub returns : goal.returns
returns c = let s = c.args.s in
    let p : c.offers_of.result ≡ offers s = rw (c.offers_of.ensures, c.symbol_byte.ensures, c.second_byte.ensures, symbol_of_bytes s) in
    rw p (sym (possible_offers s))
