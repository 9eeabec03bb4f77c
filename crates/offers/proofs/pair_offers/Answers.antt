use borrow.Author.Rules.{rules}
use Rattle.offers.proofs.Offers.{from_zero, from_one, from_x, from_binary, from_rest}
use Rattle.stored.specs.Stored.{level_of}
use Rattle.offers.proofs.pair_offers.Goals as goal

pub returns-in-48 : goal.returns-in-48
unfolding level_of
returns-in-48 c = rw (c.in-48.is, c.level_offers-w.ensures) (from_zero (level_of c.args.c))

pub returns-in-49 : goal.returns-in-49
unfolding level_of
returns-in-49 c = rw (c.in-49.is, c.level_offers-w.ensures) (from_one (level_of c.args.c))

pub returns-in-120 : goal.returns-in-120
unfolding level_of
returns-in-120 c = rw (c.in-120.is, c.level_offers-w.ensures) (from_x (level_of c.args.c))

pub returns-in-98 : goal.returns-in-98
unfolding level_of
returns-in-98 c = rw (c.in-98.is, c.level_offers-w.ensures) (from_binary (level_of c.args.c))

pub returns-in_default : goal.returns-in_default
returns-in_default c = from_rest _ _ _ c.level_offers-w.ensures (search rules) (search rules) (search rules) (search rules)
