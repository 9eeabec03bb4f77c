use Rattle.bankplover.proofs.bankplover_change_matches.Goals as goal

pub returns : goal.returns
returns c = rw (← c.symbol_of.ensures, ← c.value_in.ensures, ← c.value_in-2.ensures, ← c.change_matches.ensures)
