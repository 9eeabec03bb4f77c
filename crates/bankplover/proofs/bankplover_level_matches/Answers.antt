use Rattle.bankplover.proofs.bankplover_level_matches.Goals as goal

pub returns : goal.returns
returns c = rw (← c.level_of.ensures, ← c.value_in.ensures, ← c.level_matches.ensures)
