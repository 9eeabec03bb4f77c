use Rattle.bankplover.specs.Judges.{judged, unjudged}
use Rattle.bankplover.proofs.bankplover_judge.Goals as goal

pub returns-in-Ok : goal.returns-in-Ok
returns-in-Ok c = rw (c.from.ensures, c.letter_of.ensures, c.witness_numbers.ensures) (judged _ c.in-Ok.ensures.0 c.in-Ok.ensures.1)

pub returns-in-Err : goal.returns-in-Err
returns-in-Err c = let e = c.in-Err.ensures in rw (c.refuse.ensures.number, c.refuse.ensures.told, e.1) (unjudged e.0)
