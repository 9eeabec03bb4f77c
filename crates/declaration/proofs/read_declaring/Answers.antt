use Rattle.text.specs.Reader.{word}
use Rattle.text.proofs.Readlaws.{fault_is}
use Rattle.declaration.proofs.read_declaring.Goals as goal

pub returns-in-None : goal.returns-in-None
unfolding word
returns-in-None c = rw (c.word_end-end.ensures, ← c.part.ensures, c.in-None.ensures, c.fault_at.ensures, fault_is)
