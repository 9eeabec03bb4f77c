use mathlib.Core.Path.{ap}
use Rattle.line.proofs.Lines.{told_of}
use Rattle.book.specs.Book.{entry_at}
use Rattle.book.proofs.entry_in.Goals as goal

-- `book::entry_in` meets its contract. Assumes nothing.

pub returns : goal.returns
returns c = ap (entry_at c.args.a) (told_of _ _ c.read_line-verdict.ensures)
