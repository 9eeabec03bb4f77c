use mathlib.Core.List.{[], ◌∷◌, ◌++◌}
use lib.ListN.{get_or}
use Rattle.files.specs.Files.{LF}
use Rattle.base.proofs.Patched.{Patched}
use Rattle.handed.specs.Handed.{handed}
use Rattle.entry.specs.Entry.{entry}
use Rattle.entry.specs.Draft.{draft}
use Rattle.book.proofs.write_line.Given as goal

-- so many bytes of the line stand in the book
abbrev pub invariant-loop-k : goal.invariant-loop-k
invariant-loop-k l = Patched (λ m. get_or (entry l.at (draft (handed l.verdict)) ++ (LF ∷ [])) m 0) l.at l.initial.book l.book l.k
