use Rattle.std.proofs.Common.{◌≤◌}
use mathlib.Core.Path.{◌≡◌}
use Rattle.files.specs.Files.{LF}
use Rattle.files.specs.Parts.{next_mark}
use Rattle.book.specs.Book.{opened_file}
use Rattle.book.proofs.Opening.{from_here}
use Rattle.book.proofs.open_lines.Given as goal

-- the line that begins at `start` has not ended before `end`
abbrev pub invariant-loop-end : goal.invariant-loop-end
invariant-loop-end l =
    (l.start ≤ l.end) × (l.count ≤ l.start) × (next_mark LF l.file l.start ≡ next_mark LF l.file l.end)
    × (opened_file l.file ≡ from_here l.file l.start l.count)
