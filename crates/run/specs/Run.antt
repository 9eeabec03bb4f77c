-- How an entry is stored, and what a run leaves in the book.
use Rattle.std.specs.Prelude.{Option, None, Some, Result, Ok, Err, ℕ, ◌+◌, ◌<◌, ◌≤◌, ◌≡◌, ◌⊎◌, List, length}
use Rattle.grammar.specs.Reading.{end, read}
use Rattle.keeping.specs.Keeping.{Holds}
use Rattle.run.specs.declared.Turn.{Turn}
use Rattle.run.specs.declared.Stopped.{Stopped}

-- a part of an entry from a place up to another: the entry's last byte is stored alone
abbrev pub Apart : ℕ → ℕ → ℕ → Type 0
Apart from to e = (to < e) ⊎ (to ≡ from + 1)

-- one primitive more, and its entry is the only one more in the book; "done" at the text's end
abbrev pub Goes : List ℕ → Turn → List ℕ → Result (Option Turn) Stopped → List ℕ → Type 0
Goes text turn book (Ok (Some next)) left = Holds text next.start left next.at × (turn.start < next.start) × (next.start ≤ length text) × (next.entry ≡ turn.entry + 1)
Goes text turn book (Ok None) left = (read text turn.start ≡ end) × (left ≡ book)
Goes text turn book (Err stopped) left = Unit {0}

-- a run that is not stopped leaves one entry for each primitive, and no other
abbrev pub Runs : List ℕ → Result ℕ Stopped → List ℕ → Type 0
Runs text (Ok n) left = (at : ℕ) × Holds text at left n × (read text at ≡ end)
Runs text (Err stopped) left = Unit {0}
