-- Reading one primitive: document 01, "Reading one primitive" and "Numbers of the refusals", 1 to 9.
use Rattle.std.specs.Prelude.{◌≡◌, List, [], ◌∷◌, cond, not, ℕ, leb, length, drop}
use Rattle.base.specs.Limits.{row_limit, text_limit}
use Rattle.base.specs.Search.{every, some}
use Rattle.value.specs.Value.{rank_of, value_of, same_value}
use Rattle.symbol.specs.Match.{match_level, match_edge, match_held, match_change, is_edge, offered, meet, possible}
use Rattle.stored.specs.Stored.{output_byte}
use Rattle.table.specs.Table.{Table}
use Rattle.text.specs.Bytes.{bytes}
use Rattle.text.specs.Reader.{Result, got, refused, Reader, ◌>>=◌, ◌>>◌, give, skip, keyword, name, basics}
use Rattle.formed.specs.Tests.{same_output, levels_meet, columns_meet, contradict}
use Rattle.grammar.specs.Header.{ports, port_list, input_list, constant, initial, declarations, declared}
use Rattle.grammar.specs.Rows.{saying, written, field, columns, state, row, agrees, rows}

unfoldable pub primitive : Reader Table
primitive = do
  keyword (bytes "primitive")
  w ← name
  h ← port_list
  d ← declared h
  l ← rows row_limit d.sequential (length h.inputs) []
  keyword (bytes "endprimitive")
  give (record { name = w.spelt; sequential = d.sequential; inputs = length h.inputs; start = d.start; rows = l })

-- a table with the place after `endprimitive`, "end", or a refusal's number and place
pub data Reading : Type 0 where
  table : Table → ℕ → Reading
  end : Reading
  refusal : ℕ → ℕ → Reading

abbrev pub outcome : Result Table → Reading
outcome (got t k s) = table t k
outcome (refused c p) = refusal c p

-- "end" where only blanks and comments remain
abbrev pub or_end : Result (Unit {0}) → Reading
or_end (got u k []) = end
or_end (got u k (b ∷ l)) = outcome (primitive k (b ∷ l))
or_end (refused c p) = refusal c p

unfoldable pub read : List ℕ → ℕ → Reading
read text start =
    cond (not (leb (length text) text_limit)) (refusal 1 text_limit)
    (cond (not (leb start (length text))) (refusal 3 (length text))
    (or_end (skip start (drop start text))))

-- some text, read from some place, gives the table
abbrev pub Readable : Table → Type 0
Readable t = (text : List ℕ) × (start : ℕ) × (next : ℕ) × (read text start ≡ table t next)

-- `unfolding readers` opens every reader, and what they ask of rows and symbols
unfoldable pub readers : Unit {0}
unfolding basics ports port_list input_list constant initial declarations declared saying written field columns state row rows primitive read agrees contradict same_output levels_meet columns_meet every some rank_of value_of same_value match_level match_edge match_held match_change is_edge offered meet possible output_byte
readers = tt
