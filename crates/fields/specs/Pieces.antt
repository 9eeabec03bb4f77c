-- What the code's answers on a row's fields mean.
use Rattle.std.specs.Prelude.{Bool, not, Option, None, Some}
use Rattle.symbol.specs.declared.Symbol.{Symbol}
use Rattle.text.specs.Bytes.{is}
use Rattle.text.specs.Reader.{Reader, ◌>>=◌, ◌>>◌, here, skip, ahead, check}
use Rattle.grammar.specs.Rows.{Written, symbol, dash, column_of, field}

-- what is written is a symbol, or `-`
abbrev pub written_as : Option Symbol → Written
written_as (Some s) = symbol s
written_as None = dash

-- one column: a colon there is 7
unfoldable pub column : Bool → Reader Symbol
column edge = do
  skip
  p ← here
  few ← ahead (λ b. is b ":")
  check (not few) 7 p
  field (column_of edge)
