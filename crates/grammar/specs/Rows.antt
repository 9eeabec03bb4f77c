-- From `table` to `endtable`: symbols, columns, rows. Document 01, "Reading one primitive".
use Rattle.std.specs.Prelude.{List, [], ◌∷◌, ◌++◌, Bool, true, false, not, cond, ◌&&◌, ◌||◌, ℕ, zero, suc, length, get_or, Option, None, Some}
use Rattle.base.specs.Search.{every}
use Rattle.symbol.specs.declared.Level.{Level}
use Rattle.symbol.specs.declared.Level.TheVariants.{Zero, One, Unknown, Binary, Any}
use Rattle.symbol.specs.declared.Symbol.{Symbol}
use Rattle.symbol.specs.declared.Symbol.TheVariants.{Held, Edge, Rise, Fall, Positive, Negative, Every}
use Rattle.symbol.specs.declared.Output.{Output}
use Rattle.symbol.specs.declared.Output.TheVariants.{Out0, Out1, Outx, Old}
use Rattle.symbol.specs.Match.{is_edge, possible}
use Rattle.table.specs.Table.{Row, no_row}
use Rattle.text.specs.Bytes.{bytes, is, letter, is_symbol}
use Rattle.text.specs.Reader.{Reader, ◌>>=◌, ◌>>◌, give, if, check, need, here, skip, byte, said, ahead, sign, keyword}
use Rattle.formed.specs.Tests.{contradict}

-- ---- symbols as they are written, in small letters or capitals

-- what may stand in a column, or `-`
pub data Written : Type 0 where
  symbol : Symbol → Written
  dash : Written

-- what one byte says
abbrev pub written_of : ℕ → Option Written
written_of b =
    cond (is b "0") (Some (symbol (Held Zero)))
    (cond (is b "1") (Some (symbol (Held One)))
    (cond (letter b "x" "X") (Some (symbol (Held Unknown)))
    (cond (letter b "b" "B") (Some (symbol (Held Binary)))
    (cond (is b "?") (Some (symbol (Held Any)))
    (cond (letter b "r" "R") (Some (symbol Rise))
    (cond (letter b "f" "F") (Some (symbol Fall))
    (cond (letter b "p" "P") (Some (symbol Positive))
    (cond (letter b "n" "N") (Some (symbol Negative))
    (cond (is b "*") (Some (symbol Every))
    (cond (is b "-") (Some dash) None))))))))))

-- ---- what a symbol says in its field: nothing where it may not stand there

-- in a column, where `edge` tells whether an edge may stand: (00), (11) and (xx) match nothing
abbrev pub may_stand : Bool → Symbol → Bool
may_stand edge s = possible s && (edge || not (is_edge s))

abbrev pub column_of : Bool → Written → Option Symbol
column_of edge (symbol s) = cond (may_stand edge s) (Some s) None
column_of edge dash = None

abbrev pub level_in : Symbol → Option Level
level_in (Held l) = Some l
level_in (Edge v w) = None
level_in Rise = None
level_in Fall = None
level_in Positive = None
level_in Negative = None
level_in Every = None

-- as the state, and inside a pair
abbrev pub state_of : Written → Option Level
state_of (symbol s) = level_in s
state_of dash = None

abbrev pub level_out : Option Level → Option Output
level_out None = None
level_out (Some Zero) = Some Out0
level_out (Some One) = Some Out1
level_out (Some Unknown) = Some Outx
level_out (Some Binary) = None
level_out (Some Any) = None

-- as the output: `-` in a sequential table
abbrev pub output_said : Bool → Written → Option Output
output_said sequential (symbol s) = level_out (level_in s)
output_said false dash = None
output_said true dash = Some Old

-- ---- reading them

-- what stands behind blanks, and says something in its field: else 8
unfoldable pub saying : {A : Type 0} → (Written → Option A) → Reader Written → Reader A
saying f m = do
  skip
  p ← here
  w ← m
  need (f w) 8 p

-- a symbol: a pair whole, any other of one byte. A level inside a pair is of one byte, so a `(` there is 3
unfoldable pub written : Reader Written
written = do
  pair ← ahead (λ b. is b "(")
  if pair
      (do
        byte (λ b. is b "(")
        v ← saying state_of (said written_of)
        w ← saying state_of (said written_of)
        sign ")"
        give (symbol (Edge v w)))
      (said written_of)

unfoldable pub field : {A : Type 0} → (Written → Option A) → Reader A
field f = saying f written

-- ---- rows: `inputs : state : out ;` or `inputs : out ;`

-- the columns up to and with the colon, of which so many are wanted; a row holds at most one edge
unfoldable pub columns : ℕ → Bool → Reader (List Symbol)
columns zero edge = do
  skip
  p ← here
  extra ← ahead is_symbol
  check (not extra) 7 p
  sign ":"
  give []
columns (suc m) edge = do
  skip
  p ← here
  few ← ahead (λ b. is b ":")
  check (not few) 7 p
  s ← field (column_of edge)
  l ← columns m (edge && not (is_edge s))
  give (s ∷ l)

-- a combinational row's state counts as `?`
unfoldable pub state : Bool → Reader Level
state false = give Any
state true = do
  l ← field state_of
  sign ":"
  give l

unfoldable pub row : Bool → ℕ → Reader Row
row sequential n = do
  l ← columns n sequential
  y ← state sequential
  o ← field (output_said sequential)
  sign ";"
  give (record { symbols = l; state = y; output = o })

-- a row begins with a symbol or a colon
abbrev pub begins_row : ℕ → Bool
begins_row b = is_symbol b || is b ":"

abbrev pub no_rows : List Row → Bool
no_rows [] = true
no_rows (r ∷ l) = false

-- a row contradicts none of those before it
unfoldable pub agrees : ℕ → List Row → Row → Bool
agrees n before r = every (length before) (λ (i : ℕ). not (contradict n (get_or before i no_row) r))

-- rows up to and with `endtable`, behind the rows `before`, with room for so many more
unfoldable pub rows : ℕ → Bool → ℕ → List Row → Reader (List Row)
rows zero sequential n before = do
  skip
  p ← here
  more ← ahead begins_row
  check (not more) 6 p
  keyword (bytes "endtable")
  give before
rows (suc room) sequential n before = do
  skip
  p ← here
  more ← ahead begins_row
  if more
      (do
        r ← row sequential n
        check (agrees n before r) 9 p
        rows room sequential n (before ++ (r ∷ [])))
      (do
        keyword (bytes "endtable")
        check (not (no_rows before)) 3 p
        give before)
