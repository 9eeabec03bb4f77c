-- A text for a table, from which reading gives it back.
use Rattle.std.specs.Prelude.{List, [], ◌∷◌, ◌++◌, Bool, true, false, ℕ, pred, ◌+◌, take}
use Prim.Native.Char.{code}
use Rattle.value.specs.declared.Ternary.{Ternary}
use Rattle.value.specs.Value.{byte_of}
use Rattle.symbol.specs.declared.Level.{Level}
use Rattle.symbol.specs.declared.Symbol.{Symbol}
use Rattle.symbol.specs.declared.Symbol.TheVariants.{Held, Edge, Rise, Fall, Positive, Negative, Every}
use Rattle.symbol.specs.declared.Output.{Output}
use Rattle.stored.specs.Stored.{level_byte, output_byte}
use Rattle.table.specs.Table.{Row, Table}
use Rattle.text.specs.Bytes.{bytes}

abbrev pub symbol_text : Symbol → List ℕ
symbol_text (Held l) = level_byte l ∷ []
symbol_text (Edge v w) = code "(" ∷ level_byte v ∷ level_byte w ∷ code ")" ∷ []
symbol_text Rise = bytes "r"
symbol_text Fall = bytes "f"
symbol_text Positive = bytes "p"
symbol_text Negative = bytes "n"
symbol_text Every = bytes "*"

abbrev pub columns_text : List Symbol → List ℕ
columns_text [] = bytes ":"
columns_text (s ∷ l) = symbol_text s ++ columns_text l

-- what stands behind the columns
abbrev pub end_text : Bool → Level → Output → List ℕ
end_text false y o = output_byte o ∷ bytes ";"
end_text true y o = level_byte y ∷ code ":" ∷ output_byte o ∷ bytes ";"

abbrev pub row_text : Bool → Row → List ℕ
row_text sequential r = columns_text r.symbols ++ end_text sequential r.state r.output

abbrev pub rows_text : Bool → List Row → List ℕ
rows_text sequential [] = bytes "endtable"
rows_text sequential (r ∷ l) = row_text sequential r ++ rows_text sequential l

-- the ports are q and the first n of a to i
abbrev pub letters : ℕ → List (List ℕ)
letters n = take n (bytes "a" ∷ bytes "b" ∷ bytes "c" ∷ bytes "d" ∷ bytes "e" ∷ bytes "f" ∷ bytes "g" ∷ bytes "h" ∷ bytes "i" ∷ [])

abbrev pub commas : ℕ → List ℕ
commas n = take (pred (n + n)) (bytes "a,b,c,d,e,f,g,h,i")

abbrev pub ports_text : ℕ → List ℕ
ports_text n = bytes "(q," ++ (commas n ++ bytes ");")

abbrev pub declared_text : ℕ → List ℕ
declared_text n = bytes "output q;input " ++ (commas n ++ bytes ";")

abbrev pub kind_text : Bool → Ternary → List ℕ
kind_text false v = bytes "table"
kind_text true v = bytes "reg q;initial q=1'b" ++ (byte_of v ∷ bytes ";table")

abbrev pub print : Table → List ℕ
print t =
    bytes "primitive " ++ (t.name ++ (ports_text t.inputs ++ (declared_text t.inputs ++ (kind_text t.sequential t.start
    ++ (code " " ∷ (rows_text t.sequential t.rows ++ bytes " endprimitive"))))))
