-- The limits of document 01, "Numbers": the one place where they stand. src/lib.rt has the same constants.
use Rattle.std.specs.Prelude.{ℕ}

-- a text's bytes
abbrev pub text_limit : ℕ
text_limit = 65536

-- a primitive's inputs
abbrev pub input_limit : ℕ
input_limit = 9

-- a table's rows
abbrev pub row_limit : ℕ
row_limit = 64

-- a name's bytes
abbrev pub name_limit : ℕ
name_limit = 32

-- a book's bytes
abbrev pub book_limit : ℕ
book_limit = 65536
