-- What the code's ports say.
use Rattle.std.specs.Prelude.{List, [], ℕ, get_or, drop, not}
use Rattle.text.specs.Words.{member}
use Rattle.text.specs.Reader.{Reader, ◌>>=◌, ◌>>◌, give, check, Named, name}
use Rattle.grammar.specs.Header.{ports as inputs, Ports as Heading}
use Rattle.ports.specs.Names.{names_of}
use Rattle.ports.specs.declared.Ports.{Ports}

-- the output, and the inputs behind it
abbrev pub all : Ports → List (List ℕ)
all p = names_of p.names p.inputs

abbrev pub output : Ports → List ℕ
output p = get_or (all p) 0 []

-- as the grammar's port list gives them
abbrev pub heading : Ports → Heading
heading p = record { output = output p; inputs = drop 1 (all p) }

-- a name that is none of the ports
unfoldable pub new_name : List (List ℕ) → Reader Named
new_name seen = do
  w ← name
  check (not (member w.spelt seen)) 5 w.place
  give w

-- the inputs up to and with `)`, behind the output q and the inputs `seen`, with room for so many more
abbrev pub ports_behind : ℕ → List ℕ → List (List ℕ) → Reader Heading
ports_behind room q seen = inputs room q seen >>= λ l. give (record { output = q; inputs = l })
