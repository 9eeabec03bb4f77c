-- What the code's answers on the header and the declarations mean.
use Rattle.std.specs.Prelude.{ℕ, length}
use Rattle.text.specs.Reader.{Reader, ◌>>=◌, give}
use Rattle.grammar.specs.Header.{port_list, Declared, declared}
use Rattle.header.specs.declared.Head.{Head}

-- from `(` to `table`
unfoldable pub head : Reader Head
head = do
  h ← port_list
  d ← declared h
  give (record { inputs = length h.inputs; sequential = d.sequential; start = d.start })

abbrev pub head_with : ℕ → Declared → Reader Head
head_with n d = give (record { inputs = n; sequential = d.sequential; start = d.start })
