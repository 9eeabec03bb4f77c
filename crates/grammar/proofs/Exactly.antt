-- A table is valid, and an area well formed, exactly when reading some text gives it; and the refusals that are given before a byte is read.
-- Assumes nothing.
use mathlib.Core.Path.{◌≡◌}
use mathlib.Core.Logic.{◌↔◌}
use mathlib.Core.List.{List}
use mathlib.Core.Bool.{true}
use Prim.Native.Nat.{ℕ, ◌≤◌, ◌<◌}
use borrow.Author.Tests.{lt-leb, le-leb}
use lib.ListN.{length}
use Rattle.base.specs.Limits.{text_limit}
use Rattle.table.specs.Table.{Table}
use Rattle.table.specs.Area.{encode}
use Rattle.formed.specs.Valid.{Valid}
use Rattle.formed.specs.Tests.{well_formed}
use Rattle.formed.proofs.Exact.{formed_iff}
use Rattle.grammar.specs.Reading.{read, refusal, Readable}
use Rattle.grammar.specs.Print.{print}
use Rattle.grammar.proofs.Gives.{read_valid}
use Rattle.grammar.proofs.Prints.{read_print}

pub well_formed_lem : (t : Table) → Valid t ↔ Readable t
well_formed_lem t = (λ v. (print t, 0, length (print t), read_print t v), λ r. read_valid r.0 r.1 r.2 t r.3)

-- a lent table is well formed exactly if reading some text could have given it
pub lent_formed : (a : List ℕ) → (well_formed a ≡ true) ↔ ((t : Table) × Readable t × (a ≡ encode t))
lent_formed a = (
  λ e. let w = (formed_iff a).0 e in (w.0, (well_formed_lem w.0).0 w.1, w.2),
  λ w. (formed_iff a).1 (w.0, (well_formed_lem w.0).1 w.1, w.2),
)

pub too_long : (text : List ℕ) (start : ℕ) → text_limit < length text → read text start ≡ refusal 1 text_limit
unfolding read
too_long text start h = rw (lt-leb (length text) text_limit h)

pub past_end : (text : List ℕ) (start : ℕ) → length text ≤ text_limit → length text < start → read text start ≡ refusal 3 (length text)
unfolding read
past_end text start h g = rw (le-leb (length text) text_limit h, lt-leb start (length text) g)
