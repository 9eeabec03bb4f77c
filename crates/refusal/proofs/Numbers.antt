-- A number is that of one fault alone. Assumes nothing.
use mathlib.Core.Path.{◌≡◌, refl, sym, ap, ◌∙◌}
use Rattle.std.specs.Prelude.{ℕ, cond, eqb}
use Rattle.refusal.specs.declared.Fault.{Fault}
use Rattle.refusal.specs.declared.Fault.TheVariants.{LongText, OpenComment, Unexpected, LongName, Port, TooMany, Columns, Symbol, Contradiction, Area, Value, Order, Book, Layout, NoRoom, NoEntry}
use Rattle.refusal.specs.Refusal.{number_of}

-- the fault of a number
abbrev fault_of : ℕ → Fault
fault_of n =
    cond (eqb n 1) LongText
    (cond (eqb n 2) OpenComment
    (cond (eqb n 3) Unexpected
    (cond (eqb n 4) LongName
    (cond (eqb n 5) Port
    (cond (eqb n 6) TooMany
    (cond (eqb n 7) Columns
    (cond (eqb n 8) Symbol
    (cond (eqb n 9) Contradiction
    (cond (eqb n 10) Area
    (cond (eqb n 11) Value
    (cond (eqb n 12) Order
    (cond (eqb n 13) Book
    (cond (eqb n 14) Layout
    (cond (eqb n 15) NoRoom
    NoEntry))))))))))))))

fault_known : (f : Fault) → fault_of (number_of f) ≡ f
fault_known LongText = refl
fault_known OpenComment = refl
fault_known Unexpected = refl
fault_known LongName = refl
fault_known Port = refl
fault_known TooMany = refl
fault_known Columns = refl
fault_known Symbol = refl
fault_known Contradiction = refl
fault_known Area = refl
fault_known Value = refl
fault_known Order = refl
fault_known Book = refl
fault_known Layout = refl
fault_known NoRoom = refl
fault_known NoEntry = refl

pub number_once : (f g : Fault) → number_of f ≡ number_of g → f ≡ g
number_once f g e = sym (fault_known f) ∙ ap fault_of e ∙ fault_known g
