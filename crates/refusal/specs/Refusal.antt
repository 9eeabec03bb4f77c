-- The faults by their numbers.
use Rattle.std.specs.Prelude.{ℕ}
use Rattle.refusal.specs.declared.Fault.{Fault}
use Rattle.refusal.specs.declared.Fault.TheVariants.{LongText, OpenComment, Unexpected, LongName, Port, TooMany, Columns, Symbol, Contradiction, Area, Value, Order, Book, Layout, NoRoom, NoEntry}

abbrev pub number_of : Fault → ℕ
number_of LongText = 1
number_of OpenComment = 2
number_of Unexpected = 3
number_of LongName = 4
number_of Port = 5
number_of TooMany = 6
number_of Columns = 7
number_of Symbol = 8
number_of Contradiction = 9
number_of Area = 10
number_of Value = 11
number_of Order = 12
number_of Book = 13
number_of Layout = 14
number_of NoRoom = 15
number_of NoEntry = 16
