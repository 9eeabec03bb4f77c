-- The way back through a book: each trailer points to the place where its entry starts.
use Rattle.std.specs.Prelude.{Result, Ok, Err, cond, List, ℕ, ◌+◌, ◌-◌, ◌*◌, eqb, ltb, length, get_or}
use Rattle.files.specs.Parts.{between}
use Rattle.files.specs.Files.{LF}
use Rattle.line.specs.Told.{told_by, is_entry}
use Rattle.refusal.specs.declared.Fault.TheVariants.{Book, NoEntry}
use Rattle.refusal.specs.declared.Refusal.{Refusal}
use Rattle.book.specs.declared.Entry.{Entry}
use Rattle.book.specs.Book.{fault_at, entry_at}

-- the number that five digits say
abbrev pub number_said : ℕ → ℕ → ℕ → ℕ → ℕ → ℕ
number_said a b c d e = ((((a - 48) * 10 + (b - 48)) * 10 + (c - 48)) * 10 + (d - 48)) * 10 + (e - 48)

-- the byte k places before a place
abbrev pub back : List ℕ → ℕ → ℕ → ℕ
back f at k = get_or f (at - k) 0

-- the number in the five places before the LF that ends at place `at`
unfoldable pub pointed : List ℕ → ℕ → ℕ
pointed f at =
    cond (ltb at 6) 0
    (cond (ltb (length f) at) 0
    (number_said (back f at 6) (back f at 5) (back f at 4) (back f at 3) (back f at 2)))

-- where the entry that ends at place `at` starts; a trailer that points no way back counts as 0
unfoldable pub start_before : List ℕ → ℕ → ℕ
start_before f at = cond (ltb (pointed f at) at) (pointed f at) 0

-- the entry that ends at place `at`: refused where none can, and where what stands there is no entry
unfoldable pub fetched_before : List ℕ → ℕ → Result Entry Refusal
fetched_before f at =
    cond (eqb at 0) (Err (fault_at NoEntry 0))
    (cond (ltb (length f) at) (Err (fault_at NoEntry 0))
    (cond (eqb (get_or f (at - 1) 0) LF)
    (cond (is_entry (start_before f at) (between (start_before f at) (at - 1) f))
    (Ok (entry_at (start_before f at) (told_by (between (start_before f at) (at - 1) f))))
    (Err (fault_at Book (start_before f at))))
    (Err (fault_at Book (start_before f at)))))
