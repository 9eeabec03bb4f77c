-- What a program outside is told of a book's answers, and the verdict that it hands over as numbers.
use Rattle.std.specs.Prelude.{Option, None, Some, Result, Ok, Err, ℕ, ◌-◌, Bool, true, false, cond, ◌&&◌, List, eqb, ltb, get_or, set}
use Prim.Native.Char.{code}
use Rattle.base.specs.Listed.{listed}
use Rattle.value.specs.declared.Ternary.{Ternary}
use Rattle.value.specs.Value.{byte_of, read_byte}
use Rattle.table.specs.Area.{or_x}
use Rattle.verdict.specs.declared.Witness.{Witness}
use Rattle.verdict.specs.declared.Finding.{Finding}
use Rattle.verdict.specs.declared.Finding.TheVariants.{Independent, Dependent}
use Rattle.handed.specs.Handed.{Handed}
use Rattle.refusal.specs.declared.Refusal.{Refusal}
use Rattle.book.specs.declared.Good.{Good}
use Rattle.book.specs.declared.Entry.{Entry}

abbrev pub entries_in : Good → ℕ
entries_in g = g.entries

-- entries, good length and torn bytes; a refusal leaves what was there
unfoldable pub opened_cells : List ℕ → Result Good Refusal → List ℕ
opened_cells l (Ok g) = set (set (set l 0 g.entries) 1 g.good) 2 g.torn
opened_cells l (Err r) = l

-- ---- a verdict that is handed over as numbers

-- a number that a byte can hold, else 0, which is neither an input nor a value's byte
unfoldable pub small_of : ℕ → ℕ
small_of k = cond (ltb k 256) k 0

abbrev pub tells : Option Ternary → Bool
tells (Some v) = true
tells None = false

-- number k of a list is the byte of a value; and that value
unfoldable pub says_value : List ℕ → ℕ → Bool
says_value l k = tells (read_byte (small_of (get_or l k 0)))

unfoldable pub value_said : List ℕ → ℕ → Ternary
value_said l k = or_x (read_byte (small_of (get_or l k 0)))

-- the finding's letter is I, or it is D and the five values of the witness are values
unfoldable pub says_finding : ℕ → List ℕ → Bool
says_finding letter l =
    cond (eqb letter (code "I")) true
    (eqb letter (code "D") && (says_value l 3 && (says_value l 4 && (says_value l 5 && (says_value l 6 && says_value l 7)))))

unfoldable pub witness_from : List ℕ → Witness
witness_from l = record {
  first = small_of (get_or l 0 0);
  second = small_of (get_or l 1 0);
  previous = get_or l 2 0;
  first_now = value_said l 3;
  second_now = value_said l 4;
  old = value_said l 5;
  first_output = value_said l 6;
  second_output = value_said l 7;
}

unfoldable pub finding_from : ℕ → List ℕ → Finding
finding_from letter l = cond (eqb letter (code "I")) Independent (Dependent (witness_from l))

-- a finding that says nothing is handed on with no inputs, so that it does not fit
unfoldable pub handed : List ℕ → ℕ → ℕ → ℕ → List ℕ → Handed
handed name inputs rows letter l = record { name = name; inputs = cond (says_finding letter l) inputs 0; rows = rows; finding = finding_from letter l }

-- ---- a fetched entry as numbers

unfoldable pub letter_of : Finding → ℕ
letter_of Independent = code "I"
letter_of (Dependent w) = code "D"

-- number k of a finding's witness; an independent one has zeros
unfoldable pub witness_number : Finding → ℕ → ℕ
witness_number Independent k = 0
witness_number (Dependent w) k =
    cond (eqb k 0) w.first
    (cond (eqb k 1) w.second
    (cond (eqb k 2) w.previous
    (cond (eqb k 3) (byte_of w.first_now)
    (cond (eqb k 4) (byte_of w.second_now)
    (cond (eqb k 5) (byte_of w.old)
    (cond (eqb k 6) (byte_of w.first_output)
    (byte_of w.second_output)))))))

unfoldable pub entry_number : Entry → ℕ → ℕ
entry_number e k =
    cond (eqb k 0) e.name_at
    (cond (eqb k 1) e.name_length
    (cond (eqb k 2) e.inputs
    (cond (eqb k 3) e.rows
    (cond (eqb k 4) (letter_of e.finding)
    (witness_number e.finding (k - 5))))))

abbrev pub name_place : Entry → ℕ
name_place e = e.name_at

-- a refusal leaves what was there
unfoldable pub entry_cells : List ℕ → Result Entry Refusal → List ℕ
entry_cells l (Ok e) = listed (entry_number e) 13
entry_cells l (Err r) = l
