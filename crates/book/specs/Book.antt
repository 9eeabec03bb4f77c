-- What opening, append and fetch answer, and the bytes that an append leaves.
use Rattle.std.specs.Prelude.{Result, Ok, Err, cond, List, [], ◌∷◌, ◌++◌, ℕ, suc, ◌+◌, ◌-◌, min, max, eqb, leb, ltb, length, take, drop}
use Rattle.base.specs.Limits.{book_limit}
use Rattle.files.specs.Parts.{split, after_mark, part_at}
use Rattle.files.specs.Files.{LF}
use Rattle.entry.specs.Entry.{entry}
use Rattle.handed.specs.Handed.{Handed, verdict_of, fits_layout}
use Rattle.line.specs.Told.{Told, told_by, is_entry}
use Rattle.refusal.specs.declared.Fault.{Fault}
use Rattle.refusal.specs.declared.Fault.TheVariants.{Book, Layout, NoRoom, NoEntry}
use Rattle.refusal.specs.declared.Refusal.{Refusal}
use Rattle.book.specs.declared.Good.{Good}
use Rattle.book.specs.declared.Entry.{Entry}

-- the smaller of a buffer's length and the book's limit
abbrev pub limit_of : List ℕ → ℕ
limit_of book = min (length book) book_limit

abbrev pub fault_at : Fault → ℕ → Refusal
fault_at f p = record { fault = f; place = p }

-- ---- opening

-- k entries end at place s, then the lines come, then the torn bytes: the first line that is no entry is refused
abbrev pub opened_from : ℕ → ℕ → List (List ℕ) → List ℕ → Result Good Refusal
opened_from s k [] torn = Ok (record { entries = k; good = s; torn = length torn })
opened_from s k (b ∷ bs) torn = cond (is_entry s b) (opened_from (s + suc (length b)) (suc k) bs torn) (Err (fault_at Book s))

-- a file: what follows the last LF is torn, and the rest must be whole entries
unfoldable pub opened_file : List ℕ → Result Good Refusal
opened_file f = opened_from 0 0 (split LF f).0 (split LF f).1

unfoldable pub opened : List ℕ → ℕ → Result Good Refusal
opened book stated = cond (ltb (limit_of book) stated) (Err (fault_at Book (limit_of book))) (opened_file (take stated book))

abbrev pub on_opened : {A : Type 0} → Result Good Refusal → (Good → A) → (Refusal → A) → A
on_opened (Ok g) found refused = found g
on_opened (Err r) found refused = refused r

-- ---- append

-- an append's answer, and the bytes of the book after it
pub record Outcome : Type 0 where
  pub answer : Result ℕ Refusal
  pub bytes : List ℕ

abbrev pub outcome : Result ℕ Refusal → List ℕ → Outcome
outcome a b = record { answer = a; bytes = b }

-- the book with n bytes put at place s
abbrev pub with_bytes : List ℕ → ℕ → ℕ → List ℕ → List ℕ
with_bytes book s n line = take s book ++ (line ++ drop (s + n) book)

abbrev pub line_of : ℕ → Handed → List ℕ
line_of s h = entry s (verdict_of h) ++ (LF ∷ [])

-- the line is written at place s; the stated length stays where torn bytes reach further
abbrev pub written : List ℕ → ℕ → ℕ → List ℕ → Outcome
written book stated s line = record { answer = Ok (max stated (s + length line)); bytes = with_bytes book s (length line) line }

-- a refused append leaves the book
abbrev pub refusal : List ℕ → Refusal → Outcome
refusal book r = record { answer = Err r; bytes = book }

-- an append at the good length s
unfoldable pub appended_at : List ℕ → ℕ → ℕ → Handed → Outcome
appended_at book stated s h =
    cond (fits_layout h)
    (cond (leb (s + length (line_of s h)) (limit_of book)) (written book stated s (line_of s h)) (refusal book (fault_at NoRoom s)))
    (refusal book (fault_at Layout 0))

unfoldable pub appended : List ℕ → ℕ → Handed → Outcome
appended book stated h = on_opened (opened book stated) (λ g. appended_at book stated g.good h) (refusal book)

-- ---- fetch

-- what a line that starts at place a tells
abbrev pub entry_at : ℕ → Told → Entry
entry_at a t = record { name_at = a; name_length = t.name_length; inputs = t.inputs; rows = t.rows; finding = t.finding }

-- entry k, counted from 0
unfoldable pub entry_of : List ℕ → ℕ → Entry
entry_of book k = entry_at (after_mark LF k book) (told_by (part_at LF k book))

unfoldable pub fetched : List ℕ → ℕ → ℕ → Result Entry Refusal
fetched book stated k =
    on_opened (opened book stated)
    (λ g. cond (eqb k 0) (Err (fault_at NoEntry 0)) (cond (ltb g.entries k) (Err (fault_at NoEntry 0)) (Ok (entry_of book (k - 1)))))
    Err
