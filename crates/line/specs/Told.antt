-- What the fields of a line tell, each at the place that the layout has for it; and when the line is an entry.
use Rattle.std.specs.Prelude.{unwrap_or, Bool, cond, ◌&&◌, List, map, ℕ, ◌+◌, ◌-◌, ◌*◌, eqb, length, get_or, take}
use Prim.Native.Char.{code}
use Rattle.base.specs.Limits.{input_limit}
use Rattle.base.specs.Search.{every}
use Rattle.value.specs.Value.{read_byte}
use Rattle.value.specs.declared.Ternary.{Ternary}
use Rattle.value.specs.declared.Ternary.TheVariants.{V0}
use Rattle.verdict.specs.Numbers.{number_from}
use Rattle.verdict.specs.declared.Witness.{Witness}
use Rattle.verdict.specs.declared.Finding.{Finding}
use Rattle.verdict.specs.declared.Finding.TheVariants.{Independent, Dependent}
use Rattle.files.specs.Parts.{part_at}
use Rattle.entry.specs.Entry.{space, entry}
use Rattle.handed.specs.Handed.{Handed, verdict_of, fits_layout}

-- the value that a byte says; any other byte counts as 0
unfoldable pub value_in : ℕ → Ternary
value_in b = unwrap_or (read_byte b) V0

-- the number that one or two digits say
unfoldable pub number_in : List ℕ → ℕ
number_in f = cond (eqb (length f) 1) (get_or f 0 0 - 48) ((get_or f 0 0 - 48) * 10 + (get_or f 1 0 - 48))

abbrev pub field_in : ℕ → List ℕ → List ℕ
field_in m l = part_at space m l

-- byte k of field m
abbrev pub byte_in : ℕ → ℕ → List ℕ → ℕ
byte_in m k l = get_or (field_in m l) k 0

unfoldable pub witness_in : List ℕ → Witness
witness_in l = record {
  first = byte_in 7 0 l - 48;
  second = byte_in 7 1 l - 48;
  previous = number_from 0 (map value_in (take input_limit (field_in 4 l)));
  first_now = value_in (byte_in 5 (byte_in 7 0 l - 48 - 1) l);
  second_now = value_in (byte_in 5 (byte_in 7 1 l - 48 - 1) l);
  old = value_in (byte_in 6 0 l);
  first_output = value_in (byte_in 8 0 l);
  second_output = value_in (byte_in 10 0 l);
}

abbrev pub finding_in : List ℕ → Finding
finding_in l = cond (eqb (byte_in 3 0 l) (code "I")) Independent (Dependent (witness_in l))

-- the fields of a line; its name is the line's first bytes
pub record Told : Type 0 where
  pub name_length : ℕ
  pub inputs : ℕ
  pub rows : ℕ
  pub finding : Finding

unfoldable pub told_by : List ℕ → Told
told_by l = record { name_length = length (field_in 0 l); inputs = number_in (field_in 1 l); rows = number_in (field_in 2 l); finding = finding_in l }

-- what is told, with the name's bytes
abbrev pub hand_of : Told → List ℕ → Handed
hand_of t l = record { name = take t.name_length l; inputs = t.inputs; rows = t.rows; finding = t.finding }

unfoldable pub handed_by : List ℕ → Handed
handed_by l = hand_of (told_by l) l

-- equal bytes
abbrev pub same_bytes : List ℕ → List ℕ → Bool
same_bytes l m = eqb (length l) (length m) && every (length l) (λ k. eqb (get_or l k 0) (get_or m k 0))

-- a line at place s is an entry where the verdict that it tells fits and has just this entry there
unfoldable pub is_entry : ℕ → List ℕ → Bool
is_entry s l = fits_layout (handed_by l) && same_bytes l (entry s (verdict_of (handed_by l)))
