-- Document 01's cases of the book, computed from the definitions. Assumes nothing.
use mathlib.Core.Path.{◌≡◌, refl}
use mathlib.Core.Bool.{true}
use mathlib.Core.List.{List, [], ◌∷◌}
use Prim.Native.Nat.{ℕ, ◌≤◌, min, max}
use native.Mathlib.Omega.{arith}
use native.Mathlib.Decide.{ℕ_discrete}
use lib.ListN.{length}
use Rattle.base.specs.Search.{every, first_from}
use Rattle.value.specs.Value.{rank_of, value_of, same_value, byte_of, read_byte}
use Rattle.value.specs.declared.Ternary.TheVariants.{V0, V1, Vx}
use Rattle.text.specs.Bytes.{bytes}
use Rattle.text.specs.Words.{is_name, name_fits}
use Rattle.orders.specs.Vectors.{vector_of}
use Rattle.verdict.specs.Numbers.{number_from}
use Rattle.verdict.specs.Meaning.{shown, meant}
use Rattle.verdict.specs.declared.Witness.{Witness}
use Rattle.verdict.specs.declared.Finding.TheVariants.{Independent, Dependent}
use Rattle.files.specs.Parts.{after_mark, next_mark, part_at}
use Rattle.files.specs.Files.{LF}
use Rattle.entry.specs.Entry.{entry}
use Rattle.handed.specs.Handed.{Handed, thirds, witness_fits, finding_fits, fits_layout}
use Rattle.line.specs.Told.{value_in, number_in, witness_in, told_by, handed_by, is_entry}
use Rattle.std.specs.Prelude.{Ok, Err}
use Rattle.refusal.specs.declared.Fault.TheVariants.{Book, NoRoom}
use Rattle.book.specs.Book.{fault_at, opened_file, opened, line_of, refusal, appended_at}

keep_witness : Witness
keep_witness = record { first = 1; second = 2; previous = 1; first_now = V1; second_now = V0; old = V0; first_output = V1; second_output = V0 }

pub keep : Handed
keep = record { name = bytes "keep"; inputs = 2; rows = 3; finding = Dependent keep_witness }

pub par : Handed
par = record { name = bytes "par"; inputs = 2; rows = 4; finding = Independent }

pub keep_line : line_of 0 keep ≡ bytes "keep 2 3 D 01 10 0 12 1 21 0 @00000\n"
unfolding keep keep_witness entry meant shown vector_of value_of byte_of ℕ_discrete
keep_line = refl

pub par_line : line_of 36 par ≡ bytes "par 2 4 I @00036\n"
unfolding par entry meant
par_line = refl

-- P14: a book with `keep` and 10 torn bytes
pub P14 : opened (bytes "keep 2 3 D 01 10 0 12 1 21 0 @00000\npar 2 4 I ") 46 ≡ Ok (record { entries = 1; good = 36; torn = 10 })
unfolding opened opened_file is_entry handed_by told_by witness_in number_in value_in read_byte fits_layout finding_fits witness_fits thirds name_fits is_name same_value rank_of value_of byte_of vector_of number_from meant shown entry every first_from after_mark next_mark part_at ℕ_discrete
P14 = refl

pub empty_book : opened [] 0 ≡ Ok (record { entries = 0; good = 0; torn = 0 })
unfolding opened opened_file
empty_book = refl

pub lf_alone : opened (LF ∷ []) 1 ≡ Err (fault_at Book 0)
unfolding opened opened_file is_entry handed_by told_by witness_in number_in value_in read_byte fits_layout name_fits is_name first_from after_mark next_mark part_at
lf_alone = refl

-- ---- `keep` at the end of the largest book: it fits at 65,500, and not at 65,501

keep_fits : fits_layout keep ≡ true
unfolding keep keep_witness fits_layout finding_fits witness_fits thirds name_fits is_name same_value rank_of vector_of value_of
keep_fits = refl

keep_long : (s : ℕ) → length (line_of s keep) ≡ 36
unfolding keep keep_witness entry meant shown vector_of value_of ℕ_discrete
keep_long s = refl

module _ (book : List ℕ) (stated : ℕ) (large : 65536 ≤ length book) where
  pub last_place : (appended_at book stated 65500 keep).answer ≡ Ok (max stated 65536)
  unfolding appended_at
  last_place =
      let most : min (length book) 65536 ≡ 65536 = omega arith in
      rw (keep_fits, keep_long 65500, most)

  pub one_past : appended_at book stated 65501 keep ≡ refusal book (fault_at NoRoom 65501)
  unfolding appended_at
  one_past =
      let most : min (length book) 65536 ≡ 65536 = omega arith in
      rw (keep_fits, keep_long 65501, most)

-- ---- an entry of 93 bytes

pub widest : Handed
widest = record {
  name = bytes "a23456789_123456789_123456789_12";
  inputs = 9;
  rows = 64;
  finding = Dependent (record { first = 3; second = 9; previous = 19681; first_now = V1; second_now = Vx; old = V1; first_output = Vx; second_output = V1 });
}

pub widest_fits : fits_layout widest ≡ true
unfolding widest fits_layout finding_fits witness_fits thirds name_fits is_name same_value rank_of vector_of value_of
widest_fits = refl

pub widest_long : length (line_of 0 widest) ≡ 93
unfolding widest entry meant shown vector_of value_of ℕ_discrete
widest_long = refl
