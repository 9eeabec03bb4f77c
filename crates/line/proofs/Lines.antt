-- What the reading of a line finds. Assumes nothing.
use mathlib.Core.Path.{◌≡◌, refl, sym, ap, ◌∙◌}
use mathlib.Core.Logic.{⊎_elim}
use mathlib.Core.Bool.{Bool, true, false, ◌&&◌}
use mathlib.Core.List.{List, [], ◌∷◌, ◌++◌, map}
use Prim.Native.Nat.{ℕ, ◌+◌, ◌-◌, ◌*◌, ◌^◌, ◌≤◌, ◌<◌, min}
use native.Mathlib.Nat.{pow-le-pow_right}
use native.Mathlib.Numerals.{add-one}
use native.Mathlib.Omega.{arith}
use borrow.Author.Tests.{eq-eqb, ne_eqb}
use lib.Dec.{eqb, lit<}
use lib.ListN.{length, get_or, take, length-map, get_or-append}
use lib.Seq.{take-suc, take_all, length-take-le}
use Rattle.std.specs.Prelude.{Some, None}
use Rattle.std.proofs.lemmas.List.{map-append}
use Rattle.base.specs.Limits.{input_limit}
use Rattle.base.specs.Search.{every}
use Rattle.base.proofs.Search.{every_fails, every_same}
use Rattle.base.proofs.Bools.{lt_or_ge}
use Rattle.value.specs.Value.{rank_of}
use Rattle.value.specs.declared.Ternary.{Ternary}
use Rattle.verdict.specs.Numbers.{number_from}
use Rattle.verdict.proofs.Numbers.{number_snoc, number_below}
use Rattle.files.specs.Files.{LF}
use Rattle.files.specs.Parts.{after_mark, next_mark, part_at}
use Rattle.files.proofs.Parts.{part_order}
use Rattle.entry.specs.Entry.{space, entry}
use Rattle.handed.specs.Handed.{Handed, verdict_of, fits_layout}
use Rattle.entry.specs.Draft.{draft, length_of}
use Rattle.entry.proofs.Sizes.{unfit_of, fit_of, drafted_of, size_of}
use Rattle.line.specs.Told.{value_in, number_in, field_in, finding_in, told_by, handed_by, same_bytes, is_entry}

-- ---- the number of a vector, value by value

abbrev pub number_up_to : List ℕ → ℕ → ℕ
number_up_to f k = number_from 0 (map value_in (take k f))

pub number_none : (f : List ℕ) → 0 ≡ number_up_to f 0
unfolding number_from
number_none f = refl

pub number_more : (f : List ℕ) (k c : ℕ) (v : Ternary) (r : ℕ) →
    k < length f → c ≡ number_up_to f k → v ≡ value_in (get_or f k 0) → r ≡ rank_of v → c * 3 + r ≡ number_up_to f (k + 1)
number_more f k c v r h p u w =
    rw (
      add-one k,
      take-suc f k 0 h,
      map-append value_in (take k f) (get_or f k 0 ∷ []),
      number_snoc 0 (map value_in (take k f)) (value_in (get_or f k 0)),
      p,
      w,
      u,
    )

pub number_small : (f : List ℕ) (k : ℕ) → k ≤ input_limit → k ≤ length f → number_up_to f k < 3 ^ input_limit
number_small f k h g =
    let e : length (map value_in (take k f)) ≡ k = length-map (take k f) value_in ∙ length-take-le k f g in
    let p : 3 ^ k ≤ 3 ^ input_limit = pow-le-pow_right {n = 3} (lit< tt) {i = k} {j = input_limit} h in
    omega (arith, rw e at (number_below (map value_in (take k f))), p)

-- no more than nine values count
pub number_all : (f : List ℕ) (k c : ℕ) → min (length f) input_limit ≤ k → k ≤ input_limit
    → c ≡ number_up_to f k → c ≡ number_up_to f input_limit
number_all f k c h g e = e ∙ ap (λ (l : List ℕ). number_from 0 (map value_in l)) (⊎_elim part whole (lt_or_ge k (length f)))
  where
    part : k < length f → take k f ≡ take input_limit f
    part l =
        let q : k ≡ input_limit = omega arith in
        ap (λ (n : ℕ). take n f) q

    whole : length f ≤ k → take k f ≡ take input_limit f
    whole l = take_all k f l ∙ sym (take_all input_limit f (omega arith))

-- ---- whether a line has the bytes of a verdict's entry

module _ (l : List ℕ) (s : ℕ) (h : Handed) where
  pub unfit : None ≡ length_of h → fits_layout h && same_bytes l (entry s (verdict_of h)) ≡ false
  unfit z = rw (unfit_of h z)

  module _ (w : ℕ) (z : Some w ≡ length_of h) where
    fit : fits_layout h ≡ true
    fit = fit_of h w z

    long : length (entry s (verdict_of h)) ≡ w - 1
    long = omega (arith, size_of h w z s)

    pub other_length : (w - 1 ≡ length l → ⊥) → fits_layout h && same_bytes l (entry s (verdict_of h)) ≡ false
    other_length n = rw (fit, ne_eqb (length l) (length (entry s (verdict_of h))) (λ e. n (sym (e ∙ long))))

    module _ (n : w - 1 ≡ length l) where
      byte_here : (k b : ℕ) → k < length l → b ≡ get_or (entry s (draft h) ++ (LF ∷ [])) k 0 → b ≡ get_or (entry s (verdict_of h)) k 0
      byte_here k b g e =
          e
          ∙ ap (λ v. get_or (entry s v ++ (LF ∷ [])) k 0) (drafted_of h w z)
          ∙ get_or-append (entry s (verdict_of h)) (LF ∷ []) 0 k (omega (arith, long))

      -- where the lengths are equal, the bytes alone decide
      by_bytes : (fits_layout h && same_bytes l (entry s (verdict_of h)))
          ≡ every (length l) (λ m. eqb (get_or l m 0) (get_or (entry s (verdict_of h)) m 0))
      by_bytes = rw (fit, eq-eqb (length l) (length (entry s (verdict_of h))) (sym n ∙ sym long))

      pub same_byte : (k b : ℕ) → k < length l → b ≡ get_or (entry s (draft h) ++ (LF ∷ [])) k 0 → get_or l k 0 ≡ b
          → eqb (get_or l k 0) (get_or (entry s (verdict_of h)) k 0) ≡ true
      same_byte k b g e d = eq-eqb (get_or l k 0) (get_or (entry s (verdict_of h)) k 0) (d ∙ byte_here k b g e)

      pub other_byte : (k b : ℕ) → k < length l → b ≡ get_or (entry s (draft h) ++ (LF ∷ [])) k 0 → (get_or l k 0 ≡ b → ⊥)
          → fits_layout h && same_bytes l (entry s (verdict_of h)) ≡ false
      other_byte k b g e d = by_bytes ∙ every_fails _ (length l) k g (ne_eqb (get_or l k 0) _ (λ x. d (x ∙ sym (byte_here k b g e))))

      pub all_same : (k : ℕ) → length l ≤ k → k ≤ length l → every k (λ m. eqb (get_or l m 0) (get_or (entry s (verdict_of h)) m 0)) ≡ true
          → fits_layout h && same_bytes l (entry s (verdict_of h)) ≡ true
      all_same k g i e =
          let q : k ≡ length l = omega arith in
          by_bytes ∙ (rw q at e)

-- ---- whether a line is an entry

module _ (l : List ℕ) (s : ℕ) (h : Handed) (e : h ≡ handed_by l) where
  -- what was told is what the line tells
  entry_of : is_entry s l ≡ (fits_layout h && same_bytes l (entry s (verdict_of h)))
  unfolding is_entry
  entry_of = rw e

  pub no_entry_unfit : None ≡ length_of h → false ≡ is_entry s l
  no_entry_unfit z = sym (entry_of ∙ unfit l s h z)

  module _ (w : ℕ) (z : Some w ≡ length_of h) where
    pub no_entry_length : (w - 1 ≡ length l → ⊥) → false ≡ is_entry s l
    no_entry_length n = sym (entry_of ∙ other_length l s h w z n)

    -- the line is an entry where every byte is the entry's
    pub same_bytes_here : w - 1 ≡ length l
        → (r : Bool) → r ≡ every (length l) (λ k. eqb (get_or l k 0) (get_or (entry s (draft h) ++ (LF ∷ [])) k 0)) → r ≡ is_entry s l
    same_bytes_here n r q =
        q
        ∙ every_same _ _ (length l) (λ k g. ap (eqb (get_or l k 0)) (byte_here l s h w z n k _ g refl))
        ∙ sym (entry_of ∙ by_bytes l s h w z n)

-- ---- the verdict that a line tells

-- the first field is the line's first bytes
pub first_field : (l : List ℕ) → field_in 0 l ≡ take (length (field_in 0 l)) l
unfolding part_at after_mark
first_field l = sym (ap (λ (k : ℕ). take k l) (length-take-le (next_mark space l 0 - 0) l (omega (arith, (part_order space 0 l _ _ refl refl).1))))

pub told_back : (l : List ℕ) (h : Handed) →
    h.name ≡ field_in 0 l → h.inputs ≡ number_in (field_in 1 l) → h.rows ≡ number_in (field_in 2 l) → h.finding ≡ finding_in l →
    h ≡ handed_by l
unfolding handed_by told_by
told_back l h a b c d = rw (a, b, c, d, ← first_field l)

-- what a line tells, by the verdict that is read from it
pub told_of : (l : List ℕ) (h : Handed) → h ≡ handed_by l →
    record { name_length = length h.name; inputs = h.inputs; rows = h.rows; finding = h.finding } ≡ told_by l
unfolding handed_by told_by
told_of l h e = rw (e, ← first_field l)
