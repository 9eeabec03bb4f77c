-- The fields of a line, by number. Assumes nothing.
use mathlib.Core.Path.{◌≡◌, sym, ap, ◌∙◌}
use mathlib.Core.Bool.{Bool, true, false, cond}
use mathlib.Core.List.{List, [], ◌∷◌, ◌++◌, map, append_assoc}
use Prim.Native.Nat.{ℕ, suc, ◌+◌, ◌*◌, ◌/◌, ◌≤◌, ◌<◌}
use native.Mathlib.Omega.{arith}
use lib.ListN.{length, get_or, length-append, length-map}
use lib.Dec.{ltb}
use Rattle.std.specs.Prelude.{Some}
use Rattle.std.proofs.lemmas.List.{get_or-map}
use Rattle.base.specs.Listed.{listed}
use Rattle.base.proofs.Listed.{listed_length}
use Rattle.verdict.specs.declared.Witness.{Witness}
use Rattle.verdict.specs.declared.Finding.TheVariants.{Independent, Dependent}
use Rattle.orders.proofs.Candidates.{length_vector_of}
use Rattle.verdict.proofs.Meaning.{now_length}
use Rattle.value.specs.Value.{byte_of}
use Rattle.verdict.specs.Meaning.{before, now}
use Rattle.entry.specs.Entry.{space, digit_of, decimal, witness_fields, finding_fields, fields, trailer, entry}
use Rattle.files.specs.Files.{LF}
use Rattle.files.specs.Parts.{join}
use Rattle.verdict.specs.Verdict as words
use Prim.Native.Char.{code}
use Rattle.handed.specs.Handed.{Handed, fits_layout}
use Rattle.entry.specs.Draft.{order_at, drafted, draft, length_of}

-- ---- lengths of vectors and orders

pub previous_long : (n : ℕ) (w : Witness) → n ≡ length (map byte_of (before n w))
previous_long n w = sym (length-map (before n w) byte_of ∙ length_vector_of n w.previous)

pub now_long : (n : ℕ) (w : Witness) → n ≡ length (map byte_of (now n w))
now_long n w = sym (length-map (now n w) byte_of ∙ now_length n w)

pub order_long : (n : ℕ) (f : ℕ → ℕ) → n ≡ length (map digit_of (listed f n))
order_long n f = sym (length-map (listed f n) digit_of ∙ listed_length f n)

-- ---- where the lengths of all fields are listed

pub witness_lengths : (n : ℕ) (w : Witness) →
    1 ∷ n ∷ n ∷ 1 ∷ n ∷ 1 ∷ n ∷ 1 ∷ [] ≡ map length (witness_fields (drafted n w))
witness_lengths n w =
    rw (
      ← previous_long n w,
      ← now_long n w,
      ← order_long n (order_at w.first w.second w.first w.second),
      ← order_long n (order_at w.first w.second w.second w.first),
    )

module _ (fs : List (List ℕ)) (ls : List ℕ) (e : ls ≡ map length fs) where
  pub as_many : length ls ≡ length fs
  as_many = ap length e ∙ length-map fs length

  pub length_listed : (m : ℕ) → m < length ls → get_or ls m 0 ≡ length (get_or fs m [])
  length_listed m h = ap (λ l. get_or l m 0) e ∙ get_or-map length fs m [] 0 (omega (arith, h, as_many))

-- ---- the length of a line

pub decimal_few : (x : ℕ) → length (decimal x) ≤ 2
decimal_few x = go (ltb x 10)
  where
    go : (b : Bool) → length (cond b (digit_of x ∷ []) (digit_of (x / 10) ∷ digit_of x ∷ [])) ≤ 2
    go true = omega arith
    go false = omega arith

-- one field more: its bytes and a space
joined : (b : List ℕ) (bs : List (List ℕ)) → length (join space (b ∷ bs)) ≡ suc (length b + length (join space bs))
joined b bs = length-append b (space ∷ join space bs) ∙ omega arith

pub entry_length : (s : ℕ) (v : words.Verdict) →
    length (entry s v) ≡ length v.name + length (decimal v.inputs) + length (decimal v.rows) + length (join space (finding_fields v.finding)) + 9
unfolding entry
entry_length s v =
    length-append (join space (fields v)) (trailer s)
    ∙ omega (
      arith,
      joined v.name (decimal v.inputs ∷ decimal v.rows ∷ finding_fields v.finding),
      joined (decimal v.inputs) (decimal v.rows ∷ finding_fields v.finding),
      joined (decimal v.rows) (finding_fields v.finding),
    )

-- where the two vectors and the two orders have n places
pub witness_length : (n : ℕ) (w : words.Witness) → length w.prev ≡ n → length w.cur ≡ n → length w.order1 ≡ n → length w.order2 ≡ n →
    length (join space (witness_fields w)) ≡ 4 * n + 12
witness_length n w a b c d =
    let f8 : List (List ℕ) = (byte_of w.out2 ∷ []) ∷ [] in
    let f7 : List (List ℕ) = map digit_of w.order2 ∷ f8 in
    let f6 : List (List ℕ) = (byte_of w.out1 ∷ []) ∷ f7 in
    let f5 : List (List ℕ) = map digit_of w.order1 ∷ f6 in
    let f4 : List (List ℕ) = (byte_of w.old ∷ []) ∷ f5 in
    let f3 : List (List ℕ) = map byte_of w.cur ∷ f4 in
    let f2 : List (List ℕ) = map byte_of w.prev ∷ f3 in
    let l7 : length (join space f7) ≡ n + 3 = joined (map digit_of w.order2) f8 ∙ omega (arith, length-map w.order2 digit_of) in
    let l5 : length (join space f5) ≡ 2 * n + 6 = joined (map digit_of w.order1) f6 ∙ omega (arith, joined (byte_of w.out1 ∷ []) f7, length-map w.order1 digit_of) in
    let l3 : length (join space f3) ≡ 3 * n + 9 = joined (map byte_of w.cur) f4 ∙ omega (arith, joined (byte_of w.old ∷ []) f5, length-map w.cur byte_of) in
    let l2 : length (join space f2) ≡ 4 * n + 10 = joined (map byte_of w.prev) f3 ∙ omega (arith, length-map w.prev byte_of) in
    joined (code "D" ∷ []) f2 ∙ omega arith

pub draft_length : (n : ℕ) (w : Witness) → length (join space (witness_fields (drafted n w))) ≡ 4 * n + 12
draft_length n w =
    witness_length n (drafted n w) (length_vector_of n w.previous) (now_length n w)
    (listed_length (order_at w.first w.second w.first w.second) n)
    (listed_length (order_at w.first w.second w.second w.first) n)

-- what a verdict that fits takes
pub line_short : (h : Handed) (a b : ℕ) →
    fits_layout h ≡ true → a ≡ length (decimal h.inputs) → b ≡ length (decimal h.rows) → h.finding ≡ Independent →
    Some (length h.name + a + b + 12) ≡ length_of h
line_short h a b e p q f = rw (e, entry_length 0 (draft h), f, ← p, ← q) (ap Some (omega arith))

pub line_long : (h : Handed) (w : Witness) (a b : ℕ) →
    fits_layout h ≡ true → a ≡ length (decimal h.inputs) → b ≡ length (decimal h.rows) → h.finding ≡ Dependent w →
    Some (length h.name + a + b + 12 + 4 * h.inputs + 10) ≡ length_of h
line_long h w a b e p q f = rw (e, entry_length 0 (draft h), f, draft_length h.inputs w, ← p, ← q) (ap Some (omega arith))

-- the line is its fields, then the trailer with the LF
pub line_parts : (s : ℕ) (v : words.Verdict) → entry s v ++ (LF ∷ []) ≡ join space (fields v) ++ (trailer s ++ (LF ∷ []))
unfolding entry
line_parts s v = append_assoc (join space (fields v)) (trailer s) (LF ∷ [])
