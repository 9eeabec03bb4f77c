-- No field of a verdict that fits holds a space, and no entry an LF; an entry's length. Assumes nothing.
use mathlib.Core.Path.{◌≡◌, sym, ◌∙◌}
use mathlib.Core.Logic.{⊎_elim}
use mathlib.Core.Bool.{Bool, true, false, cond, not, ◌&&◌}
use mathlib.Core.List.{List, [], ◌∷◌, ◌++◌, map}
use Prim.Native.Nat.{ℕ, zero, suc, ◌/◌, ◌≤◌, ◌<◌}
use Prim.Native.Char.{code}
use native.Mathlib.Omega.{arith}
use borrow.Author.Tests.{lt-leb, ne_eqb}
use lib.Dec.{ltb, leb}
use lib.ListN.{length}
use Rattle.base.proofs.Bools.{both, clash, lt_or_ge}
use Rattle.value.specs.Value.{byte_of}
use Rattle.value.specs.declared.Ternary.{Ternary}
use Rattle.value.specs.declared.Ternary.TheVariants.{V0, V1, Vx}
use Rattle.text.specs.Bytes.{starts, in_name}
use Rattle.text.specs.Words.{all_in_name, is_name, name_fits, member, keywords}
use Rattle.verdict.specs.Verdict as words
use Rattle.files.specs.Parts.{Without, join}
use Rattle.files.specs.Files.{LF}
use Rattle.files.proofs.Parts.{Clean, none, more}
use Rattle.entry.specs.Entry.{space, digit_of, decimal, finding_fields, fields, trailer, entry}

-- bytes of which none is below m
pub data From (m : ℕ) : List ℕ → Type 0 where
  empty : From m []
  and_one : (x : ℕ) {l : List ℕ} → m ≤ x → From m l → From m (x ∷ l)

from_append : {m : ℕ} {l : List ℕ} (r : List ℕ) → From m l → From m r → From m (l ++ r)
from_append r empty h = h
from_append r (and_one x p f) h = and_one x p (from_append r f h)

from_less : {m : ℕ} (k : ℕ) {l : List ℕ} → k ≤ m → From m l → From k l
from_less k h empty = empty
from_less k h (and_one x p f) = and_one x (omega arith) (from_less k h f)

from_without : {m : ℕ} (c : ℕ) {l : List ℕ} → 1 ≤ c → c < m → From m l → Without c l
from_without c a b empty k e = omega arith
from_without c a b (and_one x p f) zero e = omega arith
from_without c a b (and_one x p f) (suc k) e = from_without c a b f k e

from_map : {A : Type 0} (m : ℕ) (f : A → ℕ) (l : List A) → ((x : A) → m ≤ f x) → From m (map f l)
from_map m f [] h = empty
from_map m f (x ∷ l) h = and_one (f x) (h x) (from_map m f l h)

-- ---- names

name_byte : (b : ℕ) → in_name b ≡ true → 33 ≤ b
name_byte b h = ⊎_elim low (λ g. g) (lt_or_ge b 33)
  where
    low : b < 33 → 33 ≤ b
    low l =
        let z : in_name b ≡ false =
        rw (lt-leb 97 b (omega arith), lt-leb 65 b (omega arith), ne_eqb b 95 (λ e. omega arith), lt-leb 48 b (omega arith), ne_eqb b 36 (λ e. omega arith)) in
        clash (sym h ∙ z)

all_from : (w : List ℕ) → all_in_name w ≡ true → From 33 w
all_from [] h = empty
all_from (b ∷ w) h =
    let p = both (in_name b) (all_in_name w) h in
    and_one b (name_byte b p.0) (all_from w p.1)

start_in : (b : ℕ) → starts b ≡ true → in_name b ≡ true
start_in b h = rw h

is_from : (w : List ℕ) → is_name w ≡ true → From 33 w
unfolding is_name
is_from [] h = empty
is_from (b ∷ w) h =
    let p = both (starts b && all_in_name w) (not (member (b ∷ w) keywords)) h in
    let q = both (starts b) (all_in_name w) p.0 in
    and_one b (name_byte b (start_in b q.0)) (all_from w q.1)

pub name_from : (w : List ℕ) → name_fits w ≡ true → From 33 w
unfolding name_fits
name_from w h = is_from w (both (is_name w) (leb (length w) 32) h).0

-- ---- the other fields

value_from : (x : Ternary) → 33 ≤ byte_of x
unfolding byte_of
value_from V0 = omega arith
value_from V1 = omega arith
value_from Vx = omega arith

digit_from : (k : ℕ) → 33 ≤ digit_of k
digit_from k = omega arith

decimal_from : (k : ℕ) → From 33 (decimal k)
decimal_from k = go (ltb k 10)
  where
    go : (b : Bool) → From 33 (cond b (digit_of k ∷ []) (digit_of (k / 10) ∷ digit_of k ∷ []))
    go true = and_one (digit_of k) (digit_from k) empty
    go false = and_one (digit_of (k / 10)) (digit_from (k / 10)) (and_one (digit_of k) (digit_from k) empty)

pub data AllFrom (m : ℕ) : List (List ℕ) → Type 0 where
  no_more : AllFrom m []
  one_more : {b : List ℕ} {bs : List (List ℕ)} → From m b → AllFrom m bs → AllFrom m (b ∷ bs)

lone_from : (x : Ternary) → From 33 (byte_of x ∷ [])
lone_from x = and_one (byte_of x) (value_from x) empty

finding_from_lem : (f : words.Finding) → AllFrom 33 (finding_fields f)
finding_from_lem words.independent = one_more (and_one (code "I") (omega arith) empty) no_more
finding_from_lem (words.dependent w) =
    one_more (and_one (code "D") (omega arith) empty)
    (one_more (from_map 33 byte_of w.prev value_from)
    (one_more (from_map 33 byte_of w.cur value_from)
    (one_more (lone_from w.old)
    (one_more (from_map 33 digit_of w.order1 digit_from)
    (one_more (lone_from w.out1)
    (one_more (from_map 33 digit_of w.order2 digit_from) (one_more (lone_from w.out2) no_more)))))))

pub fields_from : (v : words.Verdict) → name_fits v.name ≡ true → AllFrom 33 (fields v)
fields_from v h = one_more (name_from v.name h) (one_more (decimal_from v.inputs) (one_more (decimal_from v.rows) (finding_from_lem v.finding)))

clean_of : {bs : List (List ℕ)} → AllFrom 33 bs → Clean space bs
clean_of no_more = none
clean_of (one_more f fs) = more (from_without space (omega arith) (omega arith) f) (clean_of fs)

-- no field holds a space
pub fields_clean : (v : words.Verdict) → name_fits v.name ≡ true → Clean space (fields v)
fields_clean v h = clean_of (fields_from v h)

join_from : {bs : List (List ℕ)} → AllFrom 33 bs → From 32 (join space bs)
join_from no_more = empty
join_from (one_more {b} {bs} f fs) = from_append (space ∷ join space bs) (from_less 32 (omega arith) f) (and_one space (omega arith) (join_from fs))

trailer_from : (s : ℕ) → From 32 (trailer s)
trailer_from s =
    and_one (code "@") (omega arith)
    (and_one (digit_of (s / 10000)) (omega arith)
    (and_one (digit_of (s / 1000)) (omega arith)
    (and_one (digit_of (s / 100)) (omega arith) (and_one (digit_of (s / 10)) (omega arith) (and_one (digit_of s) (omega arith) empty)))))

-- no entry holds an LF
pub entry_line : (s : ℕ) (v : words.Verdict) → name_fits v.name ≡ true → Without LF (entry s v)
unfolding entry
entry_line s v h = from_without LF (omega arith) (omega arith) (from_append (trailer s) (join_from (fields_from v h)) (trailer_from s))
