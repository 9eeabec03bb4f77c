-- Words and names at a place of a text. Assumes nothing.
use Rattle.std.proofs.Common.{◌≡◌, ℕ, suc, ◌+◌, ◌-◌, ◌≤◌, ◌<◌, eqb, leb, nat_eq, length, get_or, take, drop}
use Rattle.std.proofs.Common.{refl, sym, ap, ◌∙◌, subst, arith, drop-drop, add-zero}
use mathlib.Core.Bool.{Bool, true, false, cond, ◌&&◌, not}
use mathlib.Core.List.{List, [], ◌∷◌}
use Rattle.std.specs.Cmp.Lexicographic.{pointwise}
use Rattle.std.specs.List.{list_all, list_any, prefix_len}
use Rattle.std.proofs.lemmas.List.Sums.{prefix_len-le-length}
use Rattle.std.proofs.lemmas.Bool.Decides.{nat_tests}
use borrow.Author.Tests.{eqb-true}
use lib.ListN.{length-drop}
use lib.Seq.{take_all, get_or-take, get_or-drop, length-take-le}
use Rattle.base.proofs.Bools.{both, clash}
use Rattle.text.specs.Bytes.{starts, in_name}
use Rattle.text.specs.Reader.{Result, got, refused, run, with}
use Rattle.text.specs.Places.{part}
use Rattle.text.proofs.Blanklaws.{eqb_swap}
use Rattle.text.specs.Words.{same, member, keywords, all_in_name, is_name}

-- `==` of two slices is `same`
pub same_as : (v w : List ℕ) → pointwise nat_eq v w ≡ same v w
same_as [] [] = refl
same_as [] (y ∷ m) = refl
same_as (x ∷ l) [] = refl
same_as (x ∷ l) (y ∷ m) = rw (same_as l m)

same_swap : (v w : List ℕ) → same v w ≡ same w v
same_swap [] [] = refl
same_swap [] (y ∷ m) = refl
same_swap (x ∷ l) [] = refl
same_swap (x ∷ l) (y ∷ m) = rw (same_swap l m, eqb_swap x y)

-- equal words are one word
pub same_eq : (v w : List ℕ) → same v w ≡ true → v ≡ w
same_eq [] [] e = refl
same_eq [] (y ∷ m) e = clash (sym e)
same_eq (x ∷ l) [] e = clash (sym e)
same_eq (x ∷ l) (y ∷ m) e =
    let h = both (eqb x y) (same l m) e in
    let a = eqb-true x y h.0 in
    let b = same_eq l m h.1 in
    cc

-- what is left of a slice
pub rest_is : (n : ℕ) (s : List ℕ) → take (length s - n) (drop n s) ≡ drop n s
rest_is n s = take_all _ _ (omega (arith, length-drop n s))

-- a word is one of a list of words
pub member_is : (w : List ℕ) (ks : List (List ℕ)) → list_any (λ k. pointwise nat_eq k w) ks ≡ member w ks
member_is w [] = refl
member_is w (k ∷ ks) = rw (same_as k w, same_swap k w, member_is w ks)

-- ---- names

pub all_is : (s : List ℕ) → list_all in_name s ≡ all_in_name s
all_is [] = refl
all_is (b ∷ l) = rw (all_is l)

pub name_cons : (s : List ℕ) → 0 < length s → is_name s ≡ (starts (get_or s 0 0) && all_in_name (drop 1 s) && not (member s keywords))
unfolding is_name
name_cons [] h = absurd (omega arith)
name_cons (b ∷ l) h = refl

-- a name goes on behind its first byte
pub name_rest : (s : List ℕ) → 0 < length s
    → is_name s ≡ (starts (get_or s 0 0) && all_in_name (take (length s - 1) (drop 1 s)) && not (member s keywords))
name_rest s h = rw rest_is (name_cons s h)

pub name_nil : (s : List ℕ) → length s ≡ 0 → is_name s ≡ false
unfolding is_name
name_nil [] h = refl
name_nil (b ∷ l) h = absurd (omega arith)

-- a run of name bytes is a name by its first byte
pub name_run : (s : List ℕ) → 0 < length s → all_in_name s ≡ true
    → is_name s ≡ (starts (get_or s 0 0) && not (member s keywords))
unfolding is_name
name_run [] h e = absurd (omega arith)
name_run (b ∷ l) h e = rw (both (in_name b) (all_in_name l) e).1 (grind arith)

-- ---- the longest run of name bytes

run_is : (k : ℕ) (s : List ℕ) → run k s ≡ got (take (prefix_len in_name s) s) (k + prefix_len in_name s) (drop (prefix_len in_name s) s)
run_is k [] = rw add-zero
run_is k (b ∷ l) = go (in_name b) (run_is (suc k) l)
  where
    n : ℕ
    n = prefix_len in_name l

    go : (c : Bool) → run (suc k) l ≡ got (take n l) (suc k + n) (drop n l) →
        cond c (with b (run (suc k) l)) (got [] k (b ∷ l)) ≡ got (take (cond c (1 + n) 0) (b ∷ l)) (k + cond c (1 + n) 0) (drop (cond c (1 + n) 0) (b ∷ l))
    go true e = let h : 1 + n ≡ suc n = omega arith in let m : k + suc n ≡ suc k + n = omega arith in rw (e, h, m)
    go false e = rw add-zero

-- it is a part of the text
pub run_part : (t : List ℕ) (i n : ℕ) → n ≡ prefix_len in_name (drop i t) → run i (drop i t) ≡ got (part t i (i + n)) (i + n) (drop (i + n) t)
run_part t i n e =
    let h : i + n - i ≡ n = omega arith in
    rw (h, run_is i (drop i t), drop-drop, ← e)

-- all its bytes are name bytes
abbrev InName : Result (List ℕ) → Type 0
InName (got w k s) = all_in_name w ≡ true
InName (refused c p) = Unit {0}

run_all : (k : ℕ) (s : List ℕ) → InName (run k s)
run_all k [] = refl
run_all k (b ∷ l) = go (in_name b) refl (run (suc k) l) (run_all (suc k) l)
  where
    go : (c : Bool) → in_name b ≡ c → (r : Result (List ℕ)) → InName r → InName (cond c (with b r) (got [] k (b ∷ l)))
    go true e (got w j r) h = rw (e, h)
    go true e (refused c p) h = tt
    go false e r h = refl

pub run_in_name : (k : ℕ) (s w : List ℕ) (r : ℕ) (u : List ℕ) → run k s ≡ got w r u → all_in_name w ≡ true
run_in_name k s w r u e = subst InName e (run_all k s)

-- ---- what a word's place tells

-- bytes are name bytes where the run goes to their end
all_run : (s : List ℕ) → all_in_name s ≡ leb (length s) (prefix_len in_name s)
all_run [] = refl
all_run (b ∷ l) = go (in_name b) (all_run l)
  where
    go : (c : Bool) → all_in_name l ≡ leb (length l) (prefix_len in_name l)
        → (c && all_in_name l) ≡ leb (suc (length l)) (cond c (1 + prefix_len in_name l) 0)
    go true e = grind (arith, nat_tests, e)
    go false e = grind (arith, nat_tests)

abbrev place_of : Result (List ℕ) → ℕ
place_of (got w k s) = k
place_of (refused c p) = p

-- a word that ends at e
module _ (t : List ℕ) (i e : ℕ) (r : run i (drop i t) ≡ got (part t i e) e (drop e t)) where
  ends : e ≡ i + prefix_len in_name (drop i t)
  ends = sym (ap place_of r) ∙ ap place_of (run_is i (drop i t))

  pub word_in : i < e → i < length t
  word_in h = omega (arith, ends, prefix_len-le-length in_name (drop i t), length-drop i t)

  pub word_all : i ≤ length t → all_in_name (drop i t) ≡ leb (length t) e
  word_all h = all_run (drop i t) ∙ grind (arith, nat_tests, ends, length-drop i t, h)

  pub word_none : e ≤ i → is_name (part t i e) ≡ false
  word_none h = let n : e - i ≡ 0 = omega arith in rw n (name_nil [] refl)

  pub word_name : i < e → is_name (part t i e) ≡ (starts (get_or t i 0) && not (member (part t i e) keywords))
  word_name h =
      let n : e - i ≤ length (drop i t) = omega (arith, ends, prefix_len-le-length in_name (drop i t)) in
      let f = get_or-take (e - i) (drop i t) 0 0 (omega arith) ∙ get_or-drop i t 0 0 in
      name_run (part t i e) (omega (arith, length-take-le (e - i) (drop i t) n)) (run_in_name i (drop i t) _ e _ r)
      ∙ rw (f, add-zero)
