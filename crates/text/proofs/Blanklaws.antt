-- Blanks and comments at a place of a text. Assumes nothing.
use mathlib.Core.Path.{◌≡◌, refl, sym, subst, ◌∙◌}
use mathlib.Core.Bool.{Bool, true, false, not, cond, ◌&&◌, ◌||◌, false≢true, and-eq-true_iff}
use Rattle.std.specs.List.{prefix_len, starts_with}
use Rattle.std.proofs.lemmas.Bool.Decides.{nat_tests}
use Rattle.std.specs.Prelude.{Option, None, Some, nat_eq}
use mathlib.Core.List.{List, [], ◌∷◌}
use Prim.Native.Nat.{ℕ, zero, suc, pred, ◌+◌, ◌≤◌, ◌<◌}
use native.Mathlib.Omega.{arith}
use native.Mathlib.Numerals.{add-one}
use native.Mathlib.Nat.{zero-add, add-zero}
use lib.Dec.{eqb, eqb-suc-zero}
use lib.ListN.{length, get_or, drop, length-drop, drop_of_length-le}
use borrow.Author.Tests.{eqb-true, ne_eqb}
use lib.Seq.{drop-cons, drop-drop}
use Rattle.text.specs.Bytes.{is_blank, is}
use Rattle.text.specs.Blanks.{one, two, to_line, more, to_close, closed, gap}
use Rattle.text.specs.Reader.{Result, got, refused, pass, skip}
use mathlib.Core.Logic.{◌≢◌, ⊎_elim}
use Rattle.base.proofs.Bools.{lt_or_ge}

pub eqb_swap : (x y : ℕ) → eqb x y ≡ eqb y x
eqb_swap x y = grind (arith, nat_tests)

-- a text begins with two bytes
pub starts_two : (c d : ℕ) (s : List ℕ) → starts_with nat_eq s (c ∷ d ∷ []) ≡ two c d s
starts_two c d [] = refl
starts_two c d (b ∷ []) = rw (eqb_swap c b)
starts_two c d (b ∷ e ∷ l) = rw (eqb_swap c b, eqb_swap d e) (last (eqb b c) (eqb e d))
  where
    last : (x y : Bool) → (x && (y && true)) ≡ (x && y)
    last true true = refl
    last true false = refl
    last false y = refl

module _ (t : List ℕ) (i : ℕ) where
  pub one_cons : (c : ℕ) → i < length t → one c (drop i t) ≡ eqb (get_or t i 0) c
  one_cons c h = rw (drop-cons t i 0)

  pub close_cons : i < length t → to_close (drop i t) ≡ cond (two 42 47 (drop i t)) (Some 2) (more (to_close (drop (i + 1) t)))
  close_cons h = rw (add-one, drop-cons t i 0)

-- the bytes before the LF are the first that are none
pub line_is : (s : List ℕ) → prefix_len (λ b. not (eqb b 10)) s ≡ to_line s
line_is [] = refl
line_is (b ∷ l) = go (eqb b 10) (line_is l)
  where
    go : (c : Bool) → prefix_len (λ b. not (eqb b 10)) l ≡ to_line l → cond (not c) (1 + prefix_len (λ b. not (eqb b 10)) l) 0 ≡ cond c 0 (suc (to_line l))
    go true e = refl
    go false e = omega (arith, e)

-- so many bytes more
abbrev pub adds : ℕ → Option ℕ → Option ℕ
adds m None = None
adds m (Some e) = Some (m + e)

pub adds_zero : (o : Option ℕ) → adds 0 o ≡ o
adds_zero None = refl
adds_zero (Some e) = rw zero-add

pub adds_more : (m : ℕ) (o : Option ℕ) → adds m (more o) ≡ adds (m + 1) o
adds_more m None = refl
adds_more m (Some e) = let h : m + suc e ≡ m + 1 + e = omega arith in rw h

-- ---- gaps

pub line_le : (s : List ℕ) → to_line s ≤ length s
line_le [] = omega arith
line_le (b ∷ l) = go (is b "\n") (line_le l)
  where
    go : (c : Bool) → to_line l ≤ length l → cond c 0 (suc (to_line l)) ≤ suc (length l)
    go true h = omega arith
    go false h = omega arith

abbrev Within : Option ℕ → ℕ → Type 0
Within None n = Unit {0}
Within (Some m) n = m ≤ n

pub one_long : (c : ℕ) (s : List ℕ) → one c s ≡ true → 1 ≤ length s
one_long c [] e = absurd (false≢true e)
one_long c (b ∷ l) e = omega arith

pub two_long : (c d : ℕ) (s : List ℕ) → two c d s ≡ true → 2 ≤ length s
two_long c d [] e = absurd (false≢true e)
two_long c d (b ∷ l) e = omega (arith, one_long d l ((and-eq-true_iff (eqb b c) (one d l)).0 e).1)

pub close_le : (s : List ℕ) → Within (to_close s) (length s)
close_le [] = tt
close_le (b ∷ l) = go (two 42 47 (b ∷ l)) (λ e. two_long 42 47 (b ∷ l) e) (to_close l) (close_le l)
  where
    go : (c : Bool) → (c ≡ true → 2 ≤ suc (length l)) → (o : Option ℕ) → Within o (length l) → Within (cond c (Some 2) (more o)) (suc (length l))
    go true g o h = g refl
    go false g None h = tt
    go false g (Some m) h = omega arith

closed_le : (o : Option ℕ) (n : ℕ) → Within o n → closed o ≤ 2 + n
closed_le None n h = omega arith
closed_le (Some m) n h = omega arith

pub gap_le : (s : List ℕ) → gap s ≤ length s
gap_le [] = omega arith
gap_le (b ∷ l) =
    let r = drop 1 l in
    go (is_blank b) (two 47 47 (b ∷ l)) (two 47 42 (b ∷ l)) (λ e. omega (arith, line_le r, length-drop 1 l, two_long 47 47 (b ∷ l) e))
    (λ e. omega (arith, closed_le (to_close r) (length r) (close_le r), length-drop 1 l, two_long 47 42 (b ∷ l) e))
  where
    go : (x y z : Bool) → (y ≡ true → 2 + to_line (drop 1 l) ≤ suc (length l)) → (z ≡ true → closed (to_close (drop 1 l)) ≤ suc (length l))
        → cond x 1 (cond y (2 + to_line (drop 1 l)) (cond z (closed (to_close (drop 1 l))) 0)) ≤ suc (length l)
    go true y z f g = omega arith
    go false true z f g = f refl
    go false false true f g = g refl
    go false false false f g = omega arith

-- to go over so many bytes is to start behind them
pub pass_over : (m k : ℕ) (s : List ℕ) → m ≤ length s → pass m k s ≡ pass 0 (k + m) (drop m s)
pass_over zero k [] h = rw add-zero
pass_over zero k (b ∷ l) h = rw add-zero
pass_over (suc m) k [] h = absurd (omega arith)
pass_over (suc m) k (b ∷ l) h = let e : k + suc m ≡ suc k + m = omega arith in rw e (pass_over m (suc k) l (omega arith))

pub list_on : (b : ℕ) (l : List ℕ) (i m : ℕ) → gap (b ∷ l) ≡ suc m → skip i (b ∷ l) ≡ skip (i + suc m) (drop m l)
list_on b l i m f =
    let e : i + suc m ≡ suc i + m = omega arith in
    rw (f, eqb-suc-zero m, e) (pass_over m (suc i) l (omega (arith, gap_le (b ∷ l))))

module _ (t : List ℕ) (i : ℕ) (h : i < length t) where
  pub gap_cons : gap (drop i t) ≡ cond (is_blank (get_or t i 0)) 1
      (cond (two 47 47 (drop i t)) (2 + to_line (drop (i + 2) t)) (cond (two 47 42 (drop i t)) (closed (to_close (drop (i + 2) t))) 0))
  gap_cons = let e : i + 2 ≡ suc i + 1 = omega arith in rw (e, ← drop-drop 1 (suc i) t, drop-cons t i 0)

  pub skip_on : (g : ℕ) → gap (drop i t) ≡ g → g ≢ 0 → skip i (drop i t) ≡ skip (i + g) (drop (i + g) t)
  skip_on zero e ne = absurd (ne refl)
  skip_on (suc m) e ne =
      let f : i + suc m ≡ suc i + m = omega arith in
      rw (drop-cons t i 0, list_on (get_or t i 0) (drop (suc i) t) i m (rw (drop-cons t i 0) at e), f, drop-drop)

gap_nil : (t : List ℕ) (i : ℕ) → length t ≤ i → gap (drop i t) ≡ 0
gap_nil t i h = rw (drop_of_length-le t h)

pub close_some : (s : List ℕ) (m : ℕ) → to_close s ≡ Some m → m ≤ length s
close_some s m e = rw e at (close_le s)

-- past a blank or a comment
pub skip_past : (t : List ℕ) (i g : ℕ) → gap (drop i t) ≡ g → g ≢ 0 → skip i (drop i t) ≡ skip (i + g) (drop (i + g) t)
skip_past t i g e n =
    ⊎_elim
    (λ (h : i < length t). skip_on t i h g e n)
    (λ (h : length t ≤ i). absurd (n (sym e ∙ gap_nil t i h)))
    (lt_or_ge i (length t))

module _ (t : List ℕ) (i : ℕ) where
  -- where a byte stands there is a place behind it
  pub one_room : (c : ℕ) (b : Bool) → b ≡ one c (drop i t) → b ≡ true → i < length t
  one_room c b e h = omega (arith, one_long c (drop i t) (sym e ∙ h), length-drop i t)

  -- a byte that is a blank is passed
  pub blank_on : (c : ℕ) → is_blank c ≡ true → one c (drop i t) ≡ true → skip i (drop i t) ≡ skip (i + 1) (drop (i + 1) t)
  blank_on c e o =
      let h : i < length t = omega (arith, one_long c (drop i t) o, length-drop i t) in
      let b : get_or t i 0 ≡ c = eqb-true _ _ (sym (one_cons t i c h) ∙ o) in
      skip_on t i h 1 (gap_cons t i h ∙ rw (b, e)) (λ z. omega arith)

  -- above the space only `/` begins a gap
  pub plain_stop : i < length t → 32 < get_or t i 0 → (get_or t i 0 ≡ 47 → ⊥) → skip i (drop i t) ≡ got tt i (drop i t)
  plain_stop h g n =
      let b = get_or t i 0 in
      let blank : is_blank b ≡ false = grind (arith, nat_tests, g) in
      rw (drop-cons t i 0 h, blank, ne_eqb b 47 n)

  -- a space or an LF is passed
  pub one_on : (o p : Bool) → o ≡ one 32 (drop i t) → p ≡ one 10 (drop i t) → (o || p) ≡ true → skip i (drop i t) ≡ skip (i + 1) (drop (i + 1) t)
  one_on true p e f h = blank_on 32 refl (sym e)
  one_on false p e f h = blank_on 10 refl (sym f ∙ h)

-- behind blanks there are none to skip
abbrev Still : Result (Unit {0}) → Type 0
Still (got a k s) = skip k s ≡ got tt k s
Still (refused c p) = Unit {0}

pass_still : (m k : ℕ) (s : List ℕ) → Still (pass m k s)
pass_still m k [] = refl
pass_still zero k (b ∷ l) = go (eqb (gap (b ∷ l)) 0) refl (pass_still (pred (gap (b ∷ l))) (suc k) l)
  where
    go : (c : Bool) → eqb (gap (b ∷ l)) 0 ≡ c → Still (pass (pred (gap (b ∷ l))) (suc k) l)
        → Still (cond c (got tt k (b ∷ l)) (pass (pred (gap (b ∷ l))) (suc k) l))
    go true e h = rw e
    go false e h = h
pass_still (suc m) k (b ∷ l) = pass_still m (suc k) l

pub skip_still : (k r : ℕ) (s u : List ℕ) → skip k s ≡ got tt r u → skip r u ≡ got tt r u
skip_still k r s u e = subst Still e (pass_still 0 k s)
