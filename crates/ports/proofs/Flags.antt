-- The ports not yet declared are those whose flag is down. Assumes nothing.
use mathlib.Core.Path.{◌≡◌, refl, sym, ap, ◌∙◌}
use mathlib.Core.List.{List, [], ◌∷◌, ◌++◌}
use mathlib.Core.Bool.{Bool, true, false, not, cond, ◌&&◌, ◌||◌}
use Rattle.std.specs.Prelude.{Option, None, Some, is_some, Err}
use Rattle.std.specs.Option.{ok_or}
use Prim.Native.Nat.{ℕ, zero, suc, ◌≤◌, ◌<◌}
use native.Mathlib.Omega.{arith}
use lib.ListN.{length, get_or, set, replicate}
use borrow.Author.Tests.{eq-eqb}
use Rattle.base.proofs.Bools.{clash}
use Rattle.text.specs.Words.{same, member}
use Rattle.text.specs.Blanks.{more}
use Rattle.text.proofs.Wordlaws.{same_eq}
use Rattle.grammar.specs.Header.{remove, none_left}
use Rattle.ports.specs.Names.{find, down, fresh, all_up, Distinct}

pub or-false : (a b : Bool) → (a || b) ≡ false → (a ≡ false) × (b ≡ false)
or-false true b e = clash e
or-false false b e = (refl, e)

-- a name that is no port is none of those with the flag down
down_none : (w : List ℕ) (ps : List (List ℕ)) (fs : List Bool) → member w ps ≡ false → member w (down ps fs) ≡ false
down_none w [] fs e = refl
down_none w (p ∷ ps) [] e = let h = or-false (same w p) (member w ps) e in rw h.0 (down_none w ps [] h.1)
down_none w (p ∷ ps) (true ∷ fs) e = down_none w ps fs (or-false (same w p) (member w ps) e).1
down_none w (p ∷ ps) (false ∷ fs) e = let h = or-false (same w p) (member w ps) e in rw h.0 (down_none w ps fs h.1)

abbrev is_down : Option ℕ → List Bool → Bool
is_down None fs = false
is_down (Some j) fs = not (get_or fs j false)

abbrev raise : Option ℕ → List Bool → List Bool
raise None fs = fs
raise (Some j) fs = set fs j true

down_more : (o : Option ℕ) (f : Bool) (fs : List Bool) → is_down o fs ≡ is_down (more o) (f ∷ fs)
down_more None f fs = refl
down_more (Some j) f fs = refl

raise_more : (o : Option ℕ) (f : Bool) (fs : List Bool) → raise (more o) (f ∷ fs) ≡ f ∷ raise o fs
raise_more None f fs = refl
raise_more (Some j) f fs = refl

down_member : (w : List ℕ) (ps : List (List ℕ)) (fs : List Bool) → Distinct ps → length ps ≤ length fs → member w (down ps fs) ≡ is_down (find w ps) fs
down_member w [] fs d n = refl
down_member w (p ∷ ps) [] d n = absurd (omega arith)
down_member w (p ∷ ps) (true ∷ fs) d n = go (same w p) (same_eq w p) (down_member w ps fs d.1 (omega arith))
  where
    go : (b : Bool) → (b ≡ true → w ≡ p) → member w (down ps fs) ≡ is_down (find w ps) fs
        → member w (down ps fs) ≡ is_down (cond b (Some 0) (more (find w ps))) (true ∷ fs)
    go true e ih = down_none w ps fs (rw (e refl) d.0)
    go false e ih = ih ∙ down_more (find w ps) true fs
down_member w (p ∷ ps) (false ∷ fs) d n = go (same w p) (down_member w ps fs d.1 (omega arith))
  where
    go : (b : Bool) → member w (down ps fs) ≡ is_down (find w ps) fs → (b || member w (down ps fs)) ≡ is_down (cond b (Some 0) (more (find w ps))) (false ∷ fs)
    go true ih = refl
    go false ih = ih ∙ down_more (find w ps) false fs

down_remove : (w : List ℕ) (ps : List (List ℕ)) (fs : List Bool) → is_down (find w ps) fs ≡ true → length ps ≤ length fs
    → remove w (down ps fs) ≡ down ps (raise (find w ps) fs)
down_remove w [] fs e n = refl
down_remove w (p ∷ ps) [] e n = absurd (omega arith)
down_remove w (p ∷ ps) (true ∷ fs) e n = go (same w p) e (λ x. down_remove w ps fs x (omega arith))
  where
    go : (b : Bool) → is_down (cond b (Some 0) (more (find w ps))) (true ∷ fs) ≡ true → (is_down (find w ps) fs ≡ true
        → remove w (down ps fs) ≡ down ps (raise (find w ps) fs)) →
        remove w (down ps fs) ≡ down (p ∷ ps) (raise (cond b (Some 0) (more (find w ps))) (true ∷ fs))
    go true x ih = clash (sym x)
    go false x ih = ih (down_more (find w ps) true fs ∙ x) ∙ rw (raise_more (find w ps) true fs)
down_remove w (p ∷ ps) (false ∷ fs) e n = go (same w p) e (λ x. down_remove w ps fs x (omega arith))
  where
    go : (b : Bool) → is_down (cond b (Some 0) (more (find w ps))) (false ∷ fs) ≡ true → (is_down (find w ps) fs ≡ true
        → remove w (down ps fs) ≡ down ps (raise (find w ps) fs)) →
        cond b (down ps fs) (p ∷ remove w (down ps fs)) ≡ down (p ∷ ps) (raise (cond b (Some 0) (more (find w ps))) (false ∷ fs))
    go true x ih = refl
    go false x ih = rw (raise_more (find w ps) false fs, ih (down_more (find w ps) false fs ∙ x))

-- no flag is up at first
pub down_fresh : (ps : List (List ℕ)) (m : ℕ) → down ps (replicate m false) ≡ ps
down_fresh [] m = refl
down_fresh (p ∷ ps) zero = rw (down_fresh ps 0)
down_fresh (p ∷ ps) (suc m) = rw (down_fresh ps m)

-- no port is left exactly where all flags are up
pub none_left_lem : (ps : List (List ℕ)) (fs : List Bool) → none_left (down ps fs) ≡ all_up (length ps) fs
none_left_lem [] fs = refl
none_left_lem (p ∷ ps) [] = refl
none_left_lem (p ∷ ps) (true ∷ fs) = none_left_lem ps fs
none_left_lem (p ∷ ps) (false ∷ fs) = refl

-- ---- a port by its place

member_some : (w : List ℕ) (ps : List (List ℕ)) → member w ps ≡ is_some (find w ps)
member_some w [] = refl
member_some w (p ∷ ps) = pick (same w p) (find w ps) (member_some w ps)
  where
    pick : (b : Bool) (o : Option ℕ) → member w ps ≡ is_some o → (b || member w ps) ≡ is_some (cond b (Some 0) (more o))
    pick true o ih = refl
    pick false None ih = ih
    pick false (Some k) ih = ih

-- a name is one of the ports where it has a place among them
pub member_find : (w : List ℕ) (ps : List (List ℕ)) (o : Option ℕ) → o ≡ find w ps → member w ps ≡ is_some o
member_find w ps o e = member_some w ps ∙ ap (λ (x : Option ℕ). is_some x) (sym e)

Within : Option ℕ → ℕ → Type 0
Within None n = Unit {0}
Within (Some j) n = j < n

-- that place lies among them
pub find_within : (w : List ℕ) (ps : List (List ℕ)) (j : ℕ) → find w ps ≡ Some j → j < length ps
unfolding Within
find_within w ps j e = rw e at (go ps)
  where
    step : (b : Bool) (o : Option ℕ) (n : ℕ) → Within o n → Within (cond b (Some 0) (more o)) (suc n)
    step true o n h = omega arith
    step false None n h = tt
    step false (Some k) n h = omega arith

    go : (l : List (List ℕ)) → Within (find w l) (length l)
    go [] = tt
    go (p ∷ l) = step (same w p) (find w l) (length l) (go l)

-- a fresh input has its place, and its flag is down
fresh_some : (o : Option ℕ) (fs : List Bool) (j : ℕ) → fresh o fs ≡ Some j → (o ≡ Some j) × (is_down o fs ≡ true)
fresh_some None fs j e = absurd (cc)
fresh_some (Some zero) fs j e = absurd (cc)
fresh_some (Some (suc m)) fs j e = go (get_or fs (suc m) false) refl e
  where
    go : (b : Bool) → get_or fs (suc m) false ≡ b → cond b None (Some (suc m)) ≡ Some j → (Some (suc m) ≡ Some j) × (not (get_or fs (suc m) false) ≡ true)
    go true f x = absurd (cc)
    go false f x = (x, rw f)

-- the grammar's test of a name in an `input` list
pub fresh_is : (w : List ℕ) (ps : List (List ℕ)) (fs : List Bool) → Distinct ps → length ps ≤ length fs
    → (not (same w (get_or ps 0 [])) && member w (down ps fs)) ≡ is_some (fresh (find w ps) fs)
fresh_is w [] fs d few = neither (not (same w []))
  where
    neither : (b : Bool) → (b && false) ≡ false
    neither true = refl
    neither false = refl
fresh_is w (q ∷ l) fs d few = rw (down_member w (q ∷ l) fs d few) (go (same w q) (find w l))
  where
    test : (b : Bool) (m : ℕ) → not b ≡ is_some (cond b None (Some (suc m)))
    test true m = refl
    test false m = refl

    go : (b : Bool) (o : Option ℕ) → (not b && is_down (cond b (Some 0) (more o)) fs) ≡ is_some (fresh (cond b (Some 0) (more o)) fs)
    go true o = refl
    go false None = refl
    go false (Some m) = test (get_or fs (suc m) false) m

-- a fresh input lies among the ports
pub fresh_within : (w : List ℕ) (ps : List (List ℕ)) (fs : List Bool) (j : ℕ) → fresh (find w ps) fs ≡ Some j → j < length ps
fresh_within w ps fs j e = find_within w ps j (fresh_some (find w ps) fs j e).0

pub fresh_raised : (w : List ℕ) (ps : List (List ℕ)) (fs : List Bool) (j : ℕ) → length ps ≤ length fs → fresh (find w ps) fs ≡ Some j
    → remove w (down ps fs) ≡ down ps (set fs j true)
fresh_raised w ps fs j few e =
    let h = fresh_some (find w ps) fs j e in
    down_remove w ps fs h.1 few ∙ rw h.0

same_self : (u : List ℕ) → same u u ≡ true
same_self [] = refl
same_self (x ∷ l) = rw (eq-eqb x x refl) (same_self l)

remove_none : (w : List ℕ) (l : List (List ℕ)) → member w l ≡ false → remove w l ≡ l
remove_none w [] e = refl
remove_none w (p ∷ l) e = let h = or-false (same w p) (member w l) e in rw (h.0, remove_none w l h.1)

-- the output's own flag
pub output_left : (q : List ℕ) (l : List (List ℕ)) (fs : List Bool) → member q l ≡ false → 1 ≤ length fs → member q (down (q ∷ l) fs) ≡ not (get_or fs 0 false)
output_left q l [] e n = absurd (omega arith)
output_left q l (true ∷ fs) e n = down_none q l fs e
output_left q l (false ∷ fs) e n = rw (same_self q)

pub output_raised : (q : List ℕ) (l : List (List ℕ)) (fs : List Bool) → member q l ≡ false → 1 ≤ length fs
    → remove q (down (q ∷ l) fs) ≡ down (q ∷ l) (set fs 0 true)
output_raised q l [] e n = absurd (omega arith)
output_raised q l (true ∷ fs) e n = remove_none q (down l fs) (down_none q l fs e)
output_raised q l (false ∷ fs) e n = rw (same_self q)

-- ---- one port more

same_sym : (v w : List ℕ) → same w v ≡ false → same v w ≡ false
same_sym v w e = go (same v w) (same_eq v w)
  where
    go : (b : Bool) → (b ≡ true → v ≡ w) → b ≡ false
    go false f = refl
    go true f = let h : same w w ≡ false = rw (f refl) at e in clash (sym (same_self w) ∙ h)

pub distinct_snoc : (w : List ℕ) (l : List (List ℕ)) → Distinct l → member w l ≡ false → Distinct (l ++ (w ∷ []))
distinct_snoc w [] d e = (refl, tt)
distinct_snoc w (p ∷ l) d e =
    let h = or-false (same w p) (member w l) e in
    (last l d.0, distinct_snoc w l d.1 h.1)
  where
    last : (m : List (List ℕ)) → member p m ≡ false → member p (m ++ (w ∷ [])) ≡ false
    last [] f = rw (same_sym p w (or-false (same w p) (member w l) e).0)
    last (v ∷ m) f = let g = or-false (same p v) (member p m) f in rw g.0 (last m g.1)

-- what `ok_or` refuses
pub stale : {E : Type 0} (o : Option ℕ) (x e : E) → Err e ≡ ok_or o x → (o ≡ None) × (e ≡ x)
stale None x e h = (refl, cc)
stale (Some k) x e h = absurd (cc)
