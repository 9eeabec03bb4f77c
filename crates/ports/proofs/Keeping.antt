-- The names of the ports as the code keeps them. Assumes nothing.
use Rattle.std.proofs.Common.{◌≡◌, ℕ, zero, suc, ◌+◌, ◌≤◌, ◌<◌, Bool, true, false, not, cond, List, [], ◌∷◌, ◌++◌, map, length, get_or, take, drop, Bor, Option, Some, None, refl, ⊎_elim, arith, add-one, drop-cons}
use Rattle.std.specs.List.{position_or_len, list_all}
use lib.Dec.{ltb}
use lib.ListN.{set}
use lib.Seq.{take-suc-set}
use Rattle.std.proofs.lemmas.List.{length-map, length-take, map-append}
use borrow.Author.Tests.{lt-ltb, le-ltb}
use Rattle.base.proofs.Bools.{lt_or_ge}
use Rattle.text.specs.Words.{same}
use Rattle.text.specs.Blanks.{more}
use Rattle.ports.specs.Names.{names_of, find, all_up}

-- what `position` answers is the place of the first port of that name
pub found : (w : List ℕ) (ps : List (Bor (List ℕ)))
    → cond (ltb (position_or_len (λ p. same w p.now) ps) (length ps)) (Some (position_or_len (λ p. same w p.now) ps)) None ≡ find w (map (λ p. p.now) ps)
found w [] = refl
found w (p ∷ ps) = go (same w p.now) (position_or_len (λ p. same w p.now) ps) (length ps) (found w ps)
  where
    place : Option ℕ
    place = find w (map (λ p. p.now) ps)

    go : (b : Bool) (m n : ℕ) → cond (ltb m n) (Some m) None ≡ find w (map (λ p. p.now) ps)
        → cond (ltb (cond (not b) (1 + m) 0) (suc n)) (Some (cond (not b) (1 + m) 0)) None ≡ cond b (Some 0) (more (find w (map (λ p. p.now) ps)))
    go true m n e = rw (lt-ltb 0 (suc n) (omega arith))
    go false m n e = ⊎_elim (λ (h : m < n). let s : 1 + m ≡ suc m = omega arith in rw (lt-ltb (1 + m) (suc n) (omega arith), ← e, lt-ltb m n h, s))
        (λ (h : n ≤ m). rw (le-ltb (1 + m) (suc n) (omega arith), ← e, le-ltb m n h)) (lt_or_ge m n)

module _ (names : List (Bor (List ℕ))) where
  pub names_few : (n : ℕ) → length (names_of names n) ≤ n + 1
  names_few n = rw (length-map, length-take) (omega arith)

  pub names_length : (n : ℕ) → n < length names → length (names_of names n) ≡ n + 1
  names_length n h = rw (length-map, length-take) (omega arith)

  -- the output, and the inputs behind it
  pub names_cons : (n : ℕ) → n < length names → names_of names n ≡ get_or (names_of names n) 0 [] ∷ drop 1 (names_of names n)
  names_cons n h = drop-cons (names_of names n) 0 [] (omega (arith, names_length n h))

  -- one port more
  pub names_more : (n : ℕ) (p : Bor (List ℕ)) → n + 1 < length names → names_of (set names (n + 1) p) (n + 1) ≡ names_of names n ++ (p.now ∷ [])
  names_more n p h =
      let e : take (n + 1 + 1) (set names (n + 1) p) ≡ take (n + 1) names ++ (p ∷ []) = rw (add-one (n + 1)) (take-suc-set names (n + 1) p h) in
      rw (e, map-append)

-- all of the first so many flags
pub all_flags : (m : ℕ) (fs : List Bool) → m ≤ length fs → list_all (λ b. b) (take m fs) ≡ all_up m fs
all_flags zero fs h = refl
all_flags (suc m) [] h = absurd (omega arith)
all_flags (suc m) (f ∷ fs) h = rw (all_flags m fs (omega arith))
