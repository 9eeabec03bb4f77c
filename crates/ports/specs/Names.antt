-- The names of the ports, and which of them are declared.
use Rattle.std.specs.Prelude.{◌≡◌, List, [], ◌∷◌, Bool, true, false, cond, ◌&&◌, ℕ, zero, suc, ◌+◌, get_or, map, take, Option, None, Some}
use Rattle.std.specs.Borrow.{Bor}
use Rattle.std.proofs.Math.Bool.{Bool-set}
use Rattle.std.specs.Coded.{×_prop, Unit-prop}
use Rattle.text.specs.Words.{same, member}
use Rattle.text.specs.Blanks.{more}

-- the output, and so many inputs
abbrev pub names_of : List (Bor (List ℕ)) → ℕ → List (List ℕ)
names_of names inputs = map (λ p. p.now) (take (inputs + 1) names)

-- the first port of a name
abbrev pub find : List ℕ → List (List ℕ) → Option ℕ
find w [] = None
find w (p ∷ ps) = cond (same w p) (Some 0) (more (find w ps))

-- ---- the ports of a list are distinct

abbrev pub Distinct : List (List ℕ) → Type 0
Distinct [] = Unit {0}
Distinct (p ∷ ps) = (member p ps ≡ false) × Distinct ps

pub Distinct-prop : (ps : List (List ℕ)) → IsProp (Distinct ps)
Distinct-prop [] = Unit-prop
Distinct-prop (p ∷ ps) = ×_prop (Bool-set (member p ps) false) (Distinct-prop ps)

-- ---- declared ports have their flag up

-- the ports whose flag is down
abbrev pub down : List (List ℕ) → List Bool → List (List ℕ)
down [] fs = []
down (p ∷ ps) [] = p ∷ down ps []
down (p ∷ ps) (f ∷ fs) = cond f (down ps fs) (p ∷ down ps fs)

-- an input whose flag is down: the output is the first port
abbrev pub fresh : Option ℕ → List Bool → Option ℕ
fresh None fs = None
fresh (Some zero) fs = None
fresh (Some (suc j)) fs = cond (get_or fs (suc j) false) None (Some (suc j))

-- the first so many flags are up
abbrev pub all_up : ℕ → List Bool → Bool
all_up zero fs = true
all_up (suc m) [] = false
all_up (suc m) (f ∷ fs) = f && all_up m fs
