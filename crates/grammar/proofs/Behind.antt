-- A list that is read one by one, behind what was read before. Assumes nothing.
use mathlib.Core.Path.{◌≡◌, refl}
use mathlib.Core.List.{List, [], ◌∷◌, ◌++◌, append_assoc}
use Rattle.text.specs.Reader.{Result, got, refused, bind, give}

abbrev pub behind : {A : Type 0} → List A → Result (List A) → Result (List A)
behind l (got m k s) = got (l ++ m) k s
behind l (refused c p) = refused c p

pub behind_none : {A : Type 0} (r : Result (List A)) → behind [] r ≡ r
behind_none (got m k s) = refl
behind_none (refused c p) = refl

pub behind_more : {A : Type 0} (l : List A) (a : A) (r : Result (List A)) → behind l (bind r (λ m. give (a ∷ m))) ≡ behind (l ++ (a ∷ [])) r
behind_more l a (got m k s) = rw append_assoc
behind_more l a (refused c p) = refl
