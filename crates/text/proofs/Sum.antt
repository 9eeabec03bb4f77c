-- The cases of a sum, the sum first, so that each case's type is known where the case is read. Assumes nothing.
use mathlib.Core.Logic.{◌⊎◌, ⊎_elim}

pub cases : {A B C : Type 0} → A ⊎ B → (A → C) → (B → C) → C
cases s f g = ⊎_elim f g s
