-- What a program outside is told of an answer: 0, or the number of the refusal; and what was asked for, or the refusal's place.
use Rattle.std.specs.Prelude.{ℕ, Result, Ok, Err}
use Rattle.refusal.specs.declared.Refusal.{Refusal}
use Rattle.refusal.specs.Refusal.{number_of}

abbrev pub number_in : {A : Type 0} → Result A Refusal → ℕ
number_in (Ok a) = 0
number_in (Err r) = number_of r.fault

-- what was asked for is read off the answer
abbrev pub told_in : {A : Type 0} → (A → ℕ) → Result A Refusal → ℕ
told_in f (Ok a) = f a
told_in f (Err r) = r.place
