-- The derived comparison of values is the comparison by their ranks. Assumes nothing.
use mathlib.Core.Path.{◌≡◌, refl, ap, ◌∙◌}
use mathlib.Core.Bool.{Bool, not}
use denote.Enum.Bare.{sameb}
use Rattle.value.specs.Value.{rank_of, same_value}
use Rattle.value.specs.contracts.Ternary.{the_type}
use Rattle.value.specs.declared.Ternary.{Ternary}
use Rattle.value.specs.declared.Ternary.TheVariants.{V0, V1, Vx}

same_is : (x y : Ternary) → sameb the_type x y ≡ same_value x y
unfolding same_value rank_of
same_is V0 V0 = refl
same_is V0 V1 = refl
same_is V0 Vx = refl
same_is V1 V0 = refl
same_is V1 V1 = refl
same_is V1 Vx = refl
same_is Vx V0 = refl
same_is Vx V1 = refl
same_is Vx Vx = refl

pub differ_is : (x y : Ternary) (r : Bool) → r ≡ not (sameb the_type x y) → r ≡ not (same_value x y)
differ_is x y r e = e ∙ ap not (same_is x y)
