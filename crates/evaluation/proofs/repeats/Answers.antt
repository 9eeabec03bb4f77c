use Prim.Native.Nat.{ℕ, ◌<◌}
use native.Mathlib.Omega.{arith}
use mathlib.Core.Path.{◌≡◌, ap, ◌∙◌}
use mathlib.Core.Bool.{Bool}
use mathlib.Core.List.{List}
use lib.Dec.{eqb}
use lib.ListN.{length, get_or, take}
use Rattle.std.proofs.lemmas.List.{length-take-le, get_or-take}
use Rattle.base.specs.Search.{some}
use Rattle.base.proofs.Lists.{list_any_some}
use Rattle.base.proofs.Search.{some_same}
use Rattle.evaluation.proofs.repeats.Goals as goal

-- among the first k
some_before : (l : List ℕ) (k : ℕ) (f : ℕ → Bool) → k < length l → some (length (take k l)) (λ m. f (get_or (take k l) m 0)) ≡ some k (λ m. f (get_or l m 0))
some_before l k f h = rw (length-take-le k l (omega arith)) (some_same _ _ k (λ m g. ap f (get_or-take k l m 0 g)))

pub returns : goal.returns
returns c =
    let l = c.args.l.now in
    let test : ℕ → Bool = λ (b : ℕ). eqb b (get_or l c.args.k 0) in
    c.contains.ensures.value ∙ list_any_some test (take c.args.k l) 0 ∙ some_before l c.args.k test c.requires
