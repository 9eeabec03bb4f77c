use Prim.Native.Nat.{ℕ}
use mathlib.Core.Path.{◌≡◌}
use Rattle.base.proofs.Bools.{both}
use Rattle.memo.specs.Pair.{first_then, second_then}
use Rattle.pair.proofs.Cases.{one_of_two, no_case}
use Rattle.pair.proofs.all_agree.Goals as goal

pub returns : goal.returns
returns c = λ t M e.
    let s = c.args.start in
    let m = c.args.memo.now.cells in
    let h = both _ _ e in
    no_case t m s.first s.second s.rest s.first_was s.second_was s.first_is_value s.second_is_value
    (λ x y o lx ly lo nx ny. one_of_two
    (λ (q : ℕ). first_then t m s.first s.second s.rest s.first_was s.second_was q y o
    ≡ second_then t m s.first s.second s.rest s.first_was s.second_was q y o)
    s.first_was x s.first_is_value lx nx
    (c.agree_for_each_second.ensures t M h.0 y o ly lo ny)
    (c.agree_for_each_second-2.ensures t M h.1 y o ly lo ny))
