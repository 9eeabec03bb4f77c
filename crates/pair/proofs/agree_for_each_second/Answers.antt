use Prim.Native.Nat.{ℕ}
use mathlib.Core.Path.{◌≡◌}
use Rattle.base.proofs.Bools.{both}
use Rattle.memo.specs.Pair.{first_then, second_then}
use Rattle.pair.proofs.Cases.{one_of_two}
use Rattle.pair.proofs.agree_for_each_second.Goals as goal

pub returns : goal.returns
returns c = λ t M e y o ly lo ne.
    let s = c.args.start in
    let m = c.args.memo.now.cells in
    let x = c.args.first_now in
    let h = both _ _ e in
    one_of_two
    (λ (q : ℕ). first_then t m s.first s.second s.rest s.first_was s.second_was x q o
    ≡ second_then t m s.first s.second s.rest s.first_was s.second_was x q o)
    s.second_was y s.second_is_value ly ne
    (c.agree_for_each_old.ensures t M h.0 o lo)
    (c.agree_for_each_old-2.ensures t M h.1 o lo)
