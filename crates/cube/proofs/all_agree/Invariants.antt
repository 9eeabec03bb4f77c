use Prim.Native.Nat.{ℕ, ◌/◌, ◌%◌}
use mathlib.Core.Path.{◌≡◌}
use mathlib.Core.Bool.{true}
use Rattle.base.specs.Search.{every}
use Rattle.cube.specs.Lanes.{weight_of}
use Rattle.cube.specs.Steps.{Tell, same_in}
use Rattle.cube.proofs.all_agree.Given as goal

abbrev pub invariant-loop-k : goal.invariant-loop-k
invariant-loop-k l =
    (f h : ℕ → ℕ → ℕ → ℕ) → Tell l.first.steps f → Tell l.second.steps h →
    every l.k (λ (k : ℕ). every 27 (same_in f h (weight_of l.first.digit) (weight_of l.second.digit) (k / 9) (k / 3 % 3) (k % 3))) ≡ true
