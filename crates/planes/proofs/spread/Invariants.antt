use Prim.Native.Nat.{ℕ, ◌^◌, ◌<◌}
use mathlib.Core.Path.{◌≡◌}
use lib.ListN.{length}
use Rattle.memo.specs.Outputs.{Low}
use Rattle.planes.specs.Words.{Told}
use Rattle.planes.proofs.Answers.{Going}
use Rattle.planes.proofs.spread.Given as goal

abbrev pub invariant-loop-left : goal.invariant-loop-left
invariant-loop-left l =
    (length l.words ≡ 4) × (l.left < 2 ^ 64) × (Low l.outputs → (f : ℕ → ℕ) → Told 4 l.initial.words f →
    Going l.outputs l.lanes l.o l.set f l.words l.free l.left)

abbrev pub decreases-loop-left : goal.decreases-loop-left
decreases-loop-left l = l.left
