use Rattle.std.proofs.Common.{length, ◌-◌, ◌+◌, ◌≤◌, ◌≡◌}
use Rattle.keeping.specs.Keeping.{Holds}
use Rattle.run.proofs.go_through.Given as goal

abbrev pub invariant-loop-next : goal.invariant-loop-next
invariant-loop-next l =
    Holds l.run.text.now l.turn.start l.book l.turn.at × (l.turn.start ≤ length l.run.text.now) × (l.turn.entry ≤ l.turn.start + 1) × (length l.area ≡ length l.initial.area) × (length l.book ≡ length l.initial.book)

abbrev pub decreases-loop-next : goal.decreases-loop-next
decreases-loop-next l = length l.run.text.now - l.turn.start
