use Prim.Native.Nat.{ℕ, ◌+◌, ◌*◌, ◌/◌, ◌%◌, ◌^◌}
use lib.ListN.{get_or}
use Rattle.base.proofs.Patched.{Patched}
use Rattle.memo.proofs.add_row.Given as goal

abbrev pub invariant-loop-c : goal.invariant-loop-c
invariant-loop-c l = Patched (λ (q : ℕ). get_or l.initial.sets q 0 * 2 + l.bits / 2 ^ q % 2) 0 l.initial.sets l.sets l.c
