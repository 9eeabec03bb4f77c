use Prim.Native.Nat.{ℕ, ◌≤◌, ◌<◌}
use mathlib.Core.Path.{◌≡◌, ◌∙◌}
use mathlib.Core.Logic.{⊎_elim}
use native.Mathlib.Nat.{zero-add}
use native.Mathlib.Omega.{arith}
use lib.ListN.{get_or}
use Rattle.std.proofs.lemmas.List.{get_or-replicate}
use Rattle.base.specs.Limits.{input_limit}
use Rattle.base.proofs.Bools.{lt_or_ge}
use Rattle.table.specs.Area.{decode}
use Rattle.formed.proofs.Sets.{past_offers}
use Rattle.formed.proofs.Cells.read.Goals as goal

pub returns : goal.returns
returns c =
    let n = (decode c.args.a.now).inputs in
    let read = c.loop-k.invariant in
    let past : (k : ℕ) → n ≤ k → k < input_limit → get_or c.loop-k.columns k 0 ≡ 7 =
    λ k g h. read.above k (omega arith) ∙ get_or-replicate {A = ℕ} input_limit k 7 0 h in
    record {
      columns = λ k h. ⊎_elim
          (λ (l : k < n). rw zero-add at (read.inside k (omega arith)))
          (λ (g : n ≤ k). past k g h ∙ past_offers _ _ _ g)
          (lt_or_ge k n);
      past = past;
      state = c.state_offers.ensures;
      output = c.output_in.ensures;
    }
