use mathlib.Core.Path.{sym, ◌∙◌}
use Rattle.entry.proofs.Bytes.{now_past, now_at_second, now_at_first, now_at_other}
use Rattle.entry.proofs.now_at.Goals as goal

-- `entry::now_at` meets its contract. Assumes nothing.

pub returns-then-n-k : goal.returns-then-n-k
returns-then-n-k c = now_past _ c.args.w _ c.if-n-k.true

pub returns-then-k-from : goal.returns-then-k-from
returns-then-k-from c = now_at_second _ c.args.w _ c.if-n-k.false (c.if-k-from.true ∙ c.from.ensures)

pub returns-then-k-from-2 : goal.returns-then-k-from-2
returns-then-k-from-2 c = now_at_first _ c.args.w _ c.if-n-k.false (λ e. c.if-k-from.false (e ∙ sym c.from.ensures)) (c.if-k-from-2.true ∙ c.from-2.ensures)

pub returns : goal.returns
returns c =
    c.value_at.ensures
    ∙ now_at_other _ c.args.w _ c.if-n-k.false (λ e. c.if-k-from.false (e ∙ sym c.from.ensures)) (λ e. c.if-k-from-2.false (e ∙ sym c.from-2.ensures))
