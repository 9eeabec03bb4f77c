use native.Mathlib.Omega.{arith}
use Rattle.orders.proofs.Candidates.{rank_low}
use Rattle.line.proofs.Lines.{number_none, number_more, number_small, number_all}
use Rattle.line.proofs.previous.Goals as goal

-- `line::previous` meets its contract: c is the number of the first k values. Assumes nothing.

pub loop-k-init : goal.loop-k-init
loop-k-init c = number_none c.args.field.now

pub overflow_mul-c : goal.overflow_mul-c
overflow_mul-c c =
    let small = number_small c.args.field.now c.loop-k.k (omega (arith, c.loop-k-test.true, c.min-k-end.ensures))
    (omega (arith, c.loop-k-test.true, c.min-k-end.ensures)) in
    omega (arith, c.loop-k.invariant, small)

pub overflow_add-c : goal.overflow_add-c
overflow_add-c c =
    let small = number_small c.args.field.now c.loop-k.k (omega (arith, c.loop-k-test.true, c.min-k-end.ensures))
    (omega (arith, c.loop-k-test.true, c.min-k-end.ensures)) in
    omega (arith, c.loop-k.invariant, small, c.to_rank.ensures, rank_low c.value_at.result)

pub loop-k-preserved : goal.loop-k-preserved
loop-k-preserved c =
    number_more c.args.field.now c.loop-k.k _ _ _ (omega (arith, c.loop-k-test.true, c.min-k-end.ensures))
    c.loop-k.invariant c.value_at.ensures c.to_rank.ensures

pub returns : goal.returns
returns c =
    number_all c.args.field.now c.loop-k.k _ (omega (arith, c.loop-k-test.false, c.min-k-end.ensures))
    (omega (arith, c.loop-k.auto.k-end, c.min-k-end.ensures)) c.loop-k.invariant
