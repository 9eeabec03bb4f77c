use Rattle.std.proofs.Common.{arith, ◌≡◌, ◌-◌}
use Rattle.std.proofs.lemmas.Result.{err_from_is_err_and}
use Rattle.base.specs.Limits.{input_limit}
use Rattle.ports.specs.Ports.{all}
use Rattle.ports.proofs.Steps.{going_none, new_other, ports_full, ports_full_stop, ports_stop, ports_cut, ports_last, ports_next}
use Rattle.ports.proofs.Ports.read_inputs.Goals as goal

pub loop-init : goal.loop-init
loop-init c = (c.new-ports.ensures.no_input, going_none _ _ _ _ c.new-ports.ensures.names)

pub returns-in_err-name : goal.returns-in_err-name
returns-in_err-name c =
    let l = c.loop in
    let p = err_from_is_err_and c.from_residual.result c.from_residual.ensures.1 in
    rw (p.1, p.2) (ports_stop _ _ _ _ _ l.counter c.loop-test.true l.invariant.1 _ _ c.in_err-name.ensures)

pub returns-in_err-more : goal.returns-in_err-more
returns-in_err-more c =
    let l = c.loop in
    let p = err_from_is_err_and c.from_residual-in_err-more.result c.from_residual-in_err-more.ensures.1 in
    rw (p.1, p.2) (ports_cut _ _ _ _ _ l.counter c.loop-test.true l.invariant.1 _ _ _ c.in_ok-name.ensures _ _ c.in_err-more.ensures)

pub push-requires-clause-other : goal.push-requires-clause-other
push-requires-clause-other c = rw c.of.ensures (new_other _ _ _ _ _ _ c.in_ok-name.ensures)

pub returns-then-not-more : goal.returns-then-not-more
returns-then-not-more c =
    let l = c.loop in
    ports_last _ _ _ _ _ l.counter c.loop-test.true l.invariant.1 _ _ _ c.in_ok-name.ensures (all c.push.new.self) (rw
    (← c.of.ensures) c.push.ensures.names) _ _ (rw c.if-not-more.true at c.in_ok-more.ensures)

pub loop-preserved : goal.loop-preserved
loop-preserved c =
    let l = c.loop in (
      omega (arith, l.invariant.0, c.push.ensures.one_more),
      ports_next _ _ _ _ _ l.counter c.loop-test.true l.invariant.1 _ _ _ c.in_ok-name.ensures _ (rw (← c.of.ensures) c.push.ensures.names) _
          (rw c.if-not-more.false at c.in_ok-more.ensures),
    )

pub returns-in_err-tenth : goal.returns-in_err-tenth
returns-in_err-tenth c =
    let l = c.loop in
    let p = err_from_is_err_and c.from_residual-in_err-tenth.result c.from_residual-in_err-tenth.ensures.1 in
    let r : input_limit - l.counter ≡ 0 = omega arith in
    rw (p.1, p.2) (ports_full_stop _ _ _ _ _ (rw r at l.invariant.1) _ _ c.in_err-tenth.ensures)

pub returns : goal.returns
returns c =
    let l = c.loop in
    let r : input_limit - l.counter ≡ 0 = omega arith in
    rw c.at.ensures (ports_full _ _ _ _ _ (rw r at l.invariant.1) _ _ _ c.in_ok-tenth.ensures)
