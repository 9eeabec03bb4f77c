use Rattle.std.proofs.Common.{◌≡◌, ◌-◌, sym, ◌∙◌, arith}
use Rattle.std.proofs.lemmas.Result.{err_from_is_err_and}
use Rattle.text.proofs.Readlaws.{fault_is}
use Rattle.grammar.specs.Header.{list_room}
use Rattle.ports.specs.Ports.{all}
use Rattle.ports.proofs.Flags.{stale, fresh_within}
use Rattle.ports.proofs.Keeping.{names_few}
use Rattle.ports.proofs.Steps.{input_stop, input_stale, input_cut, input_last, input_next, list_full}
use Rattle.ports.proofs.Ports.read_list.Goals as goal

pub returns-in_err-name : goal.returns-in_err-name
returns-in_err-name c =
    let p = err_from_is_err_and c.from_residual.result c.from_residual.ensures.1 in
    rw (p.1, p.2) (input_stop _ _ _ _ _ _ c.loop.counter c.loop-test.true c.args.self.now.distinct c.loop.invariant _ _ c.in_err-name.ensures)

pub returns-in_err-port : goal.returns-in_err-port
returns-in_err-port c =
    let p = err_from_is_err_and c.from_residual-in_err-port.result c.from_residual-in_err-port.ensures.1 in
    let s = stale c.undeclared.result _ _ c.in_err-port.ensures.value in
    let f = sym (rw c.of.ensures at c.undeclared.ensures) ∙ s.0 in
    rw (p.1, p.2, s.1, c.at.ensures)
    (input_stale _ _ _ _ _ _ c.loop.counter c.loop-test.true c.args.self.now.distinct c.loop.invariant _ _ _ c.in_ok-name.ensures f)

pub returns-in_err-more : goal.returns-in_err-more
returns-in_err-more c =
    let p = err_from_is_err_and c.from_residual-in_err-more.result c.from_residual-in_err-more.ensures.1 in
    let f = sym (rw c.of.ensures at c.undeclared.ensures) ∙ c.in_ok-port.ensures.ok_part in
    rw (p.1, p.2) (input_cut _ _ _ _ _ _ c.loop.counter c.loop-test.true c.args.self.now.distinct c.loop.invariant _ _ _ c.in_ok-name.ensures _ f _ _ c.in_err-more.ensures)

pub bounds-up-port : goal.bounds-up-port
bounds-up-port c =
    let p = c.args.self.now in
    omega (
      arith,
      fresh_within c.of.result.now (all p) c.loop.up c.in_ok-port.port (sym c.undeclared.ensures ∙ c.in_ok-port.ensures.ok_part),
      names_few p.names p.inputs,
    )

pub returns-then-not-more : goal.returns-then-not-more
returns-then-not-more c =
    let f = sym (rw c.of.ensures at c.undeclared.ensures) ∙ c.in_ok-port.ensures.ok_part in
    input_last _ _ _ _ _ _ c.loop.counter c.loop-test.true c.args.self.now.distinct c.loop.invariant _ _ _ c.in_ok-name.ensures _ f _ _
    (rw c.if-not-more.true at c.in_ok-more.ensures)

pub loop-preserved : goal.loop-preserved
loop-preserved c =
    let f = sym (rw c.of.ensures at c.undeclared.ensures) ∙ c.in_ok-port.ensures.ok_part in
    input_next _ _ _ _ _ _ c.loop.counter c.loop-test.true c.args.self.now.distinct c.loop.invariant _ _ _ c.in_ok-name.ensures _ f _
    (rw c.if-not-more.false at c.in_ok-more.ensures)

pub returns : goal.returns
returns c =
    let r : list_room - c.loop.counter ≡ 0 = omega arith in
    rw (c.fault_at.ensures, fault_is) (list_full _ _ _ _ _ _ (rw r at c.loop.invariant))
