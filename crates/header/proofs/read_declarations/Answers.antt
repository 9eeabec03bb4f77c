use Rattle.std.proofs.Common.{◌≡◌, ◌-◌, sym, ◌∙◌, arith, rules}
use Rattle.std.proofs.lemmas.Result.{err_from_is_err_and}
use Rattle.text.proofs.Readlaws.{fault_is}
use Rattle.grammar.specs.Header.{declaration_room}
use Rattle.header.proofs.Steps.{going_none, no_room, no_word, all_up_lem, output_cut, output_next, reg_cut, reg_next, input_cut, input_next, initial_cut, initial_last, table_cut, table_last}
use Rattle.header.proofs.read_declarations.Goals.{in-Output+in_ok-i-in-Output, in-Reg+in_ok-i-in-Reg, in-Input+in_ok-up-in-Input}
use Rattle.header.proofs.read_declarations.Goals as goal

pub loop-init : goal.loop-init
loop-init c = going_none _ _ _

pub returns-in_err-word : goal.returns-in_err-word
returns-in_err-word c =
    let p = err_from_is_err_and c.from_residual.result c.from_residual.ensures.1 in
    rw (p.1, p.2) (no_word _ _ _ _ _ _ c.loop.counter c.loop-test.true c.loop.invariant _ c.skip_from-p.ensures _ _ c.in_err-word.ensures)

pub returns-in_err-i-in-Output : goal.returns-in_err-i-in-Output
returns-in_err-i-in-Output c =
    let p = err_from_is_err_and c.from_residual-in_err-i-in-Output.result c.from_residual-in_err-i-in-Output.ensures.1 in
    rw (p.1, p.2)
    (output_cut _ _ _ _ _ _ c.loop.counter c.loop-test.true c.loop.invariant _ c.skip_from-p.ensures _ (rw c.in-Output.is at c.in_ok-word.ensures) _ _
    (rw c.output-output.ensures at c.in_err-i-in-Output.ensures.said))

pub returns-in_err-i-in-Reg : goal.returns-in_err-i-in-Reg
returns-in_err-i-in-Reg c =
    let p = err_from_is_err_and c.from_residual-in_err-i-in-Reg.result c.from_residual-in_err-i-in-Reg.ensures.1 in
    rw (p.1, p.2)
    (reg_cut _ _ _ _ _ _ c.loop.counter c.loop-test.true c.loop.invariant _ c.skip_from-p.ensures _ (rw c.in-Reg.is at c.in_ok-word.ensures) _ _
    (rw c.output-output.ensures at c.in_err-i-in-Reg.ensures.said))

pub returns-in_err-up-in-Input : goal.returns-in_err-up-in-Input
returns-in_err-up-in-Input c =
    let p = err_from_is_err_and c.from_residual-in_err-up-in-Input.result c.from_residual-in_err-up-in-Input.ensures.1 in
    rw (p.1, p.2)
    (input_cut _ _ _ _ _ _ c.loop.counter c.loop-test.true c.loop.invariant _ c.skip_from-p.ensures _ (rw c.in-Input.is at c.in_ok-word.ensures) _ _
    c.in_err-up-in-Input.ensures)

pub returns-in_err-start-in-Initial : goal.returns-in_err-start-in-Initial
returns-in_err-start-in-Initial c =
    let p = err_from_is_err_and c.from_residual-in_err-start-in-Initial.result c.from_residual-in_err-start-in-Initial.ensures.1 in
    let u = all_up_lem _ _ _ _ _ _ c.loop.counter c.loop-test.true c.loop.invariant ∙ sym c.all_declared-none.ensures in
    rw (p.1, p.2)
    (initial_cut _ _ _ _ _ _ c.loop.counter c.loop-test.true c.loop.invariant _ c.skip_from-p.ensures _ (rw c.in-Initial.is at c.in_ok-word.ensures) _ _
    (rw c.output-output.ensures at (c.in_err-start-in-Initial.ensures _ u)))

pub returns-in-Initial : goal.returns-in-Initial
returns-in-Initial c =
    let u = all_up_lem _ _ _ _ _ _ c.loop.counter c.loop-test.true c.loop.invariant ∙ sym c.all_declared-none.ensures in
    initial_last _ _ _ _ _ _ c.loop.counter c.loop-test.true c.loop.invariant _ c.skip_from-p.ensures _ (rw c.in-Initial.is at c.in_ok-word.ensures) _ _ _
    (rw c.output-output.ensures at (c.in_ok-start-in-Initial.ensures _ u))

pub returns-then-undeclared : goal.returns-then-undeclared
returns-then-undeclared c =
    rw c.at.ensures
    (table_cut _ _ _ _ _ _ c.loop.counter c.loop-test.true c.loop.invariant _ c.skip_from-p.ensures _ (rw c.in-Table.is at c.in_ok-word.ensures)
    (sym c.all_declared-complete.ensures ∙ c.if-undeclared.true))

pub returns-in-Table : goal.returns-in-Table
returns-in-Table c =
    table_last _ _ _ _ _ _ c.loop.counter c.loop-test.true c.loop.invariant _ c.skip_from-p.ensures _ (rw c.in-Table.is at c.in_ok-word.ensures)
    (sym c.all_declared-complete.ensures ∙ c.if-undeclared.false)

pub loop-preserved : goal.loop-preserved
loop-preserved c =
    let q = c.output-output.ensures in
    elim c.match-word.branch [
      | in-Output+in_ok-i-in-Output w ↦
          rw (w.declared-is, w.reg-is, w.i-is, w.declare.ensures.raised, w.in_ok-i-in-Output.was)
          (output_next _ _ _ _ _ _ c.loop.counter c.loop-test.true c.loop.invariant _ c.skip_from-p.ensures _ (rw w.in-Output.is at c.in_ok-word.ensures) _ _
          (rw q at w.in_ok-i-in-Output.ensures.said))
      | in-Reg+in_ok-i-in-Reg w ↦
          rw (w.declared-is, w.reg-is, w.i-is, w.declare-in-Reg.ensures.raised, w.in_ok-i-in-Reg.was)
          (reg_next _ _ _ _ _ _ c.loop.counter c.loop-test.true c.loop.invariant _ c.skip_from-p.ensures _ (rw w.in-Reg.is at c.in_ok-word.ensures) _ _
          (rw q at w.in_ok-i-in-Reg.ensures.said))
      | in-Input+in_ok-up-in-Input w ↦
          rw (w.declared-is, w.reg-is, w.i-is)
          (input_next _ _ _ _ _ _ c.loop.counter c.loop-test.true c.loop.invariant _ c.skip_from-p.ensures _
          (rw w.in-Input.is at c.in_ok-word.ensures) _ (search rules) _
          w.in_ok-up-in-Input.ensures)
    ]

pub returns : goal.returns
returns c =
    let r : declaration_room - c.loop.counter ≡ 0 = omega arith in
    rw (c.fault_at.ensures, fault_is) (no_room _ _ _ _ _ _ (rw r at c.loop.invariant))
