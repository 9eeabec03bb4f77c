use mathlib.Core.Path.{refl}
use Rattle.base.proofs.Listed.{filled_none, filled_more, filled_all}
use Rattle.judge.proofs.Squares.{formed_by}
use Rattle.bankplover.specs.Judges.{square_cells}
use Rattle.bankplover.proofs.bankplover_square.Goals as goal

pub returns-then-not-s : goal.returns-then-not-s
unfolding square_cells
returns-then-not-s c =
    rw (formed_by c.args.area.now c.square-s.result _ c.square-s.ensures c.if-not-s.true)
    record { value = c.number.ensures; cells = refl; told = refl }

pub loop-k-init : goal.loop-k-init
loop-k-init c = filled_none _ 81 _

pub loop-k-preserved : goal.loop-k-preserved
loop-k-preserved c = filled_more _ 81 _ _ _ c.loop-k-test.true c.bit_of.ensures c.loop-k.invariant

pub returns : goal.returns
unfolding square_cells
returns c =
    rw (formed_by c.args.area.now c.square-s.result _ c.square-s.ensures c.if-not-s.false, ← c.square-s.ensures)
    record { value = refl; cells = filled_all _ 81 _ _ c.loop-k-test.false c.loop-k.invariant; told = refl }
