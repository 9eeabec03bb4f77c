use mathlib.Core.Path.{◌≡◌, sym, ap, ◌∙◌}
use mathlib.Core.Bool.{not}
use native.Mathlib.Omega.{arith}
use Rattle.base.proofs.Search.{every_none, every_more, every_fails}
use Rattle.formed.specs.Tests.{row_agrees}
use Rattle.formed.proofs.Cells.agrees.Goals as goal

pub loop-earlier-init : goal.loop-earlier-init
loop-earlier-init c = λ t few w h. every_none _

pub returns-then-contradicts : goal.returns-then-contradicts
unfolding row_agrees
returns-then-contradicts c = λ t few w h.
    let i = c.loop-earlier.earlier-index in
    let row = w.row i _ c.loop-earlier-test.true in
    let met = sym (c.contradicts.ensures t i _ few row h) ∙ c.if-contradicts.true in
    sym (every_fails _ _ i c.loop-earlier-test.true (ap not met))

pub loop-earlier-preserved : goal.loop-earlier-preserved
loop-earlier-preserved c = λ t few w h.
    let i = c.loop-earlier.earlier-index in
    let row = w.row i _ c.loop-earlier-test.true in
    let apart = sym (c.contradicts.ensures t i _ few row h) ∙ c.if-contradicts.false in
    every_more _ _ (c.loop-earlier.invariant t few w h) (ap not apart)

pub returns : goal.returns
unfolding row_agrees
returns c = λ t few w h.
    let all : c.loop-earlier.earlier-index ≡ _ = omega arith in
    sym (rw all at c.loop-earlier.invariant t few w h)
