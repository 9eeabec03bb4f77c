use mathlib.Core.Path.{◌≡◌, sym, ◌∙◌}
use native.Mathlib.Omega.{arith}
use borrow.Author.Tests.{eq-eqb, ne_eqb}
use Rattle.base.proofs.Search.{every_none, every_more, every_fails}
use Rattle.cube.proofs.all_agree.Goals as goal

pub loop-k-init : goal.loop-k-init
loop-k-init c = λ f h tf th. every_none _

pub returns-then-differ-ne0 : goal.returns-then-differ-ne0
returns-then-differ-ne0 c = record {
  is =
      λ f h tf th. sym (every_fails _ 27 _ c.loop-k-test.true (sym (c.differ.ensures.at f h tf th) ∙ ne_eqb _ _ c.if-differ-ne0.true));
}

pub loop-k-preserved : goal.loop-k-preserved
loop-k-preserved c = λ f h tf th. every_more _ _ (c.loop-k.invariant f h tf th) (sym (c.differ.ensures.at f h tf th) ∙ eq-eqb _ _ c.if-differ-ne0.false)

pub returns : goal.returns
returns c = record { is = λ f h tf th. let e : c.loop-k.k ≡ 27 = omega arith in sym (rw e at (c.loop-k.invariant f h tf th)) }
