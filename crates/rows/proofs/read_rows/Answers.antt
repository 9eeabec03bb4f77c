use Rattle.std.proofs.Common.{sym, ◌∙◌, arith, refl}
use Rattle.rows.proofs.Drawing.{going_none, going_inputs, end_refused, end_early, end_drawn, row_refused, row_apart, row_more, full_refused, full_drawn}
use Rattle.rows.proofs.read_rows.Goals as goal

pub loop-k-init : goal.loop-k-init
loop-k-init c = (going_none _ _ _ _ _ c.requires, refl)

pub returns-in_err-end : goal.returns-in_err-end
returns-in_err-end c =
    let g = c.loop-k.invariant.0 in
    let none = sym c.row_at.ensures ∙ c.if-not-row_at.true in
    end_refused g c.skip_from-p.result c.skip_from-p.ensures c.loop-k-test.true none _ _ _ c.read_keyword.ensures
    _ c.in_err-end.was _ _ c.from_residual.ensures.1

pub returns-then-k-eq0 : goal.returns-then-k-eq0
returns-then-k-eq0 c =
    let g = c.loop-k.invariant.0 in
    let none = sym c.row_at.ensures ∙ c.if-not-row_at.true in
    end_early g c.skip_from-p.result c.skip_from-p.ensures c.loop-k-test.true none _ _ _ c.read_keyword.ensures
    _ c.in_ok-end.was c.if-k-eq0.true ∙ rw c.at.ensures

pub returns-then-not-row_at : goal.returns-then-not-row_at
returns-then-not-row_at c =
    let g = c.loop-k.invariant.0 in
    let none = sym c.row_at.ensures ∙ c.if-not-row_at.true in
    end_drawn g c.skip_from-p.result c.skip_from-p.ensures c.loop-k-test.true none _ _ _ c.read_keyword.ensures
    _ c.in_ok-end.was c.if-k-eq0.false

pub read_row-requires : goal.read_row-requires
read_row-requires c = let g = c.loop-k.invariant.0 in (omega (arith, g.shaped.bounded.inputs, g.inputs), going_inputs g)

pub returns-in_err-i : goal.returns-in_err-i
returns-in_err-i c =
    let g = c.loop-k.invariant.0 in
    let some = sym c.row_at.ensures ∙ c.if-not-row_at.false in
    row_refused g c.skip_from-p.result c.skip_from-p.ensures c.loop-k-test.true some _ _ c.read_row.ensures
    _ c.in_err-i.was _ _ c.from_residual-in_err-i.ensures.1

pub returns-then-not-row_agrees : goal.returns-then-not-row_agrees
returns-then-not-row_agrees c =
    let g = c.loop-k.invariant.0 in
    let some = sym c.row_at.ensures ∙ c.if-not-row_at.false in
    row_apart g c.skip_from-p.result c.skip_from-p.ensures c.loop-k-test.true some _ _ c.read_row.ensures
    _ c.in_ok-i.was c.row_agrees.result c.row_agrees.ensures c.if-not-row_agrees.true ∙ rw c.at-then-not-row_agrees.ensures

pub loop-k-preserved : goal.loop-k-preserved
loop-k-preserved c =
    let g = c.loop-k.invariant.0 in
    let some = sym c.row_at.ensures ∙ c.if-not-row_at.false in (
      row_more g c.skip_from-p.result c.skip_from-p.ensures c.loop-k-test.true some _ _ c.read_row.ensures
          _ c.in_ok-i.was c.row_agrees.result c.row_agrees.ensures c.if-not-row_agrees.false,
      c.read_row.auto.a ∙ c.loop-k.invariant.1,
    )

pub returns-then-row_at : goal.returns-then-row_at
returns-then-row_at c =
    full_refused c.loop-k.invariant.0 c.skip_from-p-2.result c.skip_from-p-2.ensures (omega arith) (sym c.row_at-2.ensures ∙ c.if-row_at.true)
    ∙ rw c.at-then-row_at.ensures

pub returns : goal.returns
returns c = full_drawn c.loop-k.invariant.0 c.skip_from-p-2.result c.skip_from-p-2.ensures (omega arith)
    (sym c.row_at-2.ensures ∙ c.if-row_at.false) _ _ _ c.read_keyword-2.ensures
