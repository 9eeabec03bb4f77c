use mathlib.Core.Path.{refl, sym, ◌∙◌}
use native.Mathlib.Omega.{arith}
use Rattle.files.proofs.Parts.{next_more, next_here, next_none}
use Rattle.book.proofs.Opening.{at_start, line_fails, line_holds, no_line}
use Rattle.book.proofs.open_lines.Goals.{then-ends+else-not-is_entry, else-ends}
use Rattle.book.proofs.open_lines.Goals as goal

-- `book::open_lines` meets its contract: the answer is the answer from the line that starts here. Assumes nothing.

pub loop-end-init : goal.loop-end-init
loop-end-init c = (omega arith, omega arith, refl, at_start _)

pub returns-then-not-is_entry : goal.returns-then-not-is_entry
returns-then-not-is_entry c =
    let l = c.loop-end in
    let q = sym (l.invariant.2 ∙ next_here _ _ _ c.loop-end-test.true c.if-ends.true) in
    rw c.at.ensures
    (sym (l.invariant.3 ∙ line_fails c.args.file.now l.start l.end l.count (omega (arith, l.invariant.0, c.loop-end-test.true)) q c.loop-end-test.true
    (sym c.is_entry.ensures ∙ c.if-not-is_entry.true)))

pub loop-end-preserved : goal.loop-end-preserved
loop-end-preserved c =
    let l = c.loop-end in
    elim c.if-ends.branch [
      | then-ends+else-not-is_entry w ↦
          let q = sym (l.invariant.2 ∙ next_here _ _ _ c.loop-end-test.true w.if-ends.true) in
          rw (w.start-is, w.count-is) (
            omega arith,
            omega (arith, l.invariant.0, l.invariant.1),
            refl,
            l.invariant.3
                ∙ line_holds c.args.file.now l.start l.end l.count (omega (arith, l.invariant.0, c.loop-end-test.true)) q c.loop-end-test.true
                (sym w.is_entry.ensures ∙ w.if-not-is_entry.false),
          )
      | else-ends w ↦
          rw (w.start-is, w.count-is)
          (omega (arith, l.invariant.0), l.invariant.1, l.invariant.2 ∙ next_more _ _ _ c.loop-end-test.true w.if-ends.false, l.invariant.3)
    ]

pub returns : goal.returns
returns c =
    let l = c.loop-end in
    let q = sym (l.invariant.2 ∙ next_none _ _ _ c.loop-end-test.false) in
    sym (l.invariant.3 ∙ no_line c.args.file.now l.start l.end l.count (omega (arith, l.invariant.0, l.auto.end-end)) q c.loop-end-test.false)
