use mathlib.Core.Path.{sym, ap, ◌∙◌}
use mathlib.Core.List.{[], ◌∷◌, ◌++◌}
use native.Mathlib.Omega.{arith}
use lib.ListN.{get_or}
use Rattle.files.specs.Files.{LF}
use Rattle.files.proofs.Parts.{byte_in_lem, byte_mark, byte_more}
use Rattle.handed.specs.Handed.{handed}
use Rattle.entry.specs.Entry.{space, fields, trailer}
use Rattle.entry.specs.Draft.{draft}
use Rattle.entry.proofs.Fields.{as_many, length_listed, line_parts}
use Rattle.entry.proofs.byte_among.Goals as goal

-- `entry::byte_among` meets its contract: byte k of the line is byte i from field m on. Assumes nothing.

pub loop-m-init : goal.loop-m-init
loop-m-init c = ap (λ l. get_or l c.args.k 0) (line_parts c.args.s (draft (handed c.args.verdict)))

pub returns-then-i-length : goal.returns-then-i-length
returns-then-i-length c =
    let f = fields (draft (handed c.args.verdict)) in
    let t = trailer c.args.s ++ (LF ∷ []) in
    let e = length_listed f c.args.lengths.now c.requires c.loop-m.m c.loop-m-test.true in
    (rw c.field_at.ensures at c.byte.ensures)
    ∙ sym (c.loop-m.invariant ∙ byte_in_lem space f t c.loop-m.m c.loop-m.i
    (omega (arith, c.loop-m-test.true, as_many f c.args.lengths.now c.requires))
    (omega (arith, c.if-i-length.true, e)))

pub returns-then-i-length-2 : goal.returns-then-i-length-2
returns-then-i-length-2 c =
    let f = fields (draft (handed c.args.verdict)) in
    let t = trailer c.args.s ++ (LF ∷ []) in
    let e = length_listed f c.args.lengths.now c.requires c.loop-m.m c.loop-m-test.true in
    sym (c.loop-m.invariant ∙ byte_mark space f t c.loop-m.m c.loop-m.i
    (omega (arith, c.loop-m-test.true, as_many f c.args.lengths.now c.requires)) (c.if-i-length-2.true ∙ e))

pub loop-m-preserved : goal.loop-m-preserved
loop-m-preserved c =
    let f = fields (draft (handed c.args.verdict)) in
    let t = trailer c.args.s ++ (LF ∷ []) in
    let e = length_listed f c.args.lengths.now c.requires c.loop-m.m c.loop-m-test.true in
    c.loop-m.invariant ∙ byte_more space f t c.loop-m.m c.loop-m.i
    _ (omega (arith, c.loop-m-test.true, as_many f c.args.lengths.now c.requires)) e (omega arith)
