use Prim.Native.Nat.{◌<◌}
use mathlib.Core.Path.{◌≡◌, refl, sym, ◌∙◌}
use mathlib.Core.Bool.{true, false, and-false}
use native.Mathlib.Omega.{arith}
use lib.ListN.{length, length-set}
use Rattle.base.proofs.Search.{every_none, every_more, every_fails}
use Rattle.table.specs.Area.{decode}
use Rattle.table.proofs.Encoding.{decode_columns}
use Rattle.formed.specs.Tests.{rows_valid, rows_agree}
use Rattle.formed.proofs.Sets.{rows_none, rows_more, count_before, rows_before, row_last}
use Rattle.formed.proofs.rows_fit.Goals as goal
use Rattle.formed.proofs.rows_fit.Goals.{then-not-is_valid-via-then-not-is_valid, then-not-is_valid-via-else-not-is_valid+then-not-agrees}

pub loop-j-init : goal.loop-j-init
loop-j-init c = (refl, rows_none _, every_none _, every_none _)

pub returns-then-not-is_valid : goal.returns-then-not-is_valid
unfolding rows_valid rows_agree
returns-then-not-is_valid c =
    let t = decode c.args.a.now in
    let j = c.loop-j.j in
    let s = c.loop-j.read in
    let l = c.read.result in
    let h : j < length t.rows = omega (arith, c.rows-m.ensures) in
    let b : j < length s = omega (arith, c.loop-j.invariant.0, c.requires.rows) in
    let last = row_last t j s l b c.read.ensures _ in
    elim c.then-not-is_valid.branch [
      | then-not-is_valid-via-then-not-is_valid w ↦
          let told = c.is_valid.ensures t j last (decode_columns _ _ h ∙ sym c.inputs-n.ensures) in
          let valid = rw (c.inputs-n.ensures, c.sequential-sequential.ensures) at told in
          let v : rows_valid t ≡ false = every_fails _ _ j h (sym valid ∙ w.if-not-is_valid.true) in
          rw v
      | then-not-is_valid-via-else-not-is_valid+then-not-agrees w ↦
          let n = count_before t j s l b c.read.ensures in
          let before = rows_before t j s l b c.read.ensures c.loop-j.invariant.1 in
          let agrees = w.agrees.ensures t c.requires.inputs before (rw n last) in
          let v : rows_agree t ≡ false = every_fails _ _ j h (sym (rw n at agrees) ∙ w.if-not-agrees.true) in
          rw v (sym (and-false (rows_valid t)))
    ]

pub loop-j-preserved : goal.loop-j-preserved
loop-j-preserved c =
    let t = decode c.args.a.now in
    let j = c.loop-j.j in
    let s = c.loop-j.read in
    let l = c.read.result in
    let inv = c.loop-j.invariant in
    let h : j < length t.rows = omega (arith, c.rows-m.ensures) in
    let b : j < length s = omega (arith, inv.0, c.requires.rows) in
    let last = row_last t j s l b c.read.ensures _ in
    let n = count_before t j s l b c.read.ensures in
    let told = c.is_valid.ensures t j last (decode_columns _ _ h ∙ sym c.inputs-n.ensures) in
    let valid = rw (c.inputs-n.ensures, c.sequential-sequential.ensures) at told in
    let before = rows_before t j s l b c.read.ensures inv.1 in
    let agrees = c.agrees.ensures t c.requires.inputs before (rw n last) in (
      length-set s j l ∙ inv.0,
      rows_more _ j s l b c.read.ensures inv.1,
      every_more _ _ inv.2 (sym valid ∙ c.if-not-is_valid.false),
      every_more _ _ inv.3 (sym (rw n at agrees) ∙ c.if-not-agrees.false),
    )

pub returns : goal.returns
unfolding rows_valid rows_agree
returns c =
    let t = decode c.args.a.now in
    let e : c.loop-j.j ≡ length t.rows = omega (arith, c.rows-m.ensures) in
    let v : rows_valid t ≡ true = rw e at c.loop-j.invariant.2 in
    let g : rows_agree t ≡ true = rw e at c.loop-j.invariant.3 in
    rw (v, g)
