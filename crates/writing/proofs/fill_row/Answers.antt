use mathlib.Core.Path.{◌≡◌, ap, ◌∙◌}
use native.Mathlib.Omega.{arith}
use lib.ListN.{length}
use Rattle.std.proofs.lemmas.List.{get_or_default}
use Rattle.table.specs.Table.{Row, any_symbol}
use Rattle.stored.specs.Stored.{symbol_byte, second_byte}
use Rattle.writing.proofs.Rowlaws.{columns_none, columns_more, row_filled}
use Rattle.writing.proofs.fill_row.Goals as goal

pub loop-k-init : goal.loop-k-init
loop-k-init c = columns_none _ _ (c.fill.ensures.after (λ y e. e) ∙ rw c.requires.size)

pub loop-k-preserved : goal.loop-k-preserved
loop-k-preserved c =
    let same = get_or_default c.args.symbols.now c.loop-k.k _ any_symbol (omega arith) in
    columns_more _ _ _ _ _ (omega arith) (omega (arith, c.requires.few))
    (c.symbol_byte-first.ensures ∙ ap symbol_byte same) (c.second_byte-second.ensures ∙ ap second_byte same) c.loop-k.invariant

pub returns : goal.returns
returns c =
    let r : Row = record { symbols = c.args.symbols.now; state = c.args.state; output = c.args.output } in
    let all : c.loop-k.k ≡ length c.args.symbols.now = omega arith in
    rw (c.level_byte.ensures, c.output_byte.ensures) (row_filled r c.loop-k.row c.requires.few (rw all at c.loop-k.invariant))
