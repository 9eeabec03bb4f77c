use mathlib.Core.Path.{sym, ◌∙◌}
use mathlib.Core.List.{[], ◌∷◌, ◌++◌}
use borrow.Author.Rules.{rules}
use lib.Dec.{eqb}
use lib.ListN.{length, get_or}
use Rattle.base.proofs.Chains.{every_from_all}
use Rattle.files.specs.Files.{LF}
use Rattle.handed.specs.Handed.{handed}
use Rattle.entry.specs.Entry.{entry}
use Rattle.entry.specs.Draft.{draft}
use Rattle.line.proofs.Lines.{no_entry_unfit, no_entry_length, same_bytes_here}
use Rattle.line.proofs.is_entry.Goals as goal

-- `line::is_entry` meets its contract. Assumes nothing.

pub returns-in_default : goal.returns-in_default
returns-in_default c = no_entry_unfit _ c.args.s _ c.read_line-verdict.ensures (sym c.in_default.is ∙ c.line_length.ensures)

pub returns-then-longer : goal.returns-then-longer
returns-then-longer c =
    no_entry_length _ c.args.s _ c.read_line-verdict.ensures c.in-Some.whole (sym c.in-Some.is ∙ c.line_length.ensures) c.if-longer.true

pub returns : goal.returns
returns c =
    let l = c.args.line.now in
    let written = entry c.args.s (draft (handed c.read_line-verdict.result)) ++ (LF ∷ []) in
    same_bytes_here l c.args.s _ c.read_line-verdict.ensures c.in-Some.whole (sym c.in-Some.is ∙ c.line_length.ensures) c.if-longer.false _
    (every_from_all (λ k. eqb (get_or l k 0) (get_or written k 0)) (length l) _ _ _ (cc) _ (λ x b q k. search rules) c.all.ensures.ran)
