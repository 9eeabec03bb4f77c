use mathlib.Core.Path.{◌≡◌}
use mathlib.Core.List.{[], ◌∷◌, ◌++◌}
use lib.ListN.{get_or, drop}
use Rattle.files.specs.Files.{LF}
use Rattle.files.specs.Parts.{join}
use Rattle.handed.specs.Handed.{handed}
use Rattle.entry.specs.Entry.{space, fields, trailer, entry}
use Rattle.entry.specs.Draft.{draft}
use Rattle.entry.proofs.byte_among.Given as goal

-- byte k of the line is byte i of what stands from field m on
abbrev pub invariant-loop-m : goal.invariant-loop-m
invariant-loop-m l =
    let v = draft (handed l.verdict) in
    get_or (entry l.s v ++ (LF ∷ [])) l.k 0 ≡ get_or (join space (drop l.m (fields v)) ++ (trailer l.s ++ (LF ∷ []))) l.i 0
