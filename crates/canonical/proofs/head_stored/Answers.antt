use mathlib.Core.Path.{◌≡◌, ◌∙◌}
use native.Mathlib.Omega.{arith}
use lib.ListN.{get_or}
use Rattle.std.proofs.lemmas.Grind.{common_steps}
use Rattle.canonical.proofs.Parts.{head_tests, length_place, kind_place, start_place}
use Rattle.canonical.proofs.head_stored.Goals as goal

pub returns-then-byte_at-kind_byte : goal.returns-then-byte_at-kind_byte
returns-then-byte_at-kind_byte c =
    let a = c.args.a.now in
    let size : c.from-size.result ≡ get_or a 0 0 = c.from-size.ensures ∙ c.byte_at.ensures in
    grind (arith, common_steps, head_tests a, length_place a, kind_place a, start_place a)

pub returns-else-byte_at-kind_byte : goal.returns-else-byte_at-kind_byte
returns-else-byte_at-kind_byte c =
    let a = c.args.a.now in
    let size : c.from-size.result ≡ get_or a 0 0 = c.from-size.ensures ∙ c.byte_at.ensures in
    grind (arith, common_steps, head_tests a, length_place a, kind_place a, start_place a)
