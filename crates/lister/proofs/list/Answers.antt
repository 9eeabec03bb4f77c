use Rattle.std.proofs.Common.{arith}
use Rattle.listing.proofs.Nexts.{moves}
use Rattle.lister.proofs.list.Goals as goal

-- a verdict's place is behind the one where it began, within the text
pub loop-finding-smaller : goal.loop-finding-smaller
loop-finding-smaller g c =
    let m = moves c.args.text.now c.loop-finding.at c.in-Some.next c.in-Some.finding c.loop-finding.area _ (rw c.in-Some.is at c.in_ok-finding.ensures) in
    omega (arith, m.0, m.1)

pub loop-finding-preserved : goal.loop-finding-preserved
loop-finding-preserved g c =
    let m = moves c.args.text.now c.loop-finding.at c.in-Some.next c.in-Some.finding c.loop-finding.area _ (rw c.in-Some.is at c.in_ok-finding.ensures) in
    m.1
