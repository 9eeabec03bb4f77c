use Rattle.keeping.proofs.Turns.{settled}
use Rattle.keeping.proofs.settle.Goals as goal

pub returns : goal.returns
returns c =
    let placed = rw c.verdict_in.ensures at c.place.ensures in
    settled c.args.text.now c.args.start c.in-Some.next c.args.area.now _ c.in-Some.finding (rw c.in-Some.is at c.in_ok-finding.ensures)
    c.args.book.now c.args.at c.args.good c.place.result c.place.new.book placed
