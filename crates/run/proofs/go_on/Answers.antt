use Rattle.std.proofs.Common.{rules, arith, refl, ◌≡◌}
use Rattle.keeping.proofs.Growing.{kept_goes, added_goes}
use Rattle.run.proofs.go_on.Goals as goal

-- an added entry ends behind the place where it began, within the book
pub prove-unreachable-requires : goal.prove-unreachable-requires
prove-unreachable-requires c =
    let a = added_goes c.args.run.text.now c.args.turn.start c.args.area.now c.args.book.now c.args.turn.at c.args.run.good c.requires.held c.in-Ok-Added.next c.in-Ok-Added.end c.settle.new.book (rw c.in-Ok-Added.field-0-is at c.in-Ok-Added.ensures) in
    omega (arith, a.3)

pub prove-unreachable-requires-in-Ok-Added : goal.prove-unreachable-requires-in-Ok-Added
prove-unreachable-requires-in-Ok-Added c =
    let a = added_goes c.args.run.text.now c.args.turn.start c.args.area.now c.args.book.now c.args.turn.at c.args.run.good c.requires.held c.in-Ok-Added.next c.in-Ok-Added.end c.settle.new.book (rw c.in-Ok-Added.field-0-is at c.in-Ok-Added.ensures) in
    omega (arith, a.0.inside)

-- entries are counted up to the text's length at most
pub overflow_add-result : goal.overflow_add-result
overflow_add-result c =
    let a = kept_goes c.args.run.text.now c.args.turn.start c.args.area.now c.args.book.now c.args.turn.at c.args.run.good c.requires.held c.in-Ok-Kept.next c.in-Ok-Kept.end c.settle.new.book (rw c.in-Ok-Kept.field-0-is at c.in-Ok-Kept.ensures) in
    omega (arith, a.1, a.2)

pub overflow_add-result-in-Ok : goal.overflow_add-result-in-Ok
overflow_add-result-in-Ok c =
    let a = added_goes c.args.run.text.now c.args.turn.start c.args.area.now c.args.book.now c.args.turn.at c.args.run.good c.requires.held c.in-Ok-Added.next c.in-Ok-Added.end c.settle.new.book (rw c.in-Ok-Added.field-0-is at c.in-Ok-Added.ensures) in
    omega (arith, a.1, a.2)

-- a kept entry is the only one more
pub returns-in-Ok-Kept : goal.returns-in-Ok-Kept
returns-in-Ok-Kept c =
    let a = kept_goes c.args.run.text.now c.args.turn.start c.args.area.now c.args.book.now c.args.turn.at c.args.run.good c.requires.held c.in-Ok-Kept.next c.in-Ok-Kept.end c.settle.new.book (rw c.in-Ok-Kept.field-0-is at c.in-Ok-Kept.ensures) in
    (a.0, a.1, a.2, refl)

-- so is one that was added, where it is stored up to its end
pub returns-in-Ok : goal.returns-in-Ok
returns-in-Ok c =
    let a = added_goes c.args.run.text.now c.args.turn.start c.args.area.now c.args.book.now c.args.turn.at c.args.run.good c.requires.held c.in-Ok-Added.next c.in-Ok-Added.end c.settle.new.book (rw c.in-Ok-Added.field-0-is at c.in-Ok-Added.ensures) in
    let e : c.in-Ok.last ≡ c.in-Ok-Added.end = search rules in
    rw e (a.0, a.1, a.2, refl)
