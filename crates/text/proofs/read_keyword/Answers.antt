use Rattle.std.proofs.Common.{sym, ◌∙◌}
use Rattle.text.specs.Reader.{word, keyword, ◌>>=◌}
use Rattle.text.proofs.Readlaws.{fault_is}
use Rattle.text.proofs.Wordlaws.{same_as, same_eq}
use Rattle.text.proofs.read_keyword.Goals as goal

pub returns-then-eq : goal.returns-then-eq
unfolding keyword word ◌>>=◌
returns-then-eq c =
    let w = c.args.w.now in
    let found = sym (c.eq.ensures ∙ same_as c.part.result.now w) ∙ c.if-eq.true in
    rw (c.skip_from-i.ensures, c.word_end-e.ensures, ← c.part.ensures, found, same_eq c.part.result.now w found)

pub returns : goal.returns
unfolding keyword word ◌>>=◌
returns c =
    let other = sym (c.eq.ensures ∙ same_as c.part.result.now c.args.w.now) ∙ c.if-eq.false in
    rw (c.skip_from-i.ensures, c.word_end-e.ensures, ← c.part.ensures, other, c.fault_at.ensures, fault_is)
