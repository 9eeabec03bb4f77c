use Rattle.std.proofs.Common.{drop}
use borrow.Author.Tests.{lt-leb, le-leb}
use Rattle.text.specs.Reader.{name, word, check, ◌>>=◌}
use Rattle.text.proofs.Readlaws.{fault_is}
use Rattle.text.proofs.Wordlaws.{run_in_name}
use Rattle.text.proofs.read_name.Goals as goal

pub run_is_name-requires : goal.run_is_name-requires
run_is_name-requires c =
    let start = c.skip_from-start.result in
    rw c.part-word.ensures (run_in_name start (drop start c.args.text.now) _ _ _ c.word_end-end.ensures)

pub returns-then-not-run_is_name : goal.returns-then-not-run_is_name
unfolding name word ◌>>=◌
returns-then-not-run_is_name c =
    rw (
      c.skip_from-start.ensures,
      c.word_end-end.ensures,
      ← c.part-word.ensures,
      ← c.run_is_name.ensures,
      c.if-not-run_is_name.true,
      c.fault_at.ensures,
      fault_is,
    )

pub returns-then-word-gt-NAME : goal.returns-then-word-gt-NAME
unfolding name word check ◌>>=◌
returns-then-word-gt-NAME c =
    rw (
      c.skip_from-start.ensures,
      c.word_end-end.ensures,
      ← c.part-word.ensures,
      ← c.run_is_name.ensures,
      c.if-not-run_is_name.false,
      lt-leb _ _ c.if-word-gt-NAME.true,
      c.at.ensures,
    )

pub returns : goal.returns
unfolding name word check ◌>>=◌
returns c =
    rw (
      c.skip_from-start.ensures,
      c.word_end-end.ensures,
      ← c.part-word.ensures,
      ← c.run_is_name.ensures,
      c.if-not-run_is_name.false,
      le-leb _ _ c.if-word-gt-NAME.false,
    )
