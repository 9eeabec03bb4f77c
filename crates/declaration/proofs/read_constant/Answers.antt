use Rattle.std.proofs.Common.{◌≡◌, ◌+◌, drop, arith, ◌∙◌}
use Rattle.declaration.specs.Declaration.{digit}
use Rattle.grammar.specs.Header.{constant}
use Rattle.text.specs.Reader.{◌>>=◌, if}
use Rattle.text.proofs.Readlaws.{mark_at, byte_two, ahead_one, ahead_none, fault_is}
use Rattle.declaration.proofs.Steps.{letter_then, letter_none}
use Rattle.declaration.proofs.read_constant.Goals as goal

pub returns-then-one_at : goal.returns-then-one_at
unfolding constant ◌>>=◌ if
returns-then-one_at c = rw (
  byte_two c.args.text.now c.args.at 48 49,
  ← c.one_at.ensures,
  c.if-one_at.true,
  ahead_none (c.args.at + 1) (drop
      (c.args.at + 1) c.args.text.now),
)

pub returns-then-not-one_at : goal.returns-then-not-one_at
unfolding constant ◌>>=◌ if
returns-then-not-one_at c = rw (
  byte_two c.args.text.now c.args.at 48 49,
  ← c.one_at.ensures,
  c.if-one_at.false,
  ← c.one_at-2.ensures,
  c.if-not-one_at.true,
  c.fault_at.ensures,
  fault_is,
)

pub returns-then-not-one_at-2 : goal.returns-then-not-one_at-2
unfolding constant ◌>>=◌ if
returns-then-not-one_at-2 c =
    let a = ahead_one 39 (c.args.at + 1) (drop (c.args.at + 1) c.args.text.now) in
    rw (
      byte_two c.args.text.now c.args.at 48 49,
      ← c.one_at.ensures,
      c.if-one_at.false,
      ← c.one_at-2.ensures,
      c.if-not-one_at.false,
      a,
      ← c.one_at-3.ensures,
      c.if-not-one_at-2.true,
    )

pub returns-then-one_at-2 : goal.returns-then-one_at-2
unfolding constant ◌>>=◌ if digit
returns-then-one_at-2 c =
    let t = c.args.text.now in
    let k = c.args.at in
    let p2 : k + 1 + 1 ≡ k + 2 = omega arith in
    let p3 : k + 2 + 1 ≡ k + 3 = omega arith in
    let e = letter_then t (k + 2) digit _ _ c.one_at-4.ensures c.one_at-5.ensures c.if-one_at-2.true in
    let a = ahead_one 39 (k + 1) (drop (k + 1) t) in
    rw (
      byte_two t k 48 49,
      ← c.one_at.ensures,
      c.if-one_at.false,
      ← c.one_at-2.ensures,
      c.if-not-one_at.false,
      a,
      ← c.one_at-3.ensures,
      c.if-not-one_at-2.false,
      mark_at t (k + 1) 39,
      ← c.one_at-3.ensures,
      c.if-not-one_at-2.false,
      p2,
    )
    ((rw p3 at e) ∙ c.read_digit.ensures)

pub returns : goal.returns
unfolding constant ◌>>=◌ if digit
returns c =
    let t = c.args.text.now in
    let k = c.args.at in
    let p2 : k + 1 + 1 ≡ k + 2 = omega arith in
    let a = ahead_one 39 (k + 1) (drop (k + 1) t) in
    rw (
      byte_two t k 48 49,
      ← c.one_at.ensures,
      c.if-one_at.false,
      ← c.one_at-2.ensures,
      c.if-not-one_at.false,
      a,
      ← c.one_at-3.ensures,
      c.if-not-one_at-2.false,
      mark_at t (k + 1) 39,
      ← c.one_at-3.ensures,
      c.if-not-one_at-2.false,
      p2,
      c.fault_at-2.ensures,
      fault_is,
    )
    (letter_none t (k + 2) digit _ _ c.one_at-4.ensures c.one_at-5.ensures c.if-one_at-2.false)
