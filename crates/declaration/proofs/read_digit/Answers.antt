use Rattle.text.specs.Reader.{◌>>=◌}
use Rattle.declaration.specs.Declaration.{digit}
use Rattle.declaration.proofs.Steps.{digit_byte}
use Rattle.text.proofs.Readlaws.{byte_nil, byte_cons, fault_is}
use borrow.Author.Tests.{ne_eqb}
use Rattle.text.proofs.Sum.{cases}
use mathlib.Core.Logic.{inl, inr}
use Rattle.declaration.proofs.read_digit.Goals as goal

pub returns-then-text-at : goal.returns-then-text-at
unfolding digit ◌>>=◌
returns-then-text-at c = rw (byte_nil c.args.text.now c.args.at digit_byte c.if-text-at.true, c.fault_at.ensures, fault_is)

pub returns-in-48 : goal.returns-in-48
unfolding digit ◌>>=◌
returns-in-48 c = rw (byte_cons c.args.text.now c.args.at digit_byte c.if-text-at.false, c.in-48.is)

pub returns-in-49 : goal.returns-in-49
unfolding digit ◌>>=◌
returns-in-49 c = rw (byte_cons c.args.text.now c.args.at digit_byte c.if-text-at.false, c.in-49.is)

pub returns-in-120 : goal.returns-in-120
unfolding digit ◌>>=◌
returns-in-120 c =
    let b = byte_cons c.args.text.now c.args.at digit_byte c.if-text-at.false in
    cases c.in-120.is (λ w. rw (b, w)) (λ w. rw (b, w))

pub returns-in_default : goal.returns-in_default
unfolding digit ◌>>=◌
returns-in_default c =
    let rest = c.in_default.in_default-own.rest in
    rw (
      byte_cons c.args.text.now c.args.at digit_byte c.if-text-at.false,
      ne_eqb _ _ rest.0.0.1,
      ne_eqb _ _ rest.0.1,
      ne_eqb _ _ (λ e. rest.1
          (inl e)),
      ne_eqb _ _ (λ e. rest.1 (inr e)),
      c.fault_at-in_default.ensures,
      fault_is,
    )
