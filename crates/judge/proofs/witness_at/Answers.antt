use Rattle.judge.specs.Search.{witness_in}
use Rattle.judge.proofs.witness_at.Goals as goal

pub returns : goal.returns
unfolding witness_in
returns c = λ t M.
    let k = c.of-case.ensures in
    let s = c.turned.ensures in
    rw (
      c.from_rank-5.ensures,
      c.from_rank-4.ensures,
      c.from_rank-3.ensures,
      c.from_rank-2.ensures,
      c.from_rank.ensures,
      c.output_at-second_output.ensures.0 t M,
      c.output_at-first_output.ensures.0 t M,
      s.0,
      s.1,
      s.2,
      k.0,
      k.1,
      k.2,
    )
