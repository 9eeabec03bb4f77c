use Prim.Native.Nat.{ℕ}
use lib.ListN.{get_or}
use borrow.Author.Rules.{rules}
use Rattle.base.specs.Limits.{input_limit}
use Rattle.base.proofs.Chains.{listed_from_array}
use Rattle.value.specs.declared.Ternary.TheVariants.{V0}
use Rattle.evaluation.specs.Called.{vector_in, padded}
use Rattle.evaluation.proofs.vector_in.Goals as goal

pub returns : goal.returns
unfolding padded
returns c = listed_from_array (λ (k : ℕ). get_or (vector_in c.args.s.now) k V0) input_limit V0 _ _ (λ x b q h. search rules) c.from_fn.ensures.items
