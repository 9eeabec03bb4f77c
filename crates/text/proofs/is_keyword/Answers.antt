use Rattle.std.proofs.Common.{◌∙◌}
use Rattle.text.specs.Words.{keywords}
use Rattle.text.proofs.Wordlaws.{member_is}
use Rattle.text.proofs.is_keyword.Goals as goal

pub returns : goal.returns
returns c = c.contains.ensures.value ∙ member_is c.args.w.now keywords
