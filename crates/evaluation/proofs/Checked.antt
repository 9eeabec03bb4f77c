-- P1 to P10 hold. Assumes nothing.
use mathlib.Core.Path.{◌≡◌, refl}
use Rattle.base.specs.Search.{every, first, first_from}
use Rattle.value.specs.Value.{rank_of, same_value}
use Rattle.symbol.specs.Match.{match_level, match_edge, match_held, match_change, match_field, result_of}
use Rattle.table.specs.Match.{field_of, columns_match, row_matches}
use Rattle.step.specs.Step.{row_for, answer_or, answer_of, step_of}
use Rattle.evaluation.specs.Cases.{answered, written}

pub p_cases : answered ≡ written
unfolding step_of answer_of answer_or row_for first first_from row_matches columns_match every match_field field_of match_change match_held match_edge match_level same_value rank_of result_of
p_cases = refl
