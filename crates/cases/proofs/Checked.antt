-- Every case of the table holds. Assumes nothing.
use mathlib.Core.Path.{refl}
use Rattle.base.specs.Search.{every, first, first_from}
use Rattle.value.specs.Value.{rank_of, same_value}
use Rattle.symbol.specs.Match.{match_level, match_edge, match_held, match_change, match_field, result_of}
use Rattle.table.specs.Match.{field_of, columns_match, row_matches}
use Rattle.grammar.specs.Reading.{read, readers}
use Rattle.step.specs.Step.{row_for, answer_or, answer_of, step_of}
use Rattle.evaluation.specs.Cases as tables
use Rattle.judge.specs.Cases as judged
use Rattle.judge.proofs.Checked.{p_findings}
use Rattle.book.proofs.Cases.{P14}
use Rattle.cases.specs.Cases.{keep, take, mix, par, Reads, given, found, told, AllHold, all, ◌and◌, cases}

keep_reads : Reads keep tables.keep
unfolding read readers
keep_reads = record { next = 107; same = refl }

take_reads : Reads take tables.take
unfolding read readers
take_reads = record { next = 114; same = refl }

mix_reads : Reads mix tables.mix
unfolding read readers
mix_reads = record { next = 95; same = refl }

par_reads : Reads par judged.par
unfolding read readers
par_reads = record { next = 98; same = refl }

pub p_cases : AllHold cases
unfolding step_of answer_of answer_or row_for first first_from row_matches columns_match every match_field field_of match_change match_held match_edge match_level same_value rank_of result_of
p_cases =
    given tables.keep keep_reads refl
    and given tables.keep keep_reads refl
    and given tables.keep keep_reads refl
    and given tables.keep keep_reads refl
    and given tables.keep keep_reads refl
    and given tables.take take_reads refl
    and given tables.take take_reads refl
    and given tables.take take_reads refl
    and given tables.mix mix_reads refl
    and given tables.mix mix_reads refl
    and found tables.keep keep_reads p_findings.0
    and found tables.take take_reads p_findings.1
    and found judged.par par_reads p_findings.2
    and told P14
    and all
