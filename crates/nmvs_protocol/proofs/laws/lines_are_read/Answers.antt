use Rattle.nmvs_protocol.proofs.SpellingLemmas.{each_is_read, one_reading, one_spelling, short_lines}
use Rattle.nmvs_protocol.proofs.laws.lines_are_read.Goals as goal

pub returns-clause-each : goal.returns-clause-each
returns-clause-each c = each_is_read

pub returns-clause-one : goal.returns-clause-one
returns-clause-one c = one_reading

pub returns-clause-spelling : goal.returns-clause-spelling
returns-clause-spelling c = one_spelling

pub returns-clause-short : goal.returns-clause-short
returns-clause-short c = short_lines
