use Rattle.nmvs_messages.proofs.CommandLemmas.{each_is_read, one_spelling}
use Rattle.nmvs_messages.proofs.laws.commands_are_read.Goals as goal

pub returns-clause-each : goal.returns-clause-each
returns-clause-each c = each_is_read

pub returns-clause-spelling : goal.returns-clause-spelling
returns-clause-spelling c = one_spelling
