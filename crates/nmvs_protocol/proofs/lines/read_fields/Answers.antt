use Rattle.std.proofs.Common.{refl}
use Rattle.nmvs_protocol.proofs.SpellingLemmas.{other_word_fault}
use Rattle.nmvs_protocol.proofs.lines.read_fields.Goals as goal

pub returns-in_default-word-clause-fault : goal.returns-in_default-word-clause-fault
returns-in_default-word-clause-fault c =
    (other_word_fault c.args.fields.now _ c.in-len1.len_at_least c.in-len1.len_below c.in_default-word.not-PING c.in_default-word.not-VERSION c.in_default-word.not-HELP c.in_default-word.not-QUIT, refl)
