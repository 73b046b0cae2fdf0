use Rattle.std.proofs.Common.{◌∷◌, [], ◌∙◌, ap, sym}
use Rattle.nmvs_messages.proofs.FieldLemmas.{one}
use Rattle.nmvs_protocol.specs.Lines.{report_word}
use Rattle.nmvs_protocol.proofs.SpellingLemmas.{no_report_fault}
use Rattle.nmvs_protocol.proofs.lines.read_report.Goals as goal

pub returns-clause-fields : goal.returns-clause-fields
returns-clause-fields c =
    let given = one c.args.texts.now _ c.in-len1.len_at_least c.in-len1.len_below in
    let texts = ap (λ t. t ∷ []) c.in_ok-code.ensures.read.0 ∙ sym given in
    λ i. c.in_ok-user.ensures.read.0 i ∷ report_word ∷ texts i

pub returns-clause-fault : goal.returns-clause-fault
returns-clause-fault c =
    no_report_fault c.args.user.now c.args.texts.now _ c.in-len1.len_at_least c.in-len1.len_below c.in_ok-user.ensures.read.1 c.in_ok-code.ensures.read.1
