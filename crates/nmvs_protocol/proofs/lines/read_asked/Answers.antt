use Rattle.std.proofs.Common.{◌∙◌, Bor, List, ℕ, map, sym, arith}
use Rattle.std.proofs.lemmas.List.{length-map}
use Rattle.nmvs_protocol.proofs.SpellingLemmas.{asked_fault-few, asked_fault-question}
use Rattle.nmvs_protocol.proofs.lines.read_asked.Goals as goal

pub returns-in_default-clause-fault : goal.returns-in_default-clause-fault
returns-in_default-clause-fault c =
    let now = λ (f : Bor (List ℕ)). f.now in
    sym (asked_fault-few (map now c.args.fields.now) (omega (arith, c.in_default.len_below, length-map c.args.fields.now now)))

pub returns-in_default-word-clause-fault : goal.returns-in_default-word-clause-fault
returns-in_default-word-clause-fault c =
    c.read_question.ensures.fault ∙ sym (asked_fault-question c.args.fields.now _ c.in-len2-up.len_at_least c.in_default-word.not-REPORT)
