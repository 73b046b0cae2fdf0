use Rattle.std.proofs.Common.{◌≡◌, ◌∙◌, ◌+◌, ◌<◌, ◌^◌, unwrap_or, sym, ap, subst}
use Rattle.nmvs_tables.specs.declared.codes.CodeRecord.{CodeRecord}
use Rattle.nmvs_tables.specs.Codes.{code_in, code_noted, no_code}
use Rattle.nmvs_tables.proofs.CodesLemmas.{code_in-noted, code_in-kept}
use Rattle.nmvs_tables.proofs.codes.note.Goals as goal

pub changed_by-requires-clause-alerts : goal.changed_by-requires-clause-alerts
changed_by-requires-clause-alerts g c =
    let Fits : CodeRecord → Type 0 = λ r. r.alerts + 1 < 2 ^ 64 in
    subst Fits (sym (c.unwrap_or-old.ensures ∙ ap (λ o. unwrap_or o no_code) c.find_near-index.ensures.value)) (c.requires.alerts c.code-code.result)

pub changed_by-requires-clause-flagged : goal.changed_by-requires-clause-flagged
changed_by-requires-clause-flagged g c =
    let Fits : CodeRecord → Type 0 = λ r. r.flagged + 1 < 2 ^ 64 in
    subst Fits (sym (c.unwrap_or-old.ensures ∙ ap (λ o. unwrap_or o no_code) c.find_near-index.ensures.value)) (c.requires.flagged c.code-code.result)

pub returns-in_default : goal.returns-in_default
returns-in_default g c =
    let old : c.unwrap_or-old.result ≡ code_in c.args.codes.now c.code-code.result = c.unwrap_or-old.ensures ∙ ap (λ o. unwrap_or o no_code) c.find_near-index.ensures.value in
    code_in-kept c.args.codes.now c.code-code.result c.args.entry.now c.code-code.ensures
    (sym old ∙ c.in_default.ensures ∙ ap (code_noted c.args.entry.now) old)

pub returns-in-Some : goal.returns-in-Some
returns-in-Some g c =
    let old : c.unwrap_or-old.result ≡ code_in c.args.codes.now c.code-code.result = c.unwrap_or-old.ensures ∙ ap (λ o. unwrap_or o no_code) c.find_near-index.ensures.value in
    code_in-noted c.args.codes.now c.write.new.table c.code-code.result c.in-Some.record c.args.entry.now c.code-code.ensures c.write.ensures.updates
    (c.in-Some.ensures ∙ ap (code_noted c.args.entry.now) old)
