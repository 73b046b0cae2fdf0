use Rattle.std.proofs.Common.{◌≡◌, ◌∙◌, rules}
use Rattle.nmvs_rules.specs.Facts.{reply_by_facts}
use Rattle.nmvs_rules.proofs.FactsLemmas.{reply_by_facts-trail}
use Rattle.nmvs_rules.proofs.decision.decide.Goals as goal

pub returns-clause-by_trail : goal.returns-clause-by_trail
returns-clause-by_trail c = λ t is.
    let by_facts : c.admitted_reply.result ≡ reply_by_facts c.args.facts.now c.args.put.now = search rules in
    by_facts ∙ reply_by_facts-trail t c.args.put.now c.args.facts.now is
