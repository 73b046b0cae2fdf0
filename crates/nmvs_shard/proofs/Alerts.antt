-- What becomes of an alert.
use Rattle.std.proofs.Common.{◌≡◌, ◌∙◌, ◌+◌, ◌&&◌, ◌⊎◌, inl, inr, ℕ, zero, Bool, true, false, cond, List, [], ◌∷◌, ◌++◌, Option, Some, refl, sym, ap, arith}
use Rattle.std.specs.Cmp.{first_so, second_so}
use Rattle.nmvs_identifier.specs.Batch.{Batch}
use Rattle.nmvs_identifier.specs.Expiry.{Expiry}
use Rattle.nmvs_identifier.specs.ProductCode.{ProductCode}
use Rattle.nmvs_identifier.specs.declared.pack.Pack.{Pack}
use Rattle.nmvs_rules.specs.declared.entry.Entry.{Entry}
use Rattle.nmvs_rules.specs.declared.printed.Printed.{Printed}
use Rattle.nmvs_rules.specs.declared.put.Put.{Put}
use Rattle.nmvs_rules.specs.declared.reply.Reply.{Reply}
use Rattle.nmvs_rules.specs.declared.reply.Reply.TheVariants as reply
use Rattle.nmvs_rules.specs.Laws.{AsksAuthenticity, IsGenuine}
use Rattle.nmvs_rules.specs.Operations.{alert_number}
use Rattle.nmvs_rules.specs.Printed.{is_conditional}
use Rattle.nmvs_rules.specs.Questions.{may_ask}
use Rattle.nmvs_rules.specs.Repeats.{was_asked}
use Rattle.nmvs_rules.specs.Rules.{reply_of, answered}
use Rattle.nmvs_rules.specs.Trail.{alerts_of, has_code, is_alert}
use Rattle.nmvs_rules.proofs.AlertingLemmas.{decommissioning-alerts, verification-alerts}
use Rattle.nmvs_rules.proofs.PushLemmas.{alerts_of-push}
use Rattle.nmvs_rules.proofs.RepeatLaws.{new-unasked}
use Rattle.nmvs_rules.proofs.VerificationLemmas.{decommissioning-exact, verification-exact}
use Rattle.nmvs_shard.specs.declared.shard.Answered.{Answered}
use Rattle.nmvs_shard.specs.declared.shard.Outcome.{Outcome}
use Rattle.nmvs_shard.specs.declared.shard.NotPut.TheVariants as not_put
use Rattle.nmvs_shard.specs.declared.shard.Outcome.TheVariants as outcome
use Rattle.nmvs_shard.specs.Asking.{Asks, IsAlerted}

-- the reply about a pack that is not authentic is the next alert
alerting : (t : List Entry) (q : Put) (p : Pack) → AsksAuthenticity p q.question → may_ask q.actor.role q.question ≡ true → ((b : Batch) (x : Expiry) → ¬ IsGenuine t p b x)
    → alert_number (reply_of t q) ≡ Some (alerts_of t p.code + 1)
alerting t q p (inl asks) may false_one =
    verification-alerts t q p asks may (λ b x late is. false_one b x ((verification-exact t q p b x late asks).0 is).1)
alerting t q p (inr asks) may false_one =
    decommissioning-alerts t q p asks.0 asks.1 may (λ is. let genuine = ((decommissioning-exact t q p asks.0 asks.1).0 is).1 in false_one genuine.0 genuine.1 genuine.2)

-- no printed value holds an alert back
unconditional : (r : Reply) (n : ℕ) → alert_number r ≡ Some n → is_conditional r ≡ false
unconditional (reply.Alert cause flagged m) n h = refl
unconditional _ n h = cc

-- no alert is lost, unless its question may be a copy
pub kept : (old new : List Entry) (q : Put) (p : Pack) (printed : Option Printed) (o : Outcome) → Asks old q printed new o → AsksAuthenticity p q.question
    → may_ask q.actor.role q.question ≡ true → ((b : Batch) (x : Expiry) → ¬ IsGenuine old p b x) → was_asked old q ≡ false → IsAlerted old q p new o
kept old new q p printed (outcome.New a) is asks may false_one unasked = record {
  answer = a;
  told = refl;
  alert = ap alert_number is.2.reply ∙ alerting old q p asks may false_one;
  recorded = is.2.trail;
}
kept old new q p printed (outcome.Again a) is asks may false_one unasked = absurd (cc (sym (new-unasked old q unasked) ∙ is.1.repeat))
kept old new q p printed (outcome.NotPut not_put.Other n) is asks may false_one unasked = absurd (cc (sym (new-unasked old q unasked) ∙ is.2))
kept old new q p printed (outcome.NotPut not_put.Differs n) is asks may false_one unasked =
    absurd (cc (sym (unconditional (reply_of old q) (alerts_of old p.code + 1) (alerting old q p asks may false_one)) ∙ first_so _ _ is.2.1))
kept old new q p printed (outcome.NotPut not_put.Changed n) is asks may false_one unasked = absurd (cc (sym unasked ∙ second_so (is_alert (reply_of old q)) _ is.2.1))

no-alert : (a b : Bool) → (a && b) ≡ false → b ≡ true → a ≡ false
no-alert true true h is = cc
no-alert true false h is = cc
no-alert false b h is = refl

abbrev one_if : Bool → ℕ
one_if b = cond b 1 0

-- an entry that is no alert adds none
adds-none : (t : List Entry) (e : Entry) (c : ProductCode) → is_alert e.reply ≡ false → alerts_of (t ++ e ∷ []) c ≡ alerts_of t c
adds-none t e c none =
    let one : one_if (has_code c e && is_alert e.reply) ≡ zero = ap (λ b. one_if (has_code c e && b)) none ∙ by (has_code c e) in
    omega (arith, alerts_of-push t e c, one)
  where
    by : (b : Bool) → one_if (b && false) ≡ zero
    by true = refl
    by false = refl

-- a late copy adds no alert
pub copied : (old new : List Entry) (q : Put) (printed : Option Printed) (o : Outcome) (c : ProductCode) → Asks old q printed new o → was_asked old q ≡ true
    → alerts_of new c ≡ alerts_of old c
copied old new q printed (outcome.New a) c is asked =
    ap (λ t. alerts_of t c) is.2.trail ∙ adds-none old (answered q a.reply) c (ap is_alert is.2.reply ∙ no-alert _ _ is.1.0 asked)
copied old new q printed (outcome.Again a) c is asked = ap (λ t. alerts_of t c) is.0
copied old new q printed (outcome.NotPut why n) c is asked = ap (λ t. alerts_of t c) is.0
