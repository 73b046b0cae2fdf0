-- The words of the laws on a worked trail.
use Rattle.std.proofs.Common.{◌≡◌, ℕ, true, false, List, [], ◌∷◌, Some, None, inl, inr, refl}
use Rattle.std.specs.Prelude.{codes, filter, map}
use Rattle.nmvs_identifier.specs.Texts.{Text}
use Rattle.nmvs_identifier.specs.declared.pack.Pack.{Pack}
use Rattle.nmvs_rules.specs.declared.actor.Actor.{Actor}
use Rattle.nmvs_rules.specs.declared.role.Role.TheVariants as role
use Rattle.nmvs_rules.specs.declared.reason.Reason.{Reason}
use Rattle.nmvs_rules.specs.declared.reason.Reason.TheVariants as reason
use Rattle.nmvs_rules.specs.declared.own_status.OwnStatus.{OwnStatus}
use Rattle.nmvs_rules.specs.declared.own_status.OwnStatus.TheVariants as own
use Rattle.nmvs_rules.specs.declared.question.Question.{Question}
use Rattle.nmvs_rules.specs.declared.question.Question.TheVariants.{Upload, OfPack, OfBatch}
use Rattle.nmvs_rules.specs.declared.pack_question.PackQuestion.TheVariants.{Verify, Decommission, Handover, Revert, Theft}
use Rattle.nmvs_rules.specs.declared.batch_question.BatchQuestion.TheVariants.{Recall, Withdraw}
use Rattle.nmvs_rules.specs.declared.reply.Reply.{Reply}
use Rattle.nmvs_rules.specs.declared.reply.Reply.TheVariants as reply
use Rattle.nmvs_rules.specs.declared.refusal.Refusal.TheVariants as refusal
use Rattle.nmvs_rules.specs.declared.cause.Cause.TheVariants as cause
use Rattle.nmvs_rules.specs.declared.entry.Entry.{Entry}
use Rattle.nmvs_rules.specs.Operations.{uploads, decommissions, hands_over, supplies, reverts, confirms, binds, holds, goes_on, operates, last_operation, alarm}
use Rattle.nmvs_rules.specs.Laws.{part_of, owned, may_become, AsksAuthenticity, AsksLock, circulating, alert_numbers}

abbrev text : List ℕ → Text
text s = record { bytes = s }

abbrev pack : List ℕ → Pack
pack code = record { code = text code; serial = text (codes "SN1") }

abbrev first : Pack
first = pack (codes "09506000134352")

abbrev other : Pack
other = pack (codes "04012345678901")

abbrev pharmacy : Actor
pharmacy = record { role = role.Pharmacy; authorisation = text (codes "PH-1"); premises = text (codes "P1") }

abbrev entry : Question → Reply → Entry
entry q r = record { put = record { moment = 0; user = text (codes "user"); actor = pharmacy; question = q; tag = None }; reply = r }

abbrev batch : Text
batch = text (codes "B1")

abbrev upload : Entry
upload = entry (Upload first batch (text (codes "280200"))) reply.Uploaded

abbrev confirmation : Entry
confirmation = entry (OfPack Verify first) (reply.Authentic batch (text (codes "280200")) false)

abbrev hold : Entry
hold = entry (OfPack (Decommission reason.Hold) first) reply.Decommissioned

abbrev revert : Entry
revert = entry (OfPack Revert first) reply.Reverted

abbrev supply : Entry
supply = entry (OfPack (Decommission reason.Supply) first) reply.Decommissioned

abbrev alert : ℕ → Entry
alert n = entry (OfPack Verify first) (reply.Alert cause.Supplied true n)

abbrev refused : Entry
refused = entry (OfPack Revert first) (reply.Refused refusal.WasSupplied)

abbrev recall : Entry
recall = entry (OfBatch Recall (text (codes "09506000134352")) batch) (reply.LockedNow 0)

abbrev other_alert : Entry
other_alert = entry (OfPack Verify other) (reply.Alert cause.Unknown true 1)

abbrev trail : List Entry
trail = upload ∷ confirmation ∷ other_alert ∷ hold ∷ revert ∷ supply ∷ alert 1 ∷ refused ∷ alert 2 ∷ recall ∷ []

-- each word holds of its own entries and of no others
uploads-trail : filter (uploads first) trail ≡ upload ∷ []
uploads-trail = refl

confirms-trail : filter (confirms first) trail ≡ confirmation ∷ []
confirms-trail = refl

decommissions-trail : filter (decommissions first) trail ≡ hold ∷ supply ∷ []
decommissions-trail = refl

supplies-trail : filter (supplies first) trail ≡ supply ∷ []
supplies-trail = refl

reverts-trail : filter (reverts first) trail ≡ revert ∷ []
reverts-trail = refl

binds-trail : filter (binds first.code batch) trail ≡ recall ∷ []
binds-trail = refl

operates-trail : filter (operates first) trail ≡ upload ∷ hold ∷ revert ∷ supply ∷ []
operates-trail = refl

last-trail : last_operation trail first ≡ Some supply
last-trail = refl

alarm-trail : alarm supply.put.question ≡ Some (cause.Supplied, true)
alarm-trail = refl

-- a held pack is supplied by its handover
abbrev handover : Entry
handover = entry (OfPack Handover first) reply.HandedOver

abbrev handed_over : List Entry
handed_over = upload ∷ hold ∷ entry (OfPack Handover first) (reply.Refused refusal.Other) ∷ handover ∷ []

hands_over-handed_over : filter (hands_over first) handed_over ≡ handover ∷ []
hands_over-handed_over = refl

supplies-handed_over : filter (supplies first) handed_over ≡ handover ∷ []
supplies-handed_over = refl

decommissions-handed_over : filter (decommissions first) handed_over ≡ hold ∷ []
decommissions-handed_over = refl

last-handed_over : last_operation handed_over first ≡ Some handover
last-handed_over = refl

alarm-handed_over : alarm handover.put.question ≡ Some (cause.Supplied, true)
alarm-handed_over = refl

binds-other : binds first.code (text (codes "B2")) recall ≡ false
binds-other = refl

decommissions-other : filter (decommissions other) trail ≡ []
decommissions-other = refl

part-other : part_of trail other.code ≡ other_alert ∷ []
part-other = refl

numbers-first : alert_numbers trail first.code ≡ 1 ∷ 2 ∷ []
numbers-first = refl

numbers-other : alert_numbers trail other.code ≡ 1 ∷ []
numbers-other = refl

-- two lists merged: the third entry belongs to list 1, the others to list 0
owned-0 : owned (0 ∷ 0 ∷ 1 ∷ 0 ∷ []) (upload ∷ confirmation ∷ other_alert ∷ hold ∷ []) 0 ≡ upload ∷ confirmation ∷ hold ∷ []
owned-0 = refl

owned-1 : owned (0 ∷ 0 ∷ 1 ∷ 0 ∷ []) (upload ∷ confirmation ∷ other_alert ∷ hold ∷ []) 1 ≡ other_alert ∷ []
owned-1 = refl

-- the entries by which the pack goes on
goes_on-trail : filter (goes_on first) trail ≡ confirmation ∷ hold ∷ revert ∷ supply ∷ []
goes_on-trail = refl

goes_on-handed_over : filter (goes_on first) handed_over ≡ hold ∷ handover ∷ []
goes_on-handed_over = refl

goes_on-other : filter (goes_on other) trail ≡ []
goes_on-other = refl

-- a pack is held by one of the five decommissionings
abbrev decommission : Reason → Entry
decommission w = entry (OfPack (Decommission w) first) reply.Decommissioned

holds-each : filter (holds first) (map decommission (reason.Supply ∷ reason.Hold ∷ reason.Export ∷ reason.Sample ∷ reason.Destroy ∷ [])) ≡ hold ∷ []
holds-each = refl

-- the alert after each: Destroyed and the locks are not flagged
alarm-decommissioned : map (λ w. alarm (OfPack (Decommission w) first)) (reason.Supply ∷ reason.Hold ∷ reason.Export ∷ reason.Sample ∷ reason.Destroy ∷ []) ≡ Some (cause.Supplied, true) ∷ Some (cause.Held, true) ∷ Some (cause.Exported, true) ∷ Some (cause.Sampled, true) ∷ Some (cause.Destroyed, false) ∷ []
alarm-decommissioned = refl

alarm-others : map alarm (OfPack Handover first ∷ OfPack Theft first ∷ OfBatch Recall first.code batch ∷ OfBatch Withdraw first.code batch ∷ upload.put.question ∷ OfPack Revert first ∷ []) ≡ Some (cause.Supplied, true) ∷ Some (cause.Stolen, true) ∷ Some (cause.Recalled, false) ∷ Some (cause.Withdrawn, false) ∷ None ∷ None ∷ []
alarm-others = refl

-- which own statuses may follow each, in the order of the list
abbrev owns : List OwnStatus
owns = own.Active ∷ own.Held ∷ own.Supplied ∷ own.Exported ∷ own.Sampled ∷ own.Destroyed ∷ own.Stolen ∷ []

followers : map (λ o. filter (may_become o) owns) owns ≡ (own.Held ∷ own.Supplied ∷ own.Exported ∷ own.Sampled ∷ own.Destroyed ∷ own.Stolen ∷ []) ∷ (own.Active ∷ own.Supplied ∷ own.Stolen ∷ []) ∷ (own.Stolen ∷ []) ∷ (own.Active ∷ own.Stolen ∷ []) ∷ (own.Active ∷ own.Stolen ∷ []) ∷ (own.Stolen ∷ []) ∷ [] ∷ []
followers = refl

-- a recall and a withdrawal ask for a lock, a verification and a decommissioning whether the pack is authentic
asks-recall : AsksLock first.code batch (OfBatch Recall first.code batch)
asks-recall = inl refl

asks-withdrawal : AsksLock first.code batch (OfBatch Withdraw first.code batch)
asks-withdrawal = inr refl

asks-verification : AsksAuthenticity first (OfPack Verify first)
asks-verification = inl refl

asks-decommissioning : (w : Reason) → AsksAuthenticity first (OfPack (Decommission w) first)
asks-decommissioning w = inr (w, refl)

-- of two packs of a batch one circulates
abbrev second : Pack
second = record { code = first.code; serial = text (codes "SN2") }

circulating-batch : circulating (upload ∷ entry (Upload second batch (text (codes "280200"))) reply.Uploaded ∷ hold ∷ []) first.code batch ≡ 1
circulating-batch = refl

circulating-trail : circulating (upload ∷ hold ∷ revert ∷ []) first.code batch ≡ 1
circulating-trail = refl
