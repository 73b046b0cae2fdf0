-- A worked example, computed from the definitions: a pharmacy holds a pack for supply, and its batch is recalled. Then
-- the same pack on other days.
use Rattle.std.proofs.Common.{◌≡◌, ℕ, ◌+◌, ◌*◌, true, false, List, [], ◌∷◌, ◌++◌, Option, Some, None, refl, ap}
use Rattle.std.specs.Prelude.{codes, pos, int_lt, if◌then◌else◌}
use Rattle.nmvs_identifier.specs.Texts.{Text}
use Rattle.nmvs_identifier.proofs.ExpiryDays.{day-280200}
use Rattle.nmvs_identifier.specs.declared.pack.Pack.{Pack}
use Rattle.nmvs_rules.specs.declared.actor.Actor.{Actor}
use Rattle.nmvs_rules.specs.declared.role.Role.TheVariants as role
use Rattle.nmvs_rules.specs.declared.reason.Reason.TheVariants as reason
use Rattle.nmvs_rules.specs.declared.question.Question.{Question}
use Rattle.nmvs_rules.specs.declared.question.Question.TheVariants.{Upload, OfPack, OfBatch}
use Rattle.nmvs_rules.specs.declared.pack_question.PackQuestion.TheVariants.{Verify, Status, Decommission, Handover, Revert, Audit}
use Rattle.nmvs_rules.specs.declared.batch_question.BatchQuestion.TheVariants.{Recall}
use Rattle.nmvs_rules.specs.declared.reply.Reply.TheVariants as reply
use Rattle.nmvs_rules.specs.declared.refusal.Refusal.TheVariants as refusal
use Rattle.nmvs_rules.specs.declared.cause.Cause.TheVariants as cause
use Rattle.nmvs_rules.specs.declared.onward.Onward.TheVariants as onward
use Rattle.nmvs_rules.specs.declared.own_status.OwnStatus.{OwnStatus}
use Rattle.nmvs_rules.specs.declared.own_status.OwnStatus.TheVariants as own
use Rattle.nmvs_rules.specs.declared.batch_lock.BatchLock.{BatchLock}
use Rattle.nmvs_rules.specs.declared.batch_lock.BatchLock.TheVariants as lock
use Rattle.nmvs_rules.specs.declared.entry.Entry.{Entry}
use Rattle.nmvs_rules.specs.declared.facts.Known.{Known}
use Rattle.nmvs_rules.specs.declared.facts.BatchRecord.{BatchRecord}
use Rattle.nmvs_rules.specs.declared.put.Put.{Put}
use Rattle.nmvs_rules.specs.Trail.{known, lock_of, holder_of, alerts_of, about_of, batch_record}
use Rattle.nmvs_rules.specs.Rules.{reply_of, shown_of, answered, IsLawful}
use Rattle.nmvs_rules.specs.Facts.{facts_of}
use Rattle.nmvs_rules.specs.before_handover.Rules as before_handover

abbrev text : List ℕ → Text
text s = record { bytes = s }

-- the GS1 example of a GTIN-14, a serial number, a batch, and the last day of February 2028
abbrev code : Text
code = text (codes "09506000134352")

abbrev pack : Pack
pack = record { code = code; serial = text (codes "SN1") }

abbrev batch : Text
batch = text (codes "B1")

abbrev expiry : Text
expiry = text (codes "280200")

abbrev holder : Actor
holder = record { role = role.Holder; authorisation = text (codes "MAH-1"); premises = text (codes "HQ") }

abbrev pharmacy : Actor
pharmacy = record { role = role.Pharmacy; authorisation = text (codes "PH-1"); premises = text (codes "P1") }

abbrev authority : Actor
authority = record { role = role.Authority; authorisation = text (codes "AU-1"); premises = text (codes "A1") }

-- 1 January 2026, 00:00:00 UTC
abbrev new_year : ℕ
new_year = 1_767_225_600

abbrev put : List ℕ → Actor → Question → Put
put user a q = record { moment = new_year; user = text user; actor = a; question = q; tag = None }

-- a trail after one more question and its reply
abbrev after : List Entry → Put → List Entry
after t q = t ++ answered q (reply_of t q) ∷ []

-- the values known of the pack after a mark of this actor at this place gave it an own status
abbrev known_as : OwnStatus → ℕ → Actor → Option Known
known_as s place a = Some (record {
  batch = batch;
  expiry = expiry;
  own = s;
  mark = record { place = place; moment = new_year; authorisation = a.authorisation; premises = a.premises };
})

-- the record of the batch with this lock and these numbers of active and held packs
abbrev batch_with : BatchLock → ℕ → ℕ → Option BatchRecord
batch_with l active held = Some (record {
  lock = l;
  counts = record { active = active; held = held; supplied = 0; exported = 0; sampled = 0; destroyed = 0; stolen = 0 };
})

-- the holder uploads the pack: it is active, and the holder is that of its product code
abbrev upload : Put
upload = put (codes "mah1") holder (Upload pack batch expiry)

abbrev uploaded : List Entry
uploaded = after [] upload

upload-reply : reply_of [] upload ≡ reply.Uploaded
upload-reply = refl

known-uploaded : known uploaded pack ≡ known_as own.Active 0 holder
known-uploaded = refl

holder-uploaded : holder_of uploaded code ≡ Some holder.authorisation
holder-uploaded = refl

batch-uploaded : batch_record uploaded code batch ≡ batch_with lock.Free 1 0
batch-uploaded = refl

-- a pharmacy decommissions it, to supply it later
abbrev hold : Put
hold = put (codes "ph1") pharmacy (OfPack (Decommission reason.Hold) pack)

abbrev held : List Entry
held = after uploaded hold

hold-reply : reply_of uploaded hold ≡ reply.Decommissioned
hold-reply = refl

known-held : known held pack ≡ known_as own.Held 1 pharmacy
known-held = refl

batch-held : batch_record held code batch ≡ batch_with lock.Free 0 1
batch-held = refl

-- the holder recalls the batch, of which no pack is active; the pack's own status stays
abbrev recall : Put
recall = put (codes "mah1") holder (OfBatch Recall code batch)

abbrev recalled : List Entry
recalled = after held recall

recall-reply : reply_of held recall ≡ reply.LockedNow 0
recall-reply = refl

lock-recalled : lock_of recalled code batch ≡ lock.Recalled
lock-recalled = refl

known-recalled : known recalled pack ≡ known_as own.Held 1 pharmacy
known-recalled = refl

about-recalled : about_of recalled pack ≡ 2
about-recalled = refl

-- the pharmacy may not revert it now: a refusal is recorded and changes nothing else
abbrev revert : Put
revert = put (codes "ph1") pharmacy (OfPack Revert pack)

abbrev refused : List Entry
refused = after recalled revert

revert-reply : reply_of recalled revert ≡ reply.Refused refusal.Locked
revert-reply = refl

known-refused : known refused pack ≡ known_as own.Held 1 pharmacy
known-refused = refl

about-refused : about_of refused pack ≡ 3
about-refused = refl

alerts-refused : alerts_of refused code ≡ 0
alerts-refused = refl

-- a verification alerts, and as the batch is recalled the alert is not flagged as a potential falsification
abbrev verify : Put
verify = put (codes "ph1") pharmacy (OfPack Verify pack)

abbrev verified : List Entry
verified = after refused verify

verify-reply : reply_of refused verify ≡ reply.Alert cause.Recalled false 1
verify-reply = refl

alerts-verified : alerts_of verified code ≡ 1
alerts-verified = refl

-- an authority reads the status, and no alert is counted
abbrev status : Put
status = put (codes "au1") authority (OfPack Status pack)

status-facts : facts_of verified status.question ≡ record {
  pack = known_as own.Held 1 pharmacy;
  about = 4;
  batch = batch_with lock.Recalled 0 1;
  holder = Some holder.authorisation;
  alerts = 1;
}
status-facts = refl

status-reply : reply_of verified status ≡ reply.StatusIs own.Held lock.Recalled onward.Disposal batch expiry
status-reply = refl

alerts-read : alerts_of (after verified status) code ≡ 1
alerts-read = refl

-- an audit shows it the entries about the pack, the recall of its batch not among them, and their number; it shows the
-- pharmacy none
abbrev audit : Put
audit = put (codes "au1") authority (OfPack Audit pack)

audit-reply : reply_of verified audit ≡ reply.Shown 4
audit-reply = refl

audit-shown : shown_of verified audit ≡
    answered upload reply.Uploaded ∷ answered hold reply.Decommissioned
    ∷ answered revert (reply.Refused refusal.Locked) ∷ answered verify (reply.Alert cause.Recalled false 1) ∷ []
audit-shown = refl

audit-hidden : shown_of verified (put (codes "ph1") pharmacy (OfPack Audit pack)) ≡ []
audit-hidden = refl

-- the whole trail is lawful
lawful : IsLawful (after verified status)
lawful = (refl, (refl, (refl, (refl, (refl, (refl, tt))))))

-- it was lawful as well before packs could be handed over
was-lawful : before_handover.IsLawful (after verified status)
was-lawful = (refl, (refl, (refl, (refl, (refl, (refl, tt))))))

-- the same question at another moment
abbrev at : ℕ → Put → Put
at moment q = record { moment = moment; user = q.user; actor = q.actor; question = q.question; tag = q.tag }

-- the first second of the day n days later
abbrev days_later : ℕ → ℕ
days_later n = new_year + n * 86_400

-- the expiry date is 29 February 2028, day 21,243: on the last second of that day the pack is not expired, on the next
-- one it is
verify-last_second : reply_of uploaded (at 1_835_481_599 verify) ≡ reply.Authentic batch expiry false
verify-last_second = ap (λ d. reply.Authentic batch expiry (int_lt d (pos 21_243))) day-280200

verify-next_second : reply_of uploaded (at 1_835_481_600 verify) ≡ reply.Authentic batch expiry true
verify-next_second = ap (λ d. reply.Authentic batch expiry (int_lt d (pos 21_244))) day-280200

-- an expired pack is decommissioned too
hold-expired : reply_of uploaded (at 1_835_481_600 hold) ≡ reply.Decommissioned
hold-expired = refl

-- a held pack is reverted on the tenth day and not on the eleventh; a clock that was set back does no harm
revert-day_ten : reply_of held (at (days_later 10) revert) ≡ reply.Reverted
revert-day_ten = ap (λ d. if int_lt d (pos 20_464) then reply.Refused refusal.Expired else reply.Reverted) day-280200

revert-day_eleven : reply_of held (at (days_later 11) revert) ≡ reply.Refused refusal.Late
revert-day_eleven = refl

revert-day_before : reply_of held (at 1_765_497_600 revert) ≡ reply.Reverted
revert-day_before = ap (λ d. if int_lt d (pos 20_434) then reply.Refused refusal.Expired else reply.Reverted) day-280200

-- other premises of the same authorisation get this refusal before the days are counted
abbrev other_premises : Actor
other_premises = record pharmacy { premises = text (codes "P2") }

revert-elsewhere : reply_of held (at (days_later 11) (put (codes "ph2") other_premises (OfPack Revert pack))) ≡ reply.Refused refusal.Other
revert-elsewhere = refl

-- the pharmacy hands the held pack over, also once it is expired: the pack is supplied from then on
abbrev handover : Put
handover = put (codes "ph1") pharmacy (OfPack Handover pack)

abbrev handed_over : List Entry
handed_over = after held handover

handover-reply : reply_of held handover ≡ reply.HandedOver
handover-reply = refl

handover-expired : reply_of held (at 1_835_481_600 handover) ≡ reply.HandedOver
handover-expired = refl

known-handed_over : known handed_over pack ≡ known_as own.Supplied 2 pharmacy
known-handed_over = refl

revert-handed_over : reply_of handed_over revert ≡ reply.Refused refusal.WasSupplied
revert-handed_over = refl

verify-handed_over : reply_of handed_over verify ≡ reply.Alert cause.Supplied true 1
verify-handed_over = refl

-- it hands over nothing but a pack that is held there, whose batch is neither recalled nor withdrawn
handover-unknown : reply_of [] handover ≡ reply.Refused refusal.Unknown
handover-unknown = refl

handover-uploaded : reply_of uploaded handover ≡ reply.Refused refusal.NotHeld
handover-uploaded = refl

handover-twice : reply_of handed_over handover ≡ reply.Refused refusal.NotHeld
handover-twice = refl

handover-recalled : reply_of recalled handover ≡ reply.Refused refusal.Locked
handover-recalled = refl

handover-elsewhere : reply_of held (put (codes "ph2") other_premises (OfPack Handover pack)) ≡ reply.Refused refusal.Other
handover-elsewhere = refl

-- before, handovers were questions that nobody might ask
handover-before : before_handover.reply_of held handover ≡ reply.Refused refusal.Role
handover-before = refl
