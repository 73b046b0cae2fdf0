-- Who may ask what, and the reply to each question by made-up facts.
use Rattle.std.proofs.Common.{◌≡◌, ℕ, ◌+◌, ◌-◌, ◌*◌, Bool, true, false, List, [], ◌∷◌, Some, None, refl}
use Rattle.std.specs.Prelude.{codes, map}
use Rattle.jiff_core.specs.Calendar.{days_from_civil, day_count, days_of_years, days_of_months}
use Rattle.nmvs_identifier.specs.Texts.{Text}
use Rattle.nmvs_identifier.specs.declared.pack.Pack.{Pack}
use Rattle.nmvs_rules.specs.declared.actor.Actor.{Actor}
use Rattle.nmvs_rules.specs.declared.role.Role.{Role}
use Rattle.nmvs_rules.specs.declared.role.Role.TheVariants as role
use Rattle.nmvs_rules.specs.declared.reason.Reason.TheVariants as reason
use Rattle.nmvs_rules.specs.declared.question.Question.{Question}
use Rattle.nmvs_rules.specs.declared.question.Question.TheVariants.{Upload, OfPack, OfBatch}
use Rattle.nmvs_rules.specs.declared.pack_question.PackQuestion.TheVariants.{Verify, Status, Decommission, Handover, Revert, Theft, Audit}
use Rattle.nmvs_rules.specs.declared.batch_question.BatchQuestion.TheVariants.{Recall, Withdraw}
use Rattle.nmvs_rules.specs.declared.reply.Reply.{Reply}
use Rattle.nmvs_rules.specs.declared.reply.Reply.TheVariants as reply
use Rattle.nmvs_rules.specs.declared.refusal.Refusal.{Refusal}
use Rattle.nmvs_rules.specs.declared.refusal.Refusal.TheVariants as refusal
use Rattle.nmvs_rules.specs.declared.cause.Cause.TheVariants as cause
use Rattle.nmvs_rules.specs.declared.onward.Onward.TheVariants as onward
use Rattle.nmvs_rules.specs.declared.own_status.OwnStatus.{OwnStatus}
use Rattle.nmvs_rules.specs.declared.own_status.OwnStatus.TheVariants as own
use Rattle.nmvs_rules.specs.declared.batch_lock.BatchLock.{BatchLock}
use Rattle.nmvs_rules.specs.declared.batch_lock.BatchLock.TheVariants as lock
use Rattle.nmvs_rules.specs.declared.facts.Facts.{Facts}
use Rattle.nmvs_rules.specs.declared.put.Put.{Put}
use Rattle.nmvs_rules.specs.declared.entry.Entry.{Entry}
use Rattle.nmvs_rules.specs.declared.repeat.Repeat.TheVariants as repeat
use Rattle.nmvs_rules.specs.Questions.{may_ask, may_report, pack_of, code_of}
use Rattle.nmvs_rules.specs.Rules.{onward_by}
use Rattle.nmvs_rules.specs.Replies.{refusal_number}
use Rattle.nmvs_rules.specs.Facts.{reply_by_facts}
use Rattle.nmvs_rules.specs.Trail.{is_alert}
use Rattle.nmvs_rules.specs.Printed.{is_conditional}
use Rattle.nmvs_rules.specs.Repeats.{asks_same, is_by, is_in_day, beside}
use Rattle.nmvs_tests.proofs.Gives.{Gives}

abbrev text : List ℕ → Text
text s = record { bytes = s }

abbrev code : Text
code = text (codes "09506000134352")

abbrev pack : Pack
pack = record { code = code; serial = text (codes "SN1") }

abbrev batch : Text
batch = text (codes "B1")

-- the end of February 2028
abbrev expiry : Text
expiry = text (codes "280200")

abbrev upload : Question
upload = Upload pack batch expiry

abbrev actor : Role → List ℕ → List ℕ → Actor
actor r authorisation premises = record { role = r; authorisation = text authorisation; premises = text premises }

abbrev pharmacy : Actor
pharmacy = actor role.Pharmacy (codes "PH-1") (codes "P1")

-- other premises of the same authorisation
abbrev elsewhere : Actor
elsewhere = actor role.Pharmacy (codes "PH-1") (codes "P2")

abbrev holder : Actor
holder = actor role.Holder (codes "MAH-1") (codes "HQ")

abbrev authority : Actor
authority = actor role.Authority (codes "AU-1") (codes "A1")

-- who may ask: a holder, a manufacturer, a wholesaler, a pharmacy and an authority
abbrev of_each : (Role → Bool) → List Bool
of_each may = may role.Holder ∷ may role.Manufacturer ∷ may role.Wholesaler ∷ may role.Pharmacy ∷ may role.Authority ∷ []

abbrev the_holder : List Bool
the_holder = true ∷ false ∷ false ∷ false ∷ false ∷ []

abbrev the_pharmacy : List Bool
the_pharmacy = false ∷ false ∷ false ∷ true ∷ false ∷ []

abbrev the_authority : List Bool
the_authority = false ∷ false ∷ false ∷ false ∷ true ∷ []

abbrev handlers : List Bool
handlers = false ∷ true ∷ true ∷ true ∷ false ∷ []

askers : Gives (λ q. of_each (λ r. may_ask r q)) (
    (upload, the_holder)
    ∷ (OfBatch Recall code batch, the_holder)
    ∷ (OfBatch Withdraw code batch, the_holder)
    ∷ (OfPack Theft pack, the_holder)
    ∷ (OfPack Verify pack, handlers)
    ∷ (OfPack Revert pack, handlers)
    ∷ (OfPack (Decommission reason.Sample) pack, handlers)
    ∷ (OfPack (Decommission reason.Destroy) pack, handlers)
    ∷ (OfPack (Decommission reason.Export) pack, false ∷ true ∷ true ∷ false ∷ false ∷ [])
    ∷ (OfPack (Decommission reason.Hold) pack, false ∷ false ∷ true ∷ true ∷ false ∷ [])
    ∷ (OfPack (Decommission reason.Supply) pack, the_pharmacy)
    ∷ (OfPack Handover pack, the_pharmacy)
    ∷ (OfPack Status pack, true ∷ true ∷ true ∷ true ∷ true ∷ [])
    ∷ (OfPack Audit pack, the_authority)
    ∷ [])
askers = refl

reporters : of_each may_report ≡ the_authority
reporters = refl

-- a question names a code, and mostly a pack
codes-named : Gives code_of ((OfPack Verify pack, code) ∷ (OfBatch Recall code batch, code) ∷ [])
codes-named = refl

packs-named : Gives pack_of ((OfPack Verify pack, Some pack) ∷ (OfBatch Recall code batch, None) ∷ [])
packs-named = refl

-- a pack of a free batch goes on by its own status, any other one to disposal
onwards : Gives (λ o. onward_by o lock.Free) (
    (own.Active, onward.Stock)
    ∷ (own.Held, onward.Supply)
    ∷ (own.Supplied, onward.Nowhere)
    ∷ (own.Exported, onward.Export)
    ∷ (own.Sampled, onward.Authorities)
    ∷ (own.Destroyed, onward.Disposal)
    ∷ (own.Stolen, onward.Disposal)
    ∷ [])
onwards = refl

owns : List OwnStatus
owns = own.Active ∷ own.Held ∷ own.Supplied ∷ own.Exported ∷ own.Sampled ∷ own.Destroyed ∷ own.Stolen ∷ []

disposals : Gives (λ l. map (λ o. onward_by o l) owns) ((lock.Recalled, map (λ o. onward.Disposal) owns) ∷ (lock.Withdrawn, map (λ o. onward.Disposal) owns) ∷ [])
disposals = refl

refusal-numbers : Gives refusal_number (
    (refusal.Role, 1)
    ∷ (refusal.NotHolder, 4)
    ∷ (refusal.Locked, 7)
    ∷ (refusal.WasSupplied, 11)
    ∷ (refusal.Expired, 14)
    ∷ (refusal.NotHeld, 15)
    ∷ [])
refusal-numbers = refl

-- 1 January 2026, 00:00:00 UTC
abbrev new_year : ℕ
new_year = 1_767_225_600

abbrev day : ℕ
day = 86_400

-- the facts before any upload
abbrev nothing : Facts
nothing = record { pack = None; about = 0; batch = None; holder = None; alerts = 0 }

-- the facts after the upload of the pack, to which the pharmacy gave this own status at the new year
abbrev facts_with : Text → OwnStatus → BatchLock → Facts
facts_with last_day o l = record {
  pack = Some (record {
    batch = batch;
    expiry = last_day;
    own = o;
    mark = record { place = 1; moment = new_year; authorisation = pharmacy.authorisation; premises = pharmacy.premises };
  });
  about = 2;
  batch = Some (record {
    lock = l;
    counts = record { active = 1; held = 0; supplied = 0; exported = 0; sampled = 0; destroyed = 0; stolen = 0 };
  });
  holder = Some holder.authorisation;
  alerts = 0;
}

abbrev facts : OwnStatus → BatchLock → Facts
facts = facts_with expiry

-- the same for a pack that expires on 5 January 2026
abbrev short : OwnStatus → BatchLock → Facts
short = facts_with (text (codes "260105"))

-- who asks, when, and the facts
abbrev Case : Type 0
Case = Actor × ℕ × Facts

abbrev asked : Question → Case → Reply
asked q c = reply_by_facts c.2 (record { moment = c.1; user = text (codes "user-1"); actor = c.0; question = q; tag = None })

abbrev refused : Refusal → Reply
refused = reply.Refused

-- a pack expires after the last second of its last day
verifications : Gives (asked (OfPack Verify pack)) (
    ((pharmacy, 1_835_481_599, facts own.Active lock.Free), reply.Authentic batch expiry false)
    ∷ ((pharmacy, 1_835_481_600, facts own.Active lock.Free), reply.Authentic batch expiry true)
    ∷ ((pharmacy, new_year, nothing), reply.Alert cause.Unknown true 1)
    ∷ ((pharmacy, new_year, facts own.Destroyed lock.Free), reply.Alert cause.Destroyed false 1)
    ∷ ((pharmacy, new_year, facts own.Held lock.Recalled), reply.Alert cause.Recalled false 1)
    ∷ [])
unfolding days_from_civil day_count days_of_years days_of_months
verifications = refl

-- within ten days, by the same premises, if the pack is not expired; the clock may have been set back
reversions : Gives (asked (OfPack Revert pack)) (
    ((pharmacy, new_year + 10 * day, facts own.Held lock.Free), reply.Reverted)
    ∷ ((pharmacy, new_year - 20 * day, facts own.Held lock.Free), reply.Reverted)
    ∷ ((pharmacy, new_year + 11 * day, facts own.Held lock.Free), refused refusal.Late)
    ∷ ((pharmacy, new_year + 4 * day, short own.Held lock.Free), reply.Reverted)
    ∷ ((pharmacy, new_year + 6 * day, short own.Held lock.Free), refused refusal.Expired)
    ∷ ((elsewhere, new_year + 11 * day, short own.Held lock.Free), refused refusal.Other)
    ∷ ((pharmacy, new_year, facts own.Held lock.Recalled), refused refusal.Locked)
    ∷ ((pharmacy, new_year, facts own.Supplied lock.Free), refused refusal.WasSupplied)
    ∷ [])
unfolding days_from_civil day_count days_of_years days_of_months
reversions = refl

handovers : Gives (asked (OfPack Handover pack)) (
    ((pharmacy, new_year, short own.Held lock.Free), reply.HandedOver)
    ∷ ((pharmacy, new_year + 11 * day, short own.Held lock.Free), reply.HandedOver)
    ∷ ((actor role.Wholesaler (codes "PH-1") (codes "P1"), new_year, short own.Held lock.Free), refused refusal.Role)
    ∷ ((pharmacy, new_year, nothing), refused refusal.Unknown)
    ∷ ((pharmacy, new_year, facts own.Supplied lock.Recalled), refused refusal.Locked)
    ∷ ((elsewhere, new_year, short own.Held lock.Free), refused refusal.Other)
    ∷ ((actor role.Pharmacy (codes "PH-2") (codes "P1"), new_year, short own.Held lock.Free), refused refusal.Other)
    ∷ ((elsewhere, new_year, facts own.Active lock.Free), refused refusal.NotHeld)
    ∷ ((pharmacy, new_year, facts own.Supplied lock.Free), refused refusal.NotHeld)
    ∷ [])
handovers = refl

uploads : Gives (asked upload) (
    ((holder, new_year, nothing), reply.Uploaded)
    ∷ ((holder, new_year, facts own.Active lock.Free), refused refusal.Duplicate)
    ∷ ((actor role.Holder (codes "MAH-2") (codes "HQ2"), new_year, facts own.Active lock.Free), refused refusal.NotHolder)
    ∷ [])
uploads = refl

recalls : Gives (asked (OfBatch Recall code batch)) (
    ((holder, new_year, facts own.Active lock.Free), reply.LockedNow 1)
    ∷ ((holder, new_year, facts own.Active lock.Recalled), refused refusal.Already)
    ∷ ((holder, new_year, nothing), refused refusal.UnknownBatch)
    ∷ [])
recalls = refl

theft : asked (OfPack Theft pack) (holder, new_year, facts own.Destroyed lock.Free) ≡ reply.MarkedStolen
theft = refl

supplies : Gives (asked (OfPack (Decommission reason.Supply) pack)) (
    ((pharmacy, new_year, facts own.Active lock.Free), reply.Decommissioned)
    ∷ ((actor role.Wholesaler (codes "WH-1") (codes "W1"), new_year, facts own.Active lock.Free), refused refusal.Role)
    ∷ ((pharmacy, new_year, facts own.Supplied lock.Free), reply.Alert cause.Supplied true 1)
    ∷ [])
supplies = refl

statuses : Gives (asked (OfPack Status pack)) (
    ((pharmacy, new_year, nothing), reply.NoPack)
    ∷ ((authority, new_year, facts own.Held lock.Recalled), reply.StatusIs own.Held lock.Recalled onward.Disposal batch expiry)
    ∷ [])
statuses = refl

audits : Gives (asked (OfPack Audit pack)) (
    ((authority, new_year, facts own.Held lock.Recalled), reply.Shown 2)
    ∷ ((pharmacy, new_year, facts own.Held lock.Recalled), refused refusal.Role)
    ∷ [])
audits = refl

-- a verification with a tag
abbrev tagged : Put
tagged = record { moment = new_year; user = text (codes "user-1"); actor = pharmacy; question = OfPack Verify pack; tag = Some (text (codes "a17")) }

-- words and capacity are compared, and neither moment nor tag
same-asked : Gives (λ q. asks_same q tagged) (
    (record tagged { moment = new_year + day; tag = None }, true)
    ∷ (record tagged { question = OfPack Status pack }, false)
    ∷ (record tagged { actor = elsewhere }, false)
    ∷ [])
same-asked = refl

-- a tag is its user's own
by-user : Gives (λ (named : List ℕ × List ℕ). is_by (text named.0) (text named.1) tagged) (
    ((codes "user-1", codes "a17"), true)
    ∷ ((codes "user-1", codes "a18"), false)
    ∷ ((codes "user-2", codes "a17"), false)
    ∷ [])
by-user = refl

by-none : is_by tagged.user (text (codes "a17")) (record tagged { tag = None }) ≡ false
by-none = refl

abbrev first_alert : Reply
first_alert = reply.Alert cause.Unknown true 1

abbrev alerted : Entry
alerted = record { put = tagged; reply = first_alert }

-- an entry answers its question again for a day on either side
asked-again : Gives (λ q. beside q 3 alerted) (
    (tagged, repeat.Same 3 first_alert)
    ∷ (record tagged { question = OfPack Status pack }, repeat.Other)
    ∷ (record tagged { moment = new_year - day }, repeat.Same 3 first_alert)
    ∷ (record tagged { moment = new_year + day + 1 }, repeat.New)
    ∷ (record tagged { moment = new_year - day - 1 }, repeat.New)
    ∷ [])
asked-again = refl

in-day : Gives (is_in_day new_year) ((new_year - day, true) ∷ (new_year + day + 1, false) ∷ [])
in-day = refl

-- unless its reply says how a pack stands
state-again : beside tagged 3 (record alerted { reply = reply.NoPack }) ≡ repeat.New
state-again = refl

-- alerts and refusals are given whatever is printed on the pack
alerts : Gives is_alert ((first_alert, true) ∷ (refused refusal.Role, false) ∷ (reply.Decommissioned, false) ∷ [])
alerts = refl

conditionals : Gives is_conditional ((first_alert, false) ∷ (refused refusal.Role, false) ∷ (reply.Decommissioned, true) ∷ [])
conditionals = refl
