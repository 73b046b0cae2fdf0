-- Trails: the replies to questions one after the other, what the tables say of them, questions that are asked again with their tag,
-- and values printed on a pack.
use Rattle.std.proofs.Common.{◌≡◌, ℕ, zero, suc, ◌+◌, ◌-◌, ◌*◌, true, false, List, [], ◌∷◌, ◌++◌, Option, Some, None, refl}
use Rattle.std.specs.Prelude.{codes, length, map, replicate}
use Rattle.std.specs.List.{range_with_len}
use Rattle.jiff_core.specs.Calendar.{days_from_civil, day_count, days_of_years, days_of_months}
use Rattle.nmvs_identifier.specs.Texts.{Text}
use Rattle.nmvs_identifier.specs.declared.pack.Pack.{Pack}
use Rattle.nmvs_rules.specs.declared.actor.Actor.{Actor}
use Rattle.nmvs_rules.specs.declared.role.Role.{Role}
use Rattle.nmvs_rules.specs.declared.role.Role.TheVariants as role
use Rattle.nmvs_rules.specs.declared.reason.Reason.TheVariants as reason
use Rattle.nmvs_rules.specs.declared.question.Question.{Question}
use Rattle.nmvs_rules.specs.declared.question.Question.TheVariants.{Upload, OfPack, OfBatch}
use Rattle.nmvs_rules.specs.declared.pack_question.PackQuestion.TheVariants.{Verify, Status, Decommission, Revert, Theft, Audit}
use Rattle.nmvs_rules.specs.declared.batch_question.BatchQuestion.TheVariants.{Recall, Withdraw}
use Rattle.nmvs_rules.specs.declared.reply.Reply.{Reply}
use Rattle.nmvs_rules.specs.declared.reply.Reply.TheVariants as reply
use Rattle.nmvs_rules.specs.declared.refusal.Refusal.{Refusal}
use Rattle.nmvs_rules.specs.declared.refusal.Refusal.TheVariants as refusal
use Rattle.nmvs_rules.specs.declared.cause.Cause.TheVariants as cause
use Rattle.nmvs_rules.specs.declared.onward.Onward.TheVariants as onward
use Rattle.nmvs_rules.specs.declared.own_status.OwnStatus.{OwnStatus}
use Rattle.nmvs_rules.specs.declared.own_status.OwnStatus.TheVariants as own
use Rattle.nmvs_rules.specs.declared.batch_lock.BatchLock.{BatchLock}
use Rattle.nmvs_rules.specs.declared.batch_lock.BatchLock.TheVariants as lock
use Rattle.nmvs_rules.specs.declared.entry.Entry.{Entry}
use Rattle.nmvs_rules.specs.declared.facts.BatchRecord.{BatchRecord}
use Rattle.nmvs_rules.specs.declared.printed.Printed.{Printed}
use Rattle.nmvs_rules.specs.declared.put.Put.{Put}
use Rattle.nmvs_rules.specs.declared.repeat.Repeat.{Repeat}
use Rattle.nmvs_rules.specs.declared.repeat.Repeat.TheVariants as repeat
use Rattle.nmvs_rules.specs.Printed.{is_withheld}
use Rattle.nmvs_rules.specs.Repeats.{answer_of, repeat_of}
use Rattle.nmvs_rules.specs.Rules.{reply_of, shown_of, answered}
use Rattle.nmvs_rules.specs.Trail.{alerts_of, batch_record, holder_of}
use Rattle.nmvs_tables.specs.Batches.{batches_of}
use Rattle.nmvs_tables.specs.Codes.{flagged_alerts_of}
use Rattle.nmvs_tables.specs.Packs.{pack_record}
use Rattle.nmvs_tables.specs.declared.packs.PackRecord.{PackRecord}
use Rattle.nmvs_tests.proofs.Gives.{Gives}

abbrev text : List ℕ → Text
text t = record { bytes = t }

abbrev code : Text
code = text (codes "09506000134352")

abbrev pack : List ℕ → Pack
pack serial = record { code = code; serial = text serial }

abbrev sn1 : Pack
sn1 = pack (codes "SN1")

abbrev batch : Text
batch = text (codes "B1")

abbrev expiry : Text
expiry = text (codes "280200")

-- a user, with its role, authorisation and premises
abbrev User : Type 0
User = List ℕ × Actor

abbrev user : List ℕ → Role → List ℕ → List ℕ → User
user name r a p = (name, record { role = r; authorisation = text a; premises = text p })

abbrev mah1 : User
mah1 = user (codes "mah1") role.Holder (codes "MAH-1") (codes "HQ")

abbrev mah2 : User
mah2 = user (codes "mah2") role.Holder (codes "MAH-2") (codes "HQ2")

abbrev ph1 : User
ph1 = user (codes "ph1") role.Pharmacy (codes "PH-1") (codes "P1")

abbrev ph1b : User
ph1b = user (codes "ph1b") role.Pharmacy (codes "PH-1") (codes "P1")

-- other premises of the same authorisation
abbrev ph2 : User
ph2 = user (codes "ph2") role.Pharmacy (codes "PH-1") (codes "P2")

abbrev wh1 : User
wh1 = user (codes "wh1") role.Wholesaler (codes "WH-1") (codes "W1")

abbrev au1 : User
au1 = user (codes "au1") role.Authority (codes "AU-1") (codes "A1")

-- 1 January 2026, 00:00:00 UTC
abbrev new_year : ℕ
new_year = 1_767_225_600

abbrev day : ℕ
day = 86_400

abbrev put : ℕ → User → Question → Put
put moment u q = record { moment = moment; user = text u.0; actor = u.1; question = q; tag = None }

-- a trail after one more question and its reply
abbrev after : List Entry → Put → List Entry
after t q = t ++ answered q (reply_of t q) ∷ []

-- ---- rows: who asks what, at the new year or some days later, and the reply on all rows before

abbrev Row : Type 0
Row = ℕ × User × Question × Reply

abbrev put_of : Row → Put
put_of row = put (new_year + row.0 * day) row.1 row.2

abbrev trail_from : List Entry → List Row → List Entry
trail_from t [] = t
trail_from t (row ∷ rows) = trail_from (after t (put_of row)) rows

abbrev trail : List Row → List Entry
trail rows = trail_from [] rows

abbrev replies_from : List Entry → List Row → List Reply
replies_from t [] = []
replies_from t (row ∷ rows) = reply_of t (put_of row) ∷ replies_from (after t (put_of row)) rows

abbrev AreAnswered : List Row → Type 0
AreAnswered rows = replies_from [] rows ≡ map (λ row. row.3) rows

abbrev uploaded : Row
uploaded = (0, mah1, Upload sn1 batch expiry, reply.Uploaded)

abbrev uploads : List ℕ → Row
uploads serial = (0, mah1, Upload (pack serial) batch expiry, reply.Uploaded)

abbrev held : Row
held = (0, ph1, OfPack (Decommission reason.Hold) sn1, reply.Decommissioned)

abbrev refused : Refusal → Reply
refused r = reply.Refused r

abbrev unknown_pack : List Row
unknown_pack =
    (0, ph1, OfPack Verify sn1, reply.Alert cause.Unknown true 1)
    ∷ (0, ph1, OfPack Verify sn1, reply.Alert cause.Unknown true 2)
    ∷ (0, ph1, OfPack Status sn1, reply.NoPack)
    ∷ []

unknown-answered : AreAnswered unknown_pack
unknown-answered = refl

-- the tables keep the alerts on an unknown pack, all flagged
unknown-record : pack_record (trail unknown_pack) sn1 ≡ Some (record { about = 3; known = None })
unknown-record = refl

abbrev alerts_and_flagged : List Entry → ℕ × ℕ
alerts_and_flagged t = (alerts_of t code, flagged_alerts_of t code)

unknown-alerts : Gives alerts_and_flagged ((trail unknown_pack, (2, 2)) ∷ [])
unknown-alerts = refl

unknown-holder : holder_of (trail unknown_pack) code ≡ None
unknown-holder = refl

unknown-batches : batches_of (trail unknown_pack) ≡ []
unknown-batches = refl

uploaded-again : AreAnswered (
    uploaded
    ∷ (0, mah1, Upload sn1 batch expiry, refused refusal.Duplicate)
    ∷ (0, mah2, Upload sn1 batch expiry, refused refusal.NotHolder)
    ∷ (0, ph1, Upload sn1 batch expiry, refused refusal.Role)
    ∷ [])
uploaded-again = refl

supplied-again : AreAnswered (
    uploaded
    ∷ (0, wh1, OfPack (Decommission reason.Supply) sn1, refused refusal.Role)
    ∷ (0, ph1, OfPack (Decommission reason.Supply) sn1, reply.Decommissioned)
    ∷ (0, ph1, OfPack (Decommission reason.Supply) sn1, reply.Alert cause.Supplied true 1)
    ∷ (0, ph1, OfPack Revert sn1, refused refusal.WasSupplied)
    ∷ [])
supplied-again = refl

-- a record of the pack, with the mark of this user at this place, this many days after the new year
abbrev record_with : ℕ → OwnStatus → User → ℕ → ℕ → Option PackRecord
record_with about o u place days = Some (record {
  about = about;
  known = Some (record {
    batch = batch;
    expiry = expiry;
    own = o;
    mark = record { place = place; moment = new_year + days * day; authorisation = u.1.authorisation; premises = u.1.premises };
  });
})

abbrev batch_with : BatchLock → ℕ → ℕ → ℕ → Option BatchRecord
batch_with l active held stolen = Some (record {
  lock = l;
  counts = record { active = active; held = held; supplied = 0; exported = 0; sampled = 0; destroyed = 0; stolen = stolen };
})

-- a reversion on the tenth day makes the pack active
abbrev on_day_ten : List Row
on_day_ten = uploaded ∷ held ∷ (10, ph1b, OfPack Revert sn1, reply.Reverted) ∷ (10, ph1b, OfPack Revert sn1, refused refusal.StillActive) ∷ []

day-ten-answered : AreAnswered on_day_ten
unfolding days_from_civil day_count days_of_years days_of_months
day-ten-answered = refl

day-ten-record : pack_record (trail on_day_ten) sn1 ≡ record_with 4 own.Active ph1 2 10
unfolding days_from_civil day_count days_of_years days_of_months
day-ten-record = refl

day-ten-batch : batch_record (trail on_day_ten) code batch ≡ batch_with lock.Free 1 0 0
unfolding days_from_civil day_count days_of_years days_of_months
day-ten-batch = refl

day-eleven-answered : AreAnswered (uploaded ∷ held ∷ (11, ph1b, OfPack Revert sn1, refused refusal.Late) ∷ [])
day-eleven-answered = refl

-- late comes before expired, and other premises before both; this pack expires on 5 January 2026
abbrev sn8 : Pack
sn8 = pack (codes "SN8")

other-late-or-expired : AreAnswered (
    (0, mah1, Upload sn8 (text (codes "B8")) (text (codes "260105")), reply.Uploaded)
    ∷ (0, ph1, OfPack (Decommission reason.Hold) sn8, reply.Decommissioned)
    ∷ (11, ph2, OfPack Revert sn8, refused refusal.Other)
    ∷ (6, ph1, OfPack Revert sn8, refused refusal.Expired)
    ∷ (4, ph1, OfPack Revert sn8, reply.Reverted)
    ∷ [])
unfolding days_from_civil day_count days_of_years days_of_months
other-late-or-expired = refl

-- a recall binds a held pack
abbrev recalled_while_held : List Row
recalled_while_held =
    uploaded
    ∷ held
    ∷ (0, mah1, OfBatch Recall code batch, reply.LockedNow 0)
    ∷ (0, ph1, OfPack Revert sn1, refused refusal.Locked)
    ∷ (0, ph1, OfPack Verify sn1, reply.Alert cause.Recalled false 1)
    ∷ (0, au1, OfPack Status sn1, reply.StatusIs own.Held lock.Recalled onward.Disposal batch expiry)
    ∷ []

recalled-answered : AreAnswered recalled_while_held
recalled-answered = refl

recalled-record : pack_record (trail recalled_while_held) sn1 ≡ record_with 5 own.Held ph1 1 0
recalled-record = refl

recalled-batch : batch_record (trail recalled_while_held) code batch ≡ batch_with lock.Recalled 0 1 0
recalled-batch = refl

recalled-alerts : Gives alerts_and_flagged ((trail recalled_while_held, (1, 0)) ∷ [])
recalled-alerts = refl

-- and packs that are uploaded later
uploaded-after-a-recall : AreAnswered (
    uploaded
    ∷ (0, mah1, OfBatch Recall code (text (codes "B9")), refused refusal.UnknownBatch)
    ∷ (0, mah1, OfBatch Recall code batch, reply.LockedNow 1)
    ∷ uploads (codes "SN2")
    ∷ (0, ph1, OfPack Verify (pack (codes "SN2")), reply.Alert cause.Recalled false 1)
    ∷ (0, mah1, OfBatch Recall code batch, refused refusal.Already)
    ∷ (0, mah1, OfBatch Withdraw code batch, refused refusal.Already)
    ∷ (0, mah2, OfBatch Recall code batch, refused refusal.NotHolder)
    ∷ [])
uploaded-after-a-recall = refl

recall-of-three : AreAnswered (
    uploaded
    ∷ uploads (codes "SN2")
    ∷ uploads (codes "SN3")
    ∷ (0, ph1, OfPack (Decommission reason.Supply) sn1, reply.Decommissioned)
    ∷ (0, mah1, OfPack Theft (pack (codes "SN2")), reply.MarkedStolen)
    ∷ (0, mah1, OfBatch Recall code batch, reply.LockedNow 1)
    ∷ [])
recall-of-three = refl

-- a destroyed pack is stolen
abbrev destroyed_then_stolen : List Row
destroyed_then_stolen =
    uploaded
    ∷ (0, wh1, OfPack (Decommission reason.Destroy) sn1, reply.Decommissioned)
    ∷ (0, wh1, OfPack Verify sn1, reply.Alert cause.Destroyed false 1)
    ∷ (0, wh1, OfPack Revert sn1, refused refusal.IsDestroyed)
    ∷ (0, mah1, OfPack Theft sn1, reply.MarkedStolen)
    ∷ (0, wh1, OfPack Verify sn1, reply.Alert cause.Stolen true 2)
    ∷ (0, mah1, OfPack Theft sn1, refused refusal.Already)
    ∷ (0, wh1, OfPack Revert sn1, refused refusal.IsStolen)
    ∷ []

stolen-answered : AreAnswered destroyed_then_stolen
stolen-answered = refl

stolen-record : pack_record (trail destroyed_then_stolen) sn1 ≡ record_with 8 own.Stolen mah1 4 0
stolen-record = refl

stolen-alerts : Gives alerts_and_flagged ((trail destroyed_then_stolen, (2, 1)) ∷ [])
stolen-alerts = refl

stolen-batches : batches_of (trail destroyed_then_stolen) ≡ record { code = code; batch = batch } ∷ []
stolen-batches = refl

stolen-batch : batch_record (trail destroyed_then_stolen) code batch ≡ batch_with lock.Free 0 0 1
stolen-batch = refl

-- the clock was set back by 20 days
reverted-before : reply_of (trail (uploaded ∷ held ∷ [])) (put (new_year - 20 * day) ph1 (OfPack Revert sn1)) ≡ reply.Reverted
unfolding days_from_civil day_count days_of_years days_of_months
reverted-before = refl

audited : AreAnswered (
    uploaded
    ∷ (0, ph1, OfPack Verify sn1, reply.Authentic batch expiry false)
    ∷ held
    ∷ (0, ph1b, OfPack Revert sn1, reply.Reverted)
    ∷ (0, au1, OfPack Audit sn1, reply.Shown 4)
    ∷ (0, au1, OfPack Audit sn1, reply.Shown 5)
    ∷ (0, ph1, OfPack Audit sn1, refused refusal.Role)
    ∷ (0, au1, OfPack Audit (pack (codes "SN9")), reply.Shown 0)
    ∷ [])
unfolding days_from_civil day_count days_of_years days_of_months
audited = refl

withdrawn-after-a-sample : AreAnswered (
    uploaded
    ∷ (0, wh1, OfPack (Decommission reason.Sample) sn1, reply.Decommissioned)
    ∷ (0, wh1, OfPack Status sn1, reply.StatusIs own.Sampled lock.Free onward.Authorities batch expiry)
    ∷ (0, mah1, OfBatch Withdraw code batch, reply.LockedNow 0)
    ∷ (0, wh1, OfPack Verify sn1, reply.Alert cause.Withdrawn false 1)
    ∷ [])
withdrawn-after-a-sample = refl

-- ---- questions that are asked again with their tag

abbrev tagged : List ℕ → User → Question → Put
tagged tag u q = record { moment = new_year; user = text u.0; actor = u.1; question = q; tag = Some (text tag) }

abbrev at : ℕ → Put → Put
at moment q = record { moment = moment; user = q.user; actor = q.actor; question = q.question; tag = q.tag }

abbrev one : List Entry
one = trail (uploaded ∷ [])

abbrev supply : Put
supply = tagged (codes "a17") ph1 (OfPack (Decommission reason.Supply) sn1)

abbrev supplied : List Entry
supplied = after one supply

abbrev the_supply : Repeat
the_supply = repeat.Same 1 reply.Decommissioned

-- a supply is carried out once: its entry answers it for a day
supply-new : answer_of one supply ≡ Some reply.Decommissioned
supply-new = refl

supply-again : Gives (λ moment. repeat_of supplied (at moment supply)) (
    (new_year, the_supply)
    ∷ (new_year + day, the_supply)
    ∷ (new_year + day + 1, repeat.New)
    ∷ [])
supply-again = refl

-- a day has two sides: the clock may be set back
supply-before : Gives (λ moment. repeat_of (after one (at (new_year + day + 1) supply)) (at moment supply)) (
    (new_year + 1, the_supply)
    ∷ (new_year, repeat.New)
    ∷ [])
supply-before = refl

-- a verification that was answered Authentic is put anew; after a supply or a recall a late copy raises no alert
abbrev verify : List ℕ → Put
verify tag = tagged tag ph1 (OfPack Verify sn1)

abbrev verified : List Entry
verified = after one (verify (codes "a17"))

verify-anew : Gives (repeat_of verified) ((verify (codes "a17"), repeat.New) ∷ [])
unfolding days_from_civil day_count days_of_years days_of_months
verify-anew = refl

verify-anew-reply : answer_of verified (verify (codes "a17")) ≡ Some (reply.Authentic batch expiry false)
unfolding days_from_civil day_count days_of_years days_of_months
verify-anew-reply = refl

abbrev then_supplied : List Entry
then_supplied = after (after verified (verify (codes "a17"))) (put new_year ph1 (OfPack (Decommission reason.Supply) sn1))

abbrev alert : ℕ → Reply
alert n = reply.Alert cause.Supplied true n

late-copy : repeat_of then_supplied (verify (codes "a17")) ≡ repeat.New
unfolding days_from_civil day_count days_of_years days_of_months
late-copy = refl

late-copies : Gives (answer_of then_supplied) (
    (verify (codes "a17"), None)
    ∷ (verify (codes "a18"), Some (alert 1))
    ∷ [])
unfolding days_from_civil day_count days_of_years days_of_months
late-copies = refl

-- a day later it is a new question
next-day : answer_of (after then_supplied (verify (codes "a18"))) (at (new_year + day + 1) (verify (codes "a17"))) ≡ Some (alert 2)
unfolding days_from_civil day_count days_of_years days_of_months
next-day = refl

abbrev recall : Put
recall = put new_year mah1 (OfBatch Recall code batch)

abbrev recalled_alert : Reply
recalled_alert = reply.Alert cause.Recalled false 1

after-recall : Gives (answer_of (after verified recall)) (
    (verify (codes "a17"), None)
    ∷ (verify (codes "a18"), Some recalled_alert)
    ∷ [])
unfolding days_from_civil day_count days_of_years days_of_months
after-recall = refl

-- an alert is answered again
alert-again : repeat_of (after (after verified recall) (verify (codes "a18"))) (verify (codes "a18")) ≡ repeat.Same 3 recalled_alert
unfolding days_from_civil day_count days_of_years days_of_months
alert-again = refl

-- a tag is its user's own
tags-own : Gives (repeat_of verified) (
    (put new_year ph1 (OfPack Verify sn1), repeat.New)
    ∷ (verify (codes "a18"), repeat.New)
    ∷ (tagged (codes "a17") ph1b (OfPack Verify sn1), repeat.New)
    ∷ (tagged (codes "a17") ph1 (OfPack Status sn1), repeat.Other)
    ∷ [])
unfolding days_from_civil day_count days_of_years days_of_months
tags-own = refl

-- a tag is looked for among the last 16 entries about the pack, and those about other packs do not count
abbrev status : List ℕ → Put
status serial = put new_year ph1 (OfPack Status (pack serial))

abbrev states : ℕ → List Entry
states zero = supplied
states (suc n) = after (after (states n) (status (codes "SN1"))) (status (codes "SN2"))

among-sixteen : map (λ n. repeat_of (states n) supply) (range_with_len 1 15) ≡ replicate 15 the_supply
among-sixteen = refl

not-among-sixteen : repeat_of (after (states 15) (status (codes "SN1"))) supply ≡ repeat.New
not-among-sixteen = refl

-- a recall is always new
abbrev tagged_recall : Put
tagged_recall = tagged (codes "a17") mah1 (OfBatch Recall code batch)

recall-new : answer_of one tagged_recall ≡ Some (reply.LockedNow 1)
recall-new = refl

recall-again : repeat_of (after one tagged_recall) tagged_recall ≡ repeat.New
recall-again = refl

-- an audit is shown anew; one that was refused is answered again, and shows nothing
abbrev audit : User → Put
audit u = tagged (codes "a17") u (OfPack Audit sn1)

abbrev audits : List Entry
audits = after (after one (audit au1)) (status (codes "SN1"))

audit-shows : length (shown_of one (audit au1)) ≡ 1
audit-shows = refl

audit-anew : repeat_of audits (audit au1) ≡ repeat.New
audit-anew = refl

audit-shows-anew : length (shown_of audits (audit au1)) ≡ 3
audit-shows-anew = refl

abbrev with_refused : List Entry
with_refused = after (after audits (audit au1)) (audit ph1)

audit-refused : shown_of (after audits (audit au1)) (audit ph1) ≡ []
audit-refused = refl

audit-refused-again : repeat_of with_refused (audit ph1) ≡ repeat.Same 4 (refused refusal.Role)
audit-refused-again = refl

-- ---- values printed on a pack

abbrev printed : List ℕ → List ℕ → Option Printed
printed b x = Some (record { batch = text b; expiry = text x })

-- other values than those of the upload hold a supply back
supply-withheld : Gives (is_withheld one supply) (
    (printed (codes "B2") (codes "280200"), true)
    ∷ (printed (codes "B1") (codes "280229"), true)
    ∷ (printed (codes "b1") (codes "280200"), true)
    ∷ (printed (codes "B1") (codes "280200"), false)
    ∷ [])
supply-withheld = refl

-- an alert is given whatever is printed, on an unknown pack and on a supplied one
abbrev unknown : Put
unknown = tagged (codes "a17") ph1 (OfPack (Decommission reason.Supply) (pack (codes "SN2")))

unknown-withheld : is_withheld [] unknown (printed (codes "B2") (codes "280200")) ≡ false
unknown-withheld = refl

unknown-alert : reply_of [] unknown ≡ reply.Alert cause.Unknown true 1
unknown-alert = refl

abbrev supplied_elsewhere : List Entry
supplied_elsewhere = after one (put new_year ph2 (OfPack (Decommission reason.Supply) sn1))

copy-withheld : is_withheld supplied_elsewhere (put new_year ph1 (OfPack Verify sn1)) (printed (codes "B1") (codes "280229")) ≡ false
copy-withheld = refl

copy-alert : reply_of supplied_elsewhere (put new_year ph1 (OfPack Verify sn1)) ≡ alert 1
copy-alert = refl

-- and so is a refusal
refusal-withheld : is_withheld one (put new_year ph1 (OfPack Revert sn1)) (printed (codes "B2") (codes "280200")) ≡ false
refusal-withheld = refl

refusal-reply : reply_of one (put new_year ph1 (OfPack Revert sn1)) ≡ refused refusal.StillActive
refusal-reply = refl
