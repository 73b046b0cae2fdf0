-- The reply that the rules give to a question on a trail. The first condition on a question that fails decides; the order
-- of the conditions is own.
use Rattle.std.specs.Prelude.{ℕ, ◌+◌, ◌≡◌, pos, int_lt, nat_le, Bool, true, false, not, ◌&&◌, List, [], ◌∷◌, ◌++◌, filter, Option, Some, None, is_some, if◌then◌else◌}
use Rattle.nmvs_identifier.specs.Name.{Name}
use Rattle.nmvs_identifier.specs.Expiry.{Expiry, expiry_day}
use Rattle.nmvs_identifier.specs.Moment.{day_of}
use Rattle.nmvs_identifier.specs.declared.pack.Pack.{Pack}
use Rattle.nmvs_identifier.specs.Texts.{same_text}
use Rattle.nmvs_rules.specs.declared.actor.Actor.{Actor}
use Rattle.nmvs_rules.specs.declared.question.Question.{Question}
use Rattle.nmvs_rules.specs.declared.question.Question.TheVariants.{Upload, OfPack, OfBatch}
use Rattle.nmvs_rules.specs.declared.pack_question.PackQuestion.TheVariants.{Verify, Status, Decommission, Handover, Revert, Theft, Audit}
use Rattle.nmvs_rules.specs.declared.role.Role.{Role}
use Rattle.nmvs_rules.specs.declared.reply.Reply.{Reply}
use Rattle.nmvs_rules.specs.declared.reply.Reply.TheVariants as reply
use Rattle.nmvs_rules.specs.declared.refusal.Refusal.TheVariants as refusal
use Rattle.nmvs_rules.specs.declared.cause.Cause.{Cause}
use Rattle.nmvs_rules.specs.declared.cause.Cause.TheVariants as cause
use Rattle.nmvs_rules.specs.declared.onward.Onward.{Onward}
use Rattle.nmvs_rules.specs.declared.onward.Onward.TheVariants as onward
use Rattle.nmvs_rules.specs.declared.own_status.OwnStatus.{OwnStatus}
use Rattle.nmvs_rules.specs.declared.own_status.OwnStatus.TheVariants as own
use Rattle.nmvs_rules.specs.declared.batch_lock.BatchLock.{BatchLock}
use Rattle.nmvs_rules.specs.declared.batch_lock.BatchLock.TheVariants as lock
use Rattle.nmvs_rules.specs.declared.entry.Entry.{Entry}
use Rattle.nmvs_rules.specs.declared.facts.Mark.{Mark}
use Rattle.nmvs_rules.specs.declared.facts.Known.{Known}
use Rattle.nmvs_rules.specs.declared.put.Put.{Put}
use Rattle.nmvs_rules.specs.Limits.{reversion_days}
use Rattle.nmvs_rules.specs.Questions.{may_ask}
use Rattle.nmvs_rules.specs.Trail.{is_about, known, lock_of, holder_of, alerts_of, about_of, count_of, is_known_batch}

-- whether the expiry date is past: the day of the moment, by UTC, comes after it (Article 13(1)(c); days of UTC are
-- own)
abbrev pub is_past : Expiry → ℕ → Bool
is_past x moment = int_lt (expiry_day x.bytes) (pos (day_of moment))

-- whether the batch is neither recalled nor withdrawn (Article 40)
abbrev pub is_free : BatchLock → Bool
is_free lock.Free = true
is_free _ = false

-- whether the pack is active: neither decommissioned nor reported stolen (Article 11)
abbrev pub is_active : OwnStatus → Bool
is_active own.Active = true
is_active _ = false

-- whether the pack was decommissioned for supply and is still in possession (Article 25)
abbrev pub is_held : OwnStatus → Bool
is_held own.Held = true
is_held _ = false

-- whether the pack was decommissioned for destruction (Articles 13(1)(d), 22 and 25)
abbrev pub is_destroyed : OwnStatus → Bool
is_destroyed own.Destroyed = true
is_destroyed _ = false

-- whether the pack was reported stolen (Articles 13(1)(d) and 40)
abbrev pub is_stolen : OwnStatus → Bool
is_stolen own.Stolen = true
is_stolen _ = false

-- whether the pack was supplied to the public (Articles 13(1)(e) and 25)
abbrev pub is_supplied : OwnStatus → Bool
is_supplied own.Supplied = true
is_supplied _ = false

-- the cause why a pack of a free batch is not authentic, by its own status (after Article 36). An active one is
-- authentic and has no alert.
abbrev pub cause_by_own : OwnStatus → Cause
cause_by_own own.Active = cause.Unknown
cause_by_own own.Held = cause.Held
cause_by_own own.Supplied = cause.Supplied
cause_by_own own.Exported = cause.Exported
cause_by_own own.Sampled = cause.Sampled
cause_by_own own.Destroyed = cause.Destroyed
cause_by_own own.Stolen = cause.Stolen

-- the cause why a known pack is not authentic: its batch's lock unless that is free, else its own status (after Article 36)
abbrev pub cause_of : OwnStatus → BatchLock → Cause
cause_of o lock.Free = cause_by_own o
cause_of o lock.Recalled = cause.Recalled
cause_of o lock.Withdrawn = cause.Withdrawn

-- whether an alert on a known pack is flagged as a potential falsification (after Article 36). It is not if the pack is
-- recalled, withdrawn or decommissioned for destruction.
abbrev pub is_flagged : OwnStatus → BatchLock → Bool
is_flagged o l = is_free l && not (is_destroyed o)

-- the places where a pack of a free batch may go (Article 12). The words are own, and so are those for a held and a
-- supplied pack.
abbrev pub onward_by_own : OwnStatus → Onward
onward_by_own own.Active = onward.Stock
onward_by_own own.Held = onward.Supply
onward_by_own own.Supplied = onward.Nowhere
onward_by_own own.Exported = onward.Export
onward_by_own own.Sampled = onward.Authorities
onward_by_own own.Destroyed = onward.Disposal
onward_by_own own.Stolen = onward.Disposal

-- where a pack may go: one of a recalled or withdrawn batch only to disposal (Articles 12 and 40)
abbrev pub onward_by : OwnStatus → BatchLock → Onward
onward_by o lock.Free = onward_by_own o
onward_by o _ = onward.Disposal

-- whether a known pack is authentic: its identifier is active, and its batch neither recalled nor withdrawn (Articles
-- 11 and 40)
abbrev pub is_authentic : OwnStatus → BatchLock → Bool
is_authentic o l = is_active o && is_free l

-- whether the actor is of the mark's house: covered by the same authorisation, and in the same premises (Article
-- 13(1)(a))
abbrev pub is_same_house : Actor → Mark → Bool
is_same_house a m = same_text a.authorisation m.authorisation && same_text a.premises m.premises

-- whether the moment is not more than this number of days after the mark; it may be before it, and days are of UTC (own)
abbrev pub is_within : ℕ → ℕ → Mark → Bool
is_within days moment m = nat_le (day_of moment) (day_of m.moment + days)

-- whether the moment is in time for a reversion (Article 13(1)(b))
abbrev pub is_in_time : ℕ → Mark → Bool
is_in_time moment m = is_within reversion_days moment m

-- whether the product code has a holder, and another one than this authorisation (own)
abbrev pub has_other_holder : Option Name → Name → Bool
has_other_holder None n = false
has_other_holder (Some h) n = not (same_text h n)

-- whether this authorisation is the product code's holder (Article 40: the marketing authorisation holder)
abbrev pub is_held_by : Option Name → Name → Bool
is_held_by None n = false
is_held_by (Some h) n = same_text h n

-- the alert on a known pack k whose batch has the lock l (Article 36). Its product code had n alerts until then, and
-- their number is own.
abbrev pub alert_on : Known → BatchLock → ℕ → Reply
alert_on k l n = reply.Alert (cause_of k.own l) (is_flagged k.own l) (n + 1)

-- the alert on an unknown pack, after n alerts on its product code: always flagged (Article 36)
abbrev pub alert_unknown : ℕ → Reply
alert_unknown n = reply.Alert cause.Unknown true (n + 1)

-- the reply to a verification of a known pack (Articles 11 and 36)
abbrev pub verify_reply : ℕ → Known → BatchLock → ℕ → Reply
verify_reply moment k l n =
    if is_authentic k.own l then reply.Authentic k.batch k.expiry (is_past k.expiry moment) else alert_on k l n

-- the status of a known pack, given without an alert (Article 36)
abbrev pub status_reply : Known → BatchLock → Reply
status_reply k l = reply.StatusIs k.own l (onward_by k.own l) k.batch k.expiry

-- the reply to a decommissioning of a known pack, an expired one too: it has to be authentic (Articles 22, 25 and 36)
abbrev pub decommission_reply : Known → BatchLock → ℕ → Reply
decommission_reply k l n = if is_authentic k.own l then reply.Decommissioned else alert_on k l n

-- the reply to the handover of a known pack, an expired one too (own, after Articles 25 and 40). The pack has to be
-- held, by the same authorisation and in the same premises. Its batch is neither recalled nor withdrawn.
abbrev pub handover_reply : Actor → Known → BatchLock → Reply
handover_reply a k l =
    if not (is_free l) then reply.Refused refusal.Locked
    else (if not (is_held k.own) then reply.Refused refusal.NotHeld
    else (if not (is_same_house a k.mark) then reply.Refused refusal.Other
    else reply.HandedOver))

-- the reply to a reversion of a known pack: the conditions of Article 13(1)
abbrev pub revert_reply : ℕ → Actor → Known → BatchLock → Reply
revert_reply moment a k l =
    if not (is_free l) then reply.Refused refusal.Locked
    else (if is_active k.own then reply.Refused refusal.StillActive
    else (if is_stolen k.own then reply.Refused refusal.IsStolen
    else (if is_destroyed k.own then reply.Refused refusal.IsDestroyed
    else (if is_supplied k.own then reply.Refused refusal.WasSupplied
    else (if not (is_same_house a k.mark) then reply.Refused refusal.Other
    else (if not (is_in_time moment k.mark) then reply.Refused refusal.Late
    else (if is_past k.expiry moment then reply.Refused refusal.Expired
    else reply.Reverted)))))))

-- the reply to a report that a known pack was stolen, whatever its own status (Article 40; who may report it is own)
abbrev pub theft_reply : Actor → Option Name → Known → Reply
theft_reply a holder k =
    if not (is_held_by holder a.authorisation) then reply.Refused refusal.NotHolder
    else (if is_stolen k.own then reply.Refused refusal.Already
    else reply.MarkedStolen)

-- the reply to a recall or withdrawal, with the batch's active packs (Article 40; the first lock stays, which is own)
abbrev pub lock_reply : Actor → Bool → Option Name → BatchLock → ℕ → Reply
lock_reply a is_known holder l active =
    if not is_known then reply.Refused refusal.UnknownBatch
    else (if not (is_held_by holder a.authorisation) then reply.Refused refusal.NotHolder
    else (if not (is_free l) then reply.Refused refusal.Already
    else reply.LockedNow active))

-- the reply to an upload: each pack once (Article 35(3)), and each product code by its holder alone (own)
abbrev pub upload_reply : Actor → Option Name → Option Known → Reply
upload_reply a holder k =
    if has_other_holder holder a.authorisation then reply.Refused refusal.NotHolder
    else (if is_some k then reply.Refused refusal.Duplicate
    else reply.Uploaded)

-- the lock of a known pack: that of its product code and batch (Article 40)
abbrev pub lock_on : List Entry → Pack → Known → BatchLock
lock_on t p k = lock_of t p.code k.batch

-- one reply if the pack is unknown, another if it is known
abbrev pub on_pack : Option Known → Reply → (Known → Reply) → Reply
on_pack None unknown f = unknown
on_pack (Some k) unknown f = f k

-- the reply to an admitted question
abbrev pub admitted_reply : List Entry → ℕ → Actor → Question → Reply
admitted_reply t moment a (Upload p b x) = upload_reply a (holder_of t p.code) (known t p)
admitted_reply t moment a (OfPack Verify p) =
    on_pack (known t p) (alert_unknown (alerts_of t p.code)) (λ k. verify_reply moment k (lock_on t p k) (alerts_of t p.code))
admitted_reply t moment a (OfPack Status p) = on_pack (known t p) reply.NoPack (λ k. status_reply k (lock_on t p k))
admitted_reply t moment a (OfPack (Decommission r) p) =
    on_pack (known t p) (alert_unknown (alerts_of t p.code)) (λ k. decommission_reply k (lock_on t p k) (alerts_of t p.code))
admitted_reply t moment a (OfPack Handover p) =
    on_pack (known t p) (reply.Refused refusal.Unknown) (λ k. handover_reply a k (lock_on t p k))
admitted_reply t moment a (OfPack Revert p) =
    on_pack (known t p) (reply.Refused refusal.Unknown) (λ k. revert_reply moment a k (lock_on t p k))
admitted_reply t moment a (OfBatch _ c b) =
    lock_reply a (is_known_batch t c b) (holder_of t c) (lock_of t c b) (count_of t c b own.Active)
admitted_reply t moment a (OfPack Theft p) =
    on_pack (known t p) (reply.Refused refusal.Unknown) (λ k. theft_reply a (holder_of t p.code) k)
admitted_reply t moment a (OfPack Audit p) = reply.Shown (about_of t p)

-- the reply of the rules: a user who may not ask is refused before all else (own)
abbrev pub reply_of : List Entry → Put → Reply
reply_of t q =
    if may_ask q.actor.role q.question then admitted_reply t q.moment q.actor q.question else reply.Refused refusal.Role

-- the entries that an audit shows to a role
abbrev pub shown_to : List Entry → Role → Question → List Entry
shown_to t r (OfPack Audit p) = if may_ask r (OfPack Audit p) then filter (is_about p) t else []
shown_to t r _ = []

-- the entries that are shown with the reply (Articles 35(1)(g), 36(i) and 37(f)). To an audit that its role may ask,
-- they are those about its pack, oldest first. The reply to any other question has none.
abbrev pub shown_of : List Entry → Put → List Entry
shown_of t q = shown_to t q.actor.role q.question

-- the entry that records a question as it was put, with its reply (Article 35)
abbrev pub answered : Put → Reply → Entry
answered q r = record { put = q; reply = r }

-- each of the entries es, which follow the entries u, has the reply of the rules on all entries before it
abbrev pub IsLawfulAfter : List Entry → List Entry → Type 0
IsLawfulAfter u [] = Unit {0}
IsLawfulAfter u (e ∷ es) = (e.reply ≡ reply_of u e.put) × IsLawfulAfter (u ++ e ∷ []) es

-- a lawful trail: each entry has the reply of the rules on the entries before it (own)
abbrev pub IsLawful : List Entry → Type 0
IsLawful t = IsLawfulAfter [] t
