-- The replies about a pack that is not authentic.
use Rattle.std.proofs.Common.{◌≡◌, ◌≢◌, ◌+◌, Bool, true, false, ◌&&◌, cond, List, reverse, Option, Some, None, inl, inr, refl, sym, ap, ◌∙◌}
use Rattle.std.proofs.Math.Bool.{and-false}
use Rattle.std.specs.Cmp.{first_so}
use Rattle.std.specs.List.{find, list_any}
use Rattle.std.specs.Option.{is_some, option_map_or}
use Rattle.nmvs_identifier.specs.Batch.{Batch}
use Rattle.nmvs_identifier.specs.Expiry.{Expiry}
use Rattle.nmvs_identifier.specs.ProductCode.{ProductCode}
use Rattle.nmvs_identifier.specs.declared.pack.Pack.{Pack}
use Rattle.nmvs_rules.specs.declared.batch_lock.BatchLock.{BatchLock}
use Rattle.nmvs_rules.specs.declared.batch_lock.BatchLock.TheVariants as lock
use Rattle.nmvs_rules.specs.declared.cause.Cause.{Cause}
use Rattle.nmvs_rules.specs.declared.cause.Cause.TheVariants as cause
use Rattle.nmvs_rules.specs.declared.entry.Entry.{Entry}
use Rattle.nmvs_rules.specs.declared.facts.Known.{Known}
use Rattle.nmvs_rules.specs.declared.own_status.OwnStatus.{OwnStatus}
use Rattle.nmvs_rules.specs.declared.question.Question.{Question}
use Rattle.nmvs_rules.specs.declared.question.Question.TheVariants.{OfPack, OfBatch}
use Rattle.nmvs_rules.specs.declared.pack_question.PackQuestion.TheVariants.{Verify, Decommission, Handover, Theft}
use Rattle.nmvs_rules.specs.declared.batch_question.BatchQuestion.TheVariants.{Recall, Withdraw}
use Rattle.nmvs_rules.specs.declared.reason.Reason.{Reason}
use Rattle.nmvs_rules.specs.declared.reason.Reason.TheVariants as reason
use Rattle.nmvs_rules.specs.declared.reply.Reply.{Reply}
use Rattle.nmvs_rules.specs.declared.reply.Reply.TheVariants as reply
use Rattle.nmvs_rules.specs.declared.put.Put.{Put}
use Rattle.nmvs_rules.specs.Questions.{may_ask, pack_of, names}
use Rattle.nmvs_rules.specs.Trail.{born, known, known_from, accepts, is_mark, mark_place, mark_after, own_given, lock_by, lock_of, locks_batch, alerts_of}
use Rattle.nmvs_rules.specs.Rules.{is_active, is_past, is_authentic, cause_of, is_flagged, lock_on, on_pack, alert_on, alert_unknown, verify_reply, decommission_reply, reply_of}
use Rattle.nmvs_rules.specs.Operations.{uploads, binds, last_operation, alarm, alert_number}
use Rattle.nmvs_rules.specs.Laws.{IsUploadedWith, IsUnlocked, AsksAuthenticity}
use Rattle.nmvs_rules.proofs.Accepted.{accepted_lock, binds-is, first-upload, last-operation}
use Rattle.nmvs_rules.proofs.FindLemmas.{find-passes, is_some-find, is-none}
use Rattle.nmvs_rules.proofs.LockLemmas.{free-unlocked, free-lock}
use Rattle.nmvs_rules.proofs.MarkLemmas.{mark-of-born, known-made, birth-of}
use Rattle.nmvs_rules.proofs.PushLemmas.{locks_batch-binds}
use Rattle.nmvs_rules.proofs.ReplyLemmas.{reply-admitted}

-- a pack without an upload is unknown
unknown : (t : List Entry) (p : Pack) → list_any (uploads p) t ≡ false → known t p ≡ None
unknown t p h = ap (known_from t p) (is-none (born t p) (ap is_some (sym (first-upload t p)) ∙ is_some-find (uploads p) t ∙ h))

-- the alert on a pack that was never uploaded says so
pub unknown-alerts : (t : List Entry) (q : Put) (p : Pack) → AsksAuthenticity p q.question → may_ask q.actor.role q.question ≡ true → list_any (uploads p) t ≡ false → reply_of t q ≡ reply.Alert cause.Unknown true (alerts_of t p.code + 1)
unknown-alerts t q p (inl is) may h =
    reply-admitted t q (OfPack Verify p) is may
    ∙ ap (λ o. on_pack o (alert_unknown (alerts_of t p.code)) (λ k. verify_reply q.moment k (lock_on t p k) (alerts_of t p.code))) (unknown t p h)
unknown-alerts t q p (inr is) may h =
    reply-admitted t q (OfPack (Decommission is.0) p) is.1 may
    ∙ ap (λ o. on_pack o (alert_unknown (alerts_of t p.code)) (λ k. decommission_reply k (lock_on t p k) (alerts_of t p.code))) (unknown t p h)

-- a known pack that is not authentic has an alert by its own status and its batch's lock
known-alerts : (t : List Entry) (q : Put) (p : Pack) (k : Known) (l : BatchLock) → AsksAuthenticity p q.question → may_ask q.actor.role q.question ≡ true → known t p ≡ Some k → lock_on t p k ≡ l → is_authentic k.own l ≡ false → reply_of t q ≡ alert_on k l (alerts_of t p.code)
known-alerts t q p k l (inl is) may known_as locked h =
    reply-admitted t q (OfPack Verify p) is may
    ∙ ap (λ o. on_pack o (alert_unknown (alerts_of t p.code)) (λ k. verify_reply q.moment k (lock_on t p k) (alerts_of t p.code))) known_as
    ∙ ap (λ m. verify_reply q.moment k m (alerts_of t p.code)) locked
    ∙ ap (λ b. cond b (reply.Authentic k.batch k.expiry (is_past k.expiry q.moment)) (alert_on k l (alerts_of t p.code))) h
known-alerts t q p k l (inr is) may known_as locked h =
    reply-admitted t q (OfPack (Decommission is.0) p) is.1 may
    ∙ ap (λ o. on_pack o (alert_unknown (alerts_of t p.code)) (λ k. decommission_reply k (lock_on t p k) (alerts_of t p.code))) known_as
    ∙ ap (λ m. decommission_reply k m (alerts_of t p.code)) locked
    ∙ ap (λ b. cond b reply.Decommissioned (alert_on k l (alerts_of t p.code))) h

-- the values known of a pack that was uploaded
uploaded-known : (t : List Entry) (p : Pack) (b : Batch) (x : Expiry) (m : Entry) → IsUploadedWith t p b x → last_operation t p ≡ Some m → known t p ≡ Some (record { batch = b; expiry = x; own = own_given m.put.question; mark = mark_after (mark_place t p) m })
uploaded-known t p b x m uploaded last =
    let upload = birth-of t p b x uploaded in
    known-made t p upload.2.0 upload.0 m b x upload.1 upload.2.1 (sym (last-operation t p) ∙ last)

tells-lock : (c : ProductCode) (b : Batch) (q : Question) (o : OwnStatus) (w : Cause × Bool) → locks_batch c b q ≡ true → alarm q ≡ Some w → (cause_of o (lock_by q) ≡ w.0) × (is_flagged o (lock_by q) ≡ w.1)
tells-lock c b (OfBatch Recall d l) o w locks is = let same : (cause.Recalled, false) ≡ w = cc in (ap (λ z. z.0) same, ap (λ z. z.1) same)
tells-lock c b (OfBatch Withdraw d l) o w locks is = let same : (cause.Withdrawn, false) ≡ w = cc in (ap (λ z. z.0) same, ap (λ z. z.1) same)
tells-lock c b q o w locks is = let none : false ≡ true = locks in (cc, cc)

-- a pack of a recalled or withdrawn batch has the alert of the first recall or withdrawal
pub locked-alerts : (t : List Entry) (q : Put) (p : Pack) (b : Batch) (x : Expiry) (l : Entry) (w : Cause × Bool) → AsksAuthenticity p q.question → may_ask q.actor.role q.question ≡ true → IsUploadedWith t p b x → find (binds p.code b) t ≡ Some l → alarm l.put.question ≡ Some w → reply_of t q ≡ reply.Alert w.0 w.1 (alerts_of t p.code + 1)
locked-alerts t q p b x l w asks may uploaded locked is =
    let upload = birth-of t p b x uploaded in
    let marked = mark-of-born t p upload.0 upload.1 in
    let own : OwnStatus = own_given marked.0.put.question in
    let found : find (accepted_lock p.code b) t ≡ Some l = (λ i. find (λ e. sym (binds-is p.code b e) i) t) ∙ locked in
    let locks : locks_batch p.code b l.put.question ≡ true = first_so _ _ (find-passes (accepted_lock p.code b) t l found) in
    let tells = tells-lock p.code b l.put.question own w locks is in
    known-alerts t q p _ (lock_by l.put.question) asks may
    (known-made t p upload.2.0 upload.0 marked.0 b x upload.1 upload.2.1 marked.1)
    (ap (λ o. option_map_or (λ e. lock_by e.put.question) o lock.Free) found)
    (ap (λ f. is_active own && f) (locks_batch-binds p.code b l.put.question locks) ∙ and-false (is_active own))
    ∙ (λ i. reply.Alert (tells.0 i) (tells.1 i) (alerts_of t p.code + 1))

tells-own : (p : Pack) (q : Question) (r : Reply) (w : Cause × Bool) → (names p (pack_of q) && accepts q r) ≡ true → alarm q ≡ Some w → (cause_of (own_given q) lock.Free ≡ w.0) × (is_flagged (own_given q) lock.Free ≡ w.1) × (is_active (own_given q) ≡ false)
tells-own p (OfPack (Decommission reason.Supply) s) r w h is = let same : (cause.Supplied, true) ≡ w = cc in (ap (λ z. z.0) same, ap (λ z. z.1) same, refl)
tells-own p (OfPack (Decommission reason.Hold) s) r w h is = let same : (cause.Held, true) ≡ w = cc in (ap (λ z. z.0) same, ap (λ z. z.1) same, refl)
tells-own p (OfPack (Decommission reason.Export) s) r w h is = let same : (cause.Exported, true) ≡ w = cc in (ap (λ z. z.0) same, ap (λ z. z.1) same, refl)
tells-own p (OfPack (Decommission reason.Sample) s) r w h is = let same : (cause.Sampled, true) ≡ w = cc in (ap (λ z. z.0) same, ap (λ z. z.1) same, refl)
tells-own p (OfPack (Decommission reason.Destroy) s) r w h is = let same : (cause.Destroyed, false) ≡ w = cc in (ap (λ z. z.0) same, ap (λ z. z.1) same, refl)
tells-own p (OfPack Handover s) r w h is = let same : (cause.Supplied, true) ≡ w = cc in (ap (λ z. z.0) same, ap (λ z. z.1) same, refl)
tells-own p (OfPack Theft s) r w h is = let same : (cause.Stolen, true) ≡ w = cc in (ap (λ z. z.0) same, ap (λ z. z.1) same, refl)
tells-own p (OfBatch _ c b) r w h is = let none : false ≡ true = h in (cc, cc, cc)
tells-own p q r w h is = (cc, cc, cc)

-- a pack of a free batch has the alert of the last operation on it
pub own-alerts : (t : List Entry) (q : Put) (p : Pack) (b : Batch) (x : Expiry) (m : Entry) (w : Cause × Bool) → AsksAuthenticity p q.question → may_ask q.actor.role q.question ≡ true → IsUploadedWith t p b x → IsUnlocked t p.code b → last_operation t p ≡ Some m → alarm m.put.question ≡ Some w → reply_of t q ≡ reply.Alert w.0 w.1 (alerts_of t p.code + 1)
own-alerts t q p b x m w asks may uploaded unlocked last is =
    let marks : is_mark p m ≡ true = find-passes (is_mark p) (reverse t) m (sym (last-operation t p) ∙ last) in
    let tells = tells-own p m.put.question m.reply w marks is in
    known-alerts t q p _ lock.Free asks may (uploaded-known t p b x m uploaded last)
    (free-lock (lock_of t p.code b) (free-unlocked t p.code b unlocked))
    (ap (λ a. a && true) tells.2)
    ∙ (λ i. reply.Alert (tells.0 i) (tells.1 i) (alerts_of t p.code + 1))

-- a verification that is not answered Authentic, and a decommissioning that is not carried out, give the next alert
pub verification-alerts : (t : List Entry) (q : Put) (p : Pack) → q.question ≡ OfPack Verify p → may_ask q.actor.role q.question ≡ true → ((b : Batch) (x : Expiry) (late : Bool) → reply_of t q ≢ reply.Authentic b x late) → alert_number (reply_of t q) ≡ Some (alerts_of t p.code + 1)
verification-alerts t q p is may other = ap alert_number whole ∙ by (known t p) (λ k f. other k.batch k.expiry (is_past k.expiry q.moment) (whole ∙ f))
  where
    reply_by : Option Known → Reply
    reply_by o = on_pack o (alert_unknown (alerts_of t p.code)) (λ k. verify_reply q.moment k (lock_on t p k) (alerts_of t p.code))

    whole : reply_of t q ≡ reply_by (known t p)
    whole = reply-admitted t q (OfPack Verify p) is may

    either : (k : Known) (a : Bool) → (cond a (reply.Authentic k.batch k.expiry (is_past k.expiry q.moment)) (alert_on k (lock_on t p k) (alerts_of t p.code)) ≡ reply.Authentic k.batch k.expiry (is_past k.expiry q.moment) → ⊥) → alert_number (cond a (reply.Authentic k.batch k.expiry (is_past k.expiry q.moment)) (alert_on k (lock_on t p k) (alerts_of t p.code))) ≡ Some (alerts_of t p.code + 1)
    either k true wrong = absurd (wrong refl)
    either k false wrong = refl

    by : (o : Option Known) → ((k : Known) → reply_by o ≡ reply.Authentic k.batch k.expiry (is_past k.expiry q.moment) → ⊥) → alert_number (reply_by o) ≡ Some (alerts_of t p.code + 1)
    by None wrong = refl
    by (Some k) wrong = either k (is_authentic k.own (lock_on t p k)) (wrong k)

-- so does a decommissioning that is not carried out
pub decommissioning-alerts : (t : List Entry) (q : Put) (p : Pack) (w : Reason) → q.question ≡ OfPack (Decommission w) p → may_ask q.actor.role q.question ≡ true → reply_of t q ≢ reply.Decommissioned → alert_number (reply_of t q) ≡ Some (alerts_of t p.code + 1)
decommissioning-alerts t q p w is may other = ap alert_number whole ∙ by (known t p) (λ f. other (whole ∙ f))
  where
    reply_by : Option Known → Reply
    reply_by o = on_pack o (alert_unknown (alerts_of t p.code)) (λ k. decommission_reply k (lock_on t p k) (alerts_of t p.code))

    whole : reply_of t q ≡ reply_by (known t p)
    whole = reply-admitted t q (OfPack (Decommission w) p) is may

    either : (k : Known) (a : Bool) → (cond a reply.Decommissioned (alert_on k (lock_on t p k) (alerts_of t p.code)) ≡ reply.Decommissioned → ⊥) → alert_number (cond a reply.Decommissioned (alert_on k (lock_on t p k) (alerts_of t p.code))) ≡ Some (alerts_of t p.code + 1)
    either k true wrong = absurd (wrong refl)
    either k false wrong = refl

    by : (o : Option Known) → (reply_by o ≡ reply.Decommissioned → ⊥) → alert_number (reply_by o) ≡ Some (alerts_of t p.code + 1)
    by None wrong = refl
    by (Some k) wrong = either k (is_authentic k.own (lock_on t p k)) wrong
