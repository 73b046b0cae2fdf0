-- The reply of the rules rests on the facts alone.
use Rattle.std.proofs.Common.{◌≡◌, ℕ, Bool, true, false, ◌&&◌, cond, List, Option, Some, None, refl, sym, ap, subst}
use Rattle.std.specs.Option.{is_some, unwrap_or}
use Rattle.std.specs.Cmp.{first_so, second_so}
use Rattle.std.specs.Cmp.Derive.{both_true}
use Rattle.nmvs_identifier.specs.Texts.{same_text}
use Rattle.nmvs_identifier.specs.ProductCode.{ProductCode}
use Rattle.nmvs_identifier.specs.Batch.{Batch}
use Rattle.nmvs_identifier.specs.Name.{Name}
use Rattle.nmvs_identifier.specs.declared.pack.Pack.{Pack}
use Rattle.nmvs_rules.specs.declared.actor.Actor.{Actor}
use Rattle.nmvs_rules.specs.declared.question.Question.{Question}
use Rattle.nmvs_rules.specs.declared.question.Question.TheVariants.{Upload, OfPack, OfBatch}
use Rattle.nmvs_rules.specs.declared.pack_question.PackQuestion.TheVariants.{Verify, Status, Decommission, Handover, Revert, Theft, Audit}
use Rattle.nmvs_rules.specs.declared.reply.Reply.{Reply}
use Rattle.nmvs_rules.specs.declared.reply.Reply.TheVariants as reply
use Rattle.nmvs_rules.specs.declared.refusal.Refusal.TheVariants as refusal
use Rattle.nmvs_rules.specs.declared.batch_lock.BatchLock.{BatchLock}
use Rattle.nmvs_rules.specs.declared.entry.Entry.{Entry}
use Rattle.nmvs_rules.specs.declared.facts.Known.{Known}
use Rattle.nmvs_rules.specs.declared.facts.BatchRecord.{BatchRecord}
use Rattle.nmvs_rules.specs.declared.facts.Facts.{Facts}
use Rattle.nmvs_rules.proofs.FindLemmas.{find-passes, find-any}
use Rattle.nmvs_rules.proofs.TextLemmas.{same_text-refl}
use Rattle.nmvs_rules.specs.declared.put.Put.{Put}
use Rattle.nmvs_rules.specs.Questions.{pack_of, names, may_ask}
use Rattle.nmvs_rules.specs.Trail.{born, mark, known, known_from, known_at, is_upload, is_about, is_accepted, uploads_batch, is_birth_in, is_known_batch, lock_of, batch_record, alerts_of, holder_of, counts_of}
use Rattle.nmvs_rules.specs.Rules.{reply_of, admitted_reply, on_pack, lock_on, lock_reply, verify_reply, status_reply, decommission_reply, handover_reply, revert_reply}
use Rattle.nmvs_rules.specs.Facts.{facts_of, reply_by_facts, admitted_reply_by_facts, lock_in, active_in, batch_by_known}

-- the question that made a pack known uploads the batch that the pack is known by
pub known_at-batch : (t : List Entry) (p : Pack) (m : Entry) (q : Question) (k : Known) → known_at t p m q ≡ Some k → names p (pack_of q) ≡ true → uploads_batch p.code k.batch q ≡ true
known_at-batch t p m (Upload r b x) k e h =
    let same : b ≡ k.batch = cc in
    both_true (first_so _ _ h) (subst (λ d. same_text d b ≡ true) same (same_text-refl b))
known_at-batch t p m (OfPack _ _) k e h = cc
known_at-batch t p m (OfBatch _ _ _) k e h = cc

pub known_from-batch : (t : List Entry) (p : Pack) (o : Option Entry) (k : Known) → born t p ≡ o → known_from t p o ≡ Some k → is_known_batch t p.code k.batch ≡ true
known_from-batch t p None k b e = cc
known_from-batch t p (Some u) k b e =
    let passes : ((is_upload u.put.question && is_about p u) && is_accepted u) ≡ true = find-passes _ t u b in
    let about : names p (pack_of u.put.question) ≡ true = second_so _ _ (first_so _ _ passes) in
    let here : uploads_batch p.code k.batch u.put.question ≡ true = known_at-batch t p (unwrap_or (mark t p) u) u.put.question k e about in
    find-any _ (is_birth_in p.code k.batch) t u b (both_true here (second_so _ _ passes))

-- the batch of a known pack is a known batch
pub known-batch : (t : List Entry) (p : Pack) (k : Known) → known t p ≡ Some k → is_known_batch t p.code k.batch ≡ true
known-batch t p k e = known_from-batch t p (born t p) k refl e

pub lock_of-record : (t : List Entry) (c : ProductCode) (b : Batch) → is_known_batch t c b ≡ true → lock_of t c b ≡ lock_in (batch_record t c b)
lock_of-record t c b h = rw h refl

-- a reply that rests on a known pack and its lock may take the lock from the batch's record
pub on_pack-lock : (t : List Entry) (p : Pack) (u : Reply) (f : Known → BatchLock → Reply) (o : Option Known) → known t p ≡ o → on_pack o u (λ k. f k (lock_on t p k)) ≡ on_pack o u (λ k. f k (lock_in (batch_by_known t p.code o)))
on_pack-lock t p u f None e = refl
on_pack-lock t p u f (Some k) e = ap (f k) (lock_of-record t p.code k.batch (known-batch t p k e))

-- so may the reply to a recall or withdrawal, with the number of active packs
pub lock_reply-record : (a : Actor) (h : Option Name) (r : BatchRecord) (is_known : Bool) → lock_reply a is_known h r.lock r.counts.active ≡ lock_reply a (is_some (cond is_known (Some r) None)) h (lock_in (cond is_known (Some r) None)) (active_in (cond is_known (Some r) None))
lock_reply-record a h r true = refl
lock_reply-record a h r false = refl

pub admitted_reply-facts : (t : List Entry) (n : ℕ) (a : Actor) (q : Question) → admitted_reply t n a q ≡ admitted_reply_by_facts (facts_of t q) n a q
admitted_reply-facts t n a (Upload p b x) = refl
admitted_reply-facts t n a (OfPack Verify p) = on_pack-lock t p _ (λ k l. verify_reply n k l (alerts_of t p.code)) (known t p) refl
admitted_reply-facts t n a (OfPack Status p) = on_pack-lock t p _ (λ k l. status_reply k l) (known t p) refl
admitted_reply-facts t n a (OfPack (Decommission r) p) = on_pack-lock t p _ (λ k l. decommission_reply k l (alerts_of t p.code)) (known t p) refl
admitted_reply-facts t n a (OfPack Handover p) = on_pack-lock t p _ (λ k l. handover_reply a k l) (known t p) refl
admitted_reply-facts t n a (OfPack Revert p) = on_pack-lock t p _ (λ k l. revert_reply n a k l) (known t p) refl
admitted_reply-facts t n a (OfBatch _ c b) = lock_reply-record a (holder_of t c) (record { lock = lock_of t c b; counts = counts_of t c b }) (is_known_batch t c b)
admitted_reply-facts t n a (OfPack Theft p) = refl
admitted_reply-facts t n a (OfPack Audit p) = refl

-- the reply of the rules on a trail is the reply by the trail's facts
pub reply_by_facts-trail : (t : List Entry) (q : Put) (f : Facts) → facts_of t q.question ≡ f → reply_by_facts f q ≡ reply_of t q
reply_by_facts-trail t q f is =
    let P : Facts → Type 0 = λ g. reply_by_facts g q ≡ reply_of t q in
    let admitted = admitted_reply-facts t q.moment q.actor q.question in
    subst P is (sym (ap (λ r. cond (may_ask q.actor.role q.question) r (reply.Refused refusal.Role)) admitted))
