-- The few facts of a trail that a reply rests on, and the reply by them. All of this is own.
use Rattle.std.specs.Prelude.{ℕ, List, Option, Some, None, is_some, if◌then◌else◌}
use Rattle.nmvs_identifier.specs.ProductCode.{ProductCode}
use Rattle.nmvs_identifier.specs.Batch.{Batch}
use Rattle.nmvs_identifier.specs.declared.pack.Pack.{Pack}
use Rattle.nmvs_rules.specs.declared.actor.Actor.{Actor}
use Rattle.nmvs_rules.specs.declared.put.Put.{Put}
use Rattle.nmvs_rules.specs.declared.question.Question.{Question}
use Rattle.nmvs_rules.specs.declared.question.Question.TheVariants.{Upload, OfPack, OfBatch}
use Rattle.nmvs_rules.specs.declared.pack_question.PackQuestion.TheVariants.{Verify, Status, Decommission, Handover, Revert, Theft, Audit}
use Rattle.nmvs_rules.specs.declared.reply.Reply.{Reply}
use Rattle.nmvs_rules.specs.declared.reply.Reply.TheVariants as reply
use Rattle.nmvs_rules.specs.declared.refusal.Refusal.TheVariants as refusal
use Rattle.nmvs_rules.specs.declared.batch_lock.BatchLock.{BatchLock}
use Rattle.nmvs_rules.specs.declared.batch_lock.BatchLock.TheVariants as lock
use Rattle.nmvs_rules.specs.declared.entry.Entry.{Entry}
use Rattle.nmvs_rules.specs.declared.facts.Known.{Known}
use Rattle.nmvs_rules.specs.declared.facts.BatchRecord.{BatchRecord}
use Rattle.nmvs_rules.specs.declared.facts.Facts.{Facts}
use Rattle.nmvs_rules.specs.Questions.{pack_of, code_of, locked_batch, may_ask}
use Rattle.nmvs_rules.specs.Trail.{known, batch_record, holder_of, alerts_of, about_of}
use Rattle.nmvs_rules.specs.Rules.{on_pack, upload_reply, alert_unknown, verify_reply, status_reply, decommission_reply, handover_reply, revert_reply, lock_reply, theft_reply}

-- the values known of the pack that a question names
abbrev pub pack_fact : List Entry → Option Pack → Option Known
pack_fact t None = None
pack_fact t (Some p) = known t p

-- the number of entries about the pack that a question names
abbrev pub about_fact : List Entry → Option Pack → ℕ
about_fact t None = 0
about_fact t (Some p) = about_of t p

-- the record of a known pack's batch
abbrev pub batch_by_known : List Entry → ProductCode → Option Known → Option BatchRecord
batch_by_known t c None = None
batch_by_known t c (Some k) = batch_record t c k.batch

-- the record of the batch that a question names, else of the known pack's
abbrev pub batch_named : List Entry → ProductCode → Option Batch → Option Known → Option BatchRecord
batch_named t c None k = batch_by_known t c k
batch_named t c (Some b) k = batch_record t c b

-- the record of the batch that a question is about, if it is known
abbrev pub batch_fact : List Entry → Question → Option BatchRecord
batch_fact t q = batch_named t (code_of q) (locked_batch q) (pack_fact t (pack_of q))

-- the facts of a trail that the reply to a question rests on
abbrev pub facts_of : List Entry → Question → Facts
facts_of t q = record {
  pack = pack_fact t (pack_of q);
  about = about_fact t (pack_of q);
  batch = batch_fact t q;
  holder = holder_of t (code_of q);
  alerts = alerts_of t (code_of q);
}

-- the lock in a batch's record; a batch without a record is free
abbrev pub lock_in : Option BatchRecord → BatchLock
lock_in None = lock.Free
lock_in (Some r) = r.lock

-- the number of active packs of a batch, by its record
abbrev pub active_in : Option BatchRecord → ℕ
active_in None = 0
active_in (Some r) = r.counts.active

-- the reply to an admitted question by the facts: the lines of `admitted_reply`, with each look at the trail replaced
-- by a fact
abbrev pub admitted_reply_by_facts : Facts → ℕ → Actor → Question → Reply
admitted_reply_by_facts f moment a (Upload p b x) = upload_reply a f.holder f.pack
admitted_reply_by_facts f moment a (OfPack Verify p) =
    on_pack f.pack (alert_unknown f.alerts) (λ k. verify_reply moment k (lock_in f.batch) f.alerts)
admitted_reply_by_facts f moment a (OfPack Status p) = on_pack f.pack reply.NoPack (λ k. status_reply k (lock_in f.batch))
admitted_reply_by_facts f moment a (OfPack (Decommission r) p) =
    on_pack f.pack (alert_unknown f.alerts) (λ k. decommission_reply k (lock_in f.batch) f.alerts)
admitted_reply_by_facts f moment a (OfPack Handover p) =
    on_pack f.pack (reply.Refused refusal.Unknown) (λ k. handover_reply a k (lock_in f.batch))
admitted_reply_by_facts f moment a (OfPack Revert p) =
    on_pack f.pack (reply.Refused refusal.Unknown) (λ k. revert_reply moment a k (lock_in f.batch))
admitted_reply_by_facts f moment a (OfBatch _ c b) =
    lock_reply a (is_some f.batch) f.holder (lock_in f.batch) (active_in f.batch)
admitted_reply_by_facts f moment a (OfPack Theft p) =
    on_pack f.pack (reply.Refused refusal.Unknown) (λ k. theft_reply a f.holder k)
admitted_reply_by_facts f moment a (OfPack Audit p) = reply.Shown f.about

-- the reply of the rules by the facts
abbrev pub reply_by_facts : Facts → Put → Reply
reply_by_facts f q =
    if may_ask q.actor.role q.question then admitted_reply_by_facts f q.moment q.actor q.question else reply.Refused refusal.Role
