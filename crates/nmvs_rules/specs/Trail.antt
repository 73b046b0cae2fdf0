-- The state of packs, batches and product codes on a trail. A trail is the complete record of all operations, oldest entry
-- first (Article 35). Nothing is kept next to it: each definition looks back over the whole list.
use Rattle.std.specs.Prelude.{ℕ, ◌-◌, Bool, true, false, not, ◌&&◌, List, reverse, length, find, count_by, Option, Some, None, unwrap_or, if◌then◌else◌}
use Rattle.std.specs.List.{list_any, suffix_len}
use Rattle.std.specs.Option.{option_map, option_map_or}
use Rattle.nmvs_identifier.specs.ProductCode.{ProductCode}
use Rattle.nmvs_identifier.specs.Batch.{Batch}
use Rattle.nmvs_identifier.specs.Name.{Name}
use Rattle.nmvs_identifier.specs.declared.pack.Pack.{Pack}
use Rattle.nmvs_identifier.specs.Texts.{same_text}
use Rattle.nmvs_rules.specs.declared.reason.Reason.{Reason}
use Rattle.nmvs_rules.specs.declared.reason.Reason.TheVariants as reason
use Rattle.nmvs_rules.specs.declared.question.Question.{Question}
use Rattle.nmvs_rules.specs.declared.question.Question.TheVariants.{Upload, OfPack, OfBatch}
use Rattle.nmvs_rules.specs.declared.pack_question.PackQuestion.{PackQuestion}
use Rattle.nmvs_rules.specs.declared.pack_question.PackQuestion.TheVariants.{Decommission, Handover, Revert, Theft}
use Rattle.nmvs_rules.specs.declared.batch_question.BatchQuestion.TheVariants.{Recall, Withdraw}
use Rattle.nmvs_rules.specs.declared.reply.Reply.{Reply}
use Rattle.nmvs_rules.specs.declared.reply.Reply.TheVariants as reply
use Rattle.nmvs_rules.specs.declared.own_status.OwnStatus.{OwnStatus}
use Rattle.nmvs_rules.specs.declared.own_status.OwnStatus.TheVariants as own
use Rattle.nmvs_rules.specs.declared.batch_lock.BatchLock.{BatchLock}
use Rattle.nmvs_rules.specs.declared.batch_lock.BatchLock.TheVariants as lock
use Rattle.nmvs_rules.specs.declared.entry.Entry.{Entry}
use Rattle.nmvs_rules.specs.declared.facts.Mark.{Mark}
use Rattle.nmvs_rules.specs.declared.facts.Known.{Known}
use Rattle.nmvs_rules.specs.declared.facts.Counts.{Counts}
use Rattle.nmvs_rules.specs.declared.facts.BatchRecord.{BatchRecord}
use Rattle.nmvs_rules.specs.Questions.{pack_of, code_of, names}

-- the last entry that passes a test (the first one is `find`)
abbrev pub last : (Entry → Bool) → List Entry → Option Entry
last p t = find p (reverse t)

-- whether the reply accepts the question; a refusal, an alert and mere information do not (own)
abbrev pub accepts : Question → Reply → Bool
accepts (Upload _ _ _) reply.Uploaded = true
accepts (OfPack (Decommission _) _) reply.Decommissioned = true
accepts (OfPack Handover _) reply.HandedOver = true
accepts (OfPack Revert _) reply.Reverted = true
accepts (OfBatch _ _ _) (reply.LockedNow _) = true
accepts (OfPack Theft _) reply.MarkedStolen = true
accepts _ _ = false

-- whether the entry's question was accepted
abbrev pub is_accepted : Entry → Bool
is_accepted e = accepts e.put.question e.reply

-- whether the entry is about the pack: its question names it
abbrev pub is_about : Pack → Entry → Bool
is_about p e = names p (pack_of e.put.question)

-- whether the entry is about the product code
abbrev pub has_code : ProductCode → Entry → Bool
has_code c e = same_text c (code_of e.put.question)

-- whether the question uploads a pack
abbrev pub is_upload : Question → Bool
is_upload (Upload _ _ _) = true
is_upload _ = false

-- whether the question uploads a pack of this product code and batch
abbrev pub uploads_batch : ProductCode → Batch → Question → Bool
uploads_batch c b (Upload p d _) = same_text c p.code && same_text b d
uploads_batch c b _ = false

-- whether the question recalls or withdraws this batch of this product code (Article 40)
abbrev pub locks_batch : ProductCode → Batch → Question → Bool
locks_batch c b (OfBatch _ d e) = same_text c d && same_text b e
locks_batch c b _ = false

-- whether the reply is an alert (Article 36)
abbrev pub is_alert : Reply → Bool
is_alert (reply.Alert _ _ _) = true
is_alert _ = false

-- the first accepted upload of a pack, which makes it known and gives its batch and expiry (Article 4)
abbrev pub born : List Entry → Pack → Option Entry
born t p = find (λ e. (is_upload e.put.question && is_about p e) && is_accepted e) t

-- whether the entry is accepted and about the pack
abbrev pub is_mark : Pack → Entry → Bool
is_mark p e = is_about p e && is_accepted e

-- the last accepted entry about a pack, which gives its own status (own)
abbrev pub mark : List Entry → Pack → Option Entry
mark t p = last (is_mark p) t

-- the number of entries before the mark: all but the mark itself and the run of other entries at the end (own)
abbrev pub mark_place : List Entry → Pack → ℕ
mark_place t p = length t - suffix_len (λ e. not (is_mark p e)) t - 1

-- the own status that a decommissioning for this reason gives (own, after Articles 22 and 25)
abbrev pub own_by_reason : Reason → OwnStatus
own_by_reason reason.Supply = own.Supplied
own_by_reason reason.Hold = own.Held
own_by_reason reason.Export = own.Exported
own_by_reason reason.Sample = own.Sampled
own_by_reason reason.Destroy = own.Destroyed

-- the own status that a question about a pack gives it once it is accepted (Articles 11, 13, 25 and 40). A handover
-- makes it supplied, and a reversion active.
abbrev pub own_by_question : PackQuestion → OwnStatus
own_by_question (Decommission r) = own_by_reason r
own_by_question Handover = own.Supplied
own_by_question Theft = own.Stolen
own_by_question _ = own.Active

-- the own status that a question gives once it is accepted: active by an upload
abbrev pub own_given : Question → OwnStatus
own_given (OfPack asked _) = own_by_question asked
own_given _ = own.Active

-- a pack's own status, if it has a mark (Articles 22, 25 and 40)
abbrev pub own_of : List Entry → Pack → Option OwnStatus
own_of t p = option_map (λ m. own_given m.put.question) (mark t p)

-- the lock that a recall or withdrawal puts on its batch (Article 40)
abbrev pub lock_by : Question → BatchLock
lock_by (OfBatch Recall _ _) = lock.Recalled
lock_by (OfBatch Withdraw _ _) = lock.Withdrawn
lock_by _ = lock.Free

-- the lock of a batch: its first accepted recall or withdrawal, which stays and binds packs uploaded later too (Article
-- 40)
abbrev pub lock_of : List Entry → ProductCode → Batch → BatchLock
lock_of t c b = option_map_or (λ e. lock_by e.put.question) (find (λ e. locks_batch c b e.put.question && is_accepted e) t) lock.Free

-- the holder of a product code: the authorisation of its first accepted upload (own)
abbrev pub holder_of : List Entry → ProductCode → Option Name
holder_of t c =
    option_map (λ e. e.put.actor.authorisation) (find (λ e. (is_upload e.put.question && has_code c e) && is_accepted e) t)

-- the number of alerts on a product code (own)
abbrev pub alerts_of : List Entry → ProductCode → ℕ
alerts_of t c = count_by (λ e. has_code c e && is_alert e.reply) t

-- the number of entries about a pack (Article 35)
abbrev pub about_of : List Entry → Pack → ℕ
about_of t p = count_by (is_about p) t

-- the mark that an entry leaves: its place, its moment, its authorisation and its premises (Article 13(1))
abbrev pub mark_after : ℕ → Entry → Mark
mark_after place e =
    record { place = place; moment = e.put.moment; authorisation = e.put.actor.authorisation; premises = e.put.actor.premises }

-- the values known by an accepted upload and a mark m: batch and expiry from the upload, the rest from m
abbrev pub known_at : List Entry → Pack → Entry → Question → Option Known
known_at t p m (Upload _ b x) =
    Some (record {
      batch = b;
      expiry = x;
      own = own_given m.put.question;
      mark = mark_after (mark_place t p) m;
    })
known_at t p m _ = None

-- the values known by the accepted upload u and the mark. Because u is accepted there is a mark, and `unwrap_or` never
-- falls back on u.
abbrev pub known_from : List Entry → Pack → Option Entry → Option Known
known_from t p None = None
known_from t p (Some u) = known_at t p (unwrap_or (mark t p) u) u.put.question

-- the values known of a pack: nothing before its accepted upload (Articles 4 and 11)
abbrev pub known : List Entry → Pack → Option Known
known t p = known_from t p (born t p)

-- the values known of an unknown pack after an accepted question at a place: an upload gives all, another none
abbrev pub born_by : ℕ → Entry → Question → Option Known
born_by place e (Upload _ b x) = Some (record { batch = b; expiry = x; own = own.Active; mark = mark_after place e })
born_by place e _ = None

-- the values known of a pack after one more accepted entry about it
abbrev pub marked_by : ℕ → Entry → Option Known → Option Known
marked_by place e None = born_by place e e.put.question
marked_by place e (Some k) = Some (record k { own = own_given e.put.question; mark = mark_after place e })

-- the values known of a pack after one more entry
abbrev pub known_after : Pack → ℕ → Entry → Option Known → Option Known
known_after p place e k = if is_mark p e then marked_by place e k else k

-- whether the entry is an accepted upload of a pack of the batch
abbrev pub is_birth_in : ProductCode → Batch → Entry → Bool
is_birth_in c b e = uploads_batch c b e.put.question && is_accepted e

-- whether a pack of the batch is known
abbrev pub is_known_batch : List Entry → ProductCode → Batch → Bool
is_known_batch t c b = list_any (is_birth_in c b) t

-- whether two own statuses are the same
abbrev pub same_own : OwnStatus → OwnStatus → Bool
same_own own.Active own.Active = true
same_own own.Held own.Held = true
same_own own.Supplied own.Supplied = true
same_own own.Exported own.Exported = true
same_own own.Sampled own.Sampled = true
same_own own.Destroyed own.Destroyed = true
same_own own.Stolen own.Stolen = true
same_own _ _ = false

-- whether the own status, if there is one, is s
abbrev pub is_own : OwnStatus → Option OwnStatus → Bool
is_own s None = false
is_own s (Some o) = same_own s o

-- whether the pack that is named, if any, has the own status s now
abbrev pub stands_at : List Entry → OwnStatus → Option Pack → Bool
stands_at t s None = false
stands_at t s (Some p) = is_own s (own_of t p)

-- the number of packs of the batch with own status s now: a lawful trail has one accepted upload for each known pack
abbrev pub count_of : List Entry → ProductCode → Batch → OwnStatus → ℕ
count_of t c b s = count_by (λ e. is_birth_in c b e && stands_at t s (pack_of e.put.question)) t

-- the number of packs of the batch in each own status now
abbrev pub counts_of : List Entry → ProductCode → Batch → Counts
counts_of t c b = record {
  active = count_of t c b own.Active;
  held = count_of t c b own.Held;
  supplied = count_of t c b own.Supplied;
  exported = count_of t c b own.Exported;
  sampled = count_of t c b own.Sampled;
  destroyed = count_of t c b own.Destroyed;
  stolen = count_of t c b own.Stolen;
}

-- the record of a batch, if it is known
abbrev pub batch_record : List Entry → ProductCode → Batch → Option BatchRecord
batch_record t c b =
    if is_known_batch t c b then Some (record { lock = lock_of t c b; counts = counts_of t c b }) else None
