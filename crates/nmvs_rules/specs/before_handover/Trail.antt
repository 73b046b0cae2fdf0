-- The state of packs on a trail before a pack could be handed over. `accepts` and `own_given` have changed since; the
-- others are as in `specs/Trail`, over these two.
use Rattle.std.specs.Prelude.{ℕ, ◌-◌, Bool, true, false, not, ◌&&◌, List, length, find, count_by, Option, Some, None, unwrap_or}
use Rattle.std.specs.List.{list_any, suffix_len}
use Rattle.std.specs.Option.{option_map, option_map_or}
use Rattle.nmvs_identifier.specs.Batch.{Batch}
use Rattle.nmvs_identifier.specs.Name.{Name}
use Rattle.nmvs_identifier.specs.ProductCode.{ProductCode}
use Rattle.nmvs_identifier.specs.declared.pack.Pack.{Pack}
use Rattle.nmvs_rules.specs.declared.batch_lock.BatchLock.{BatchLock}
use Rattle.nmvs_rules.specs.declared.batch_lock.BatchLock.TheVariants as lock
use Rattle.nmvs_rules.specs.declared.entry.Entry.{Entry}
use Rattle.nmvs_rules.specs.declared.facts.Known.{Known}
use Rattle.nmvs_rules.specs.declared.own_status.OwnStatus.{OwnStatus}
use Rattle.nmvs_rules.specs.declared.own_status.OwnStatus.TheVariants as own
use Rattle.nmvs_rules.specs.declared.question.Question.{Question}
use Rattle.nmvs_rules.specs.declared.question.Question.TheVariants.{Upload, OfPack, OfBatch}
use Rattle.nmvs_rules.specs.declared.pack_question.PackQuestion.TheVariants.{Decommission, Revert, Theft}
use Rattle.nmvs_rules.specs.declared.reply.Reply.{Reply}
use Rattle.nmvs_rules.specs.declared.reply.Reply.TheVariants as reply
use Rattle.nmvs_rules.specs.Questions.{pack_of}
use Rattle.nmvs_rules.specs.Trail.{last, is_upload, is_about, has_code, locks_batch, uploads_batch, own_by_reason, lock_by, mark_after, is_own}

-- whether the reply accepted the question
abbrev pub accepts : Question → Reply → Bool
accepts (Upload _ _ _) reply.Uploaded = true
accepts (OfPack (Decommission _) _) reply.Decommissioned = true
accepts (OfPack Revert _) reply.Reverted = true
accepts (OfBatch _ _ _) (reply.LockedNow _) = true
accepts (OfPack Theft _) reply.MarkedStolen = true
accepts _ _ = false

-- the own status that a question gave once it was accepted
abbrev pub own_given : Question → OwnStatus
own_given (OfPack (Decommission r) _) = own_by_reason r
own_given (OfPack Theft _) = own.Stolen
own_given _ = own.Active

abbrev pub is_accepted : Entry → Bool
is_accepted e = accepts e.put.question e.reply

abbrev pub born : List Entry → Pack → Option Entry
born t p = find (λ e. (is_upload e.put.question && is_about p e) && is_accepted e) t

abbrev pub is_mark : Pack → Entry → Bool
is_mark p e = is_about p e && is_accepted e

abbrev pub mark : List Entry → Pack → Option Entry
mark t p = last (is_mark p) t

abbrev pub mark_place : List Entry → Pack → ℕ
mark_place t p = length t - suffix_len (λ e. not (is_mark p e)) t - 1

abbrev pub own_of : List Entry → Pack → Option OwnStatus
own_of t p = option_map (λ m. own_given m.put.question) (mark t p)

abbrev pub lock_of : List Entry → ProductCode → Batch → BatchLock
lock_of t c b = option_map_or (λ e. lock_by e.put.question) (find (λ e. locks_batch c b e.put.question && is_accepted e) t) lock.Free

abbrev pub holder_of : List Entry → ProductCode → Option Name
holder_of t c =
    option_map (λ e. e.put.actor.authorisation) (find (λ e. (is_upload e.put.question && has_code c e) && is_accepted e) t)

abbrev pub known_at : List Entry → Pack → Entry → Question → Option Known
known_at t p m (Upload _ b x) =
    Some (record {
      batch = b;
      expiry = x;
      own = own_given m.put.question;
      mark = mark_after (mark_place t p) m;
    })
known_at t p m _ = None

abbrev pub known_from : List Entry → Pack → Option Entry → Option Known
known_from t p None = None
known_from t p (Some u) = known_at t p (unwrap_or (mark t p) u) u.put.question

abbrev pub known : List Entry → Pack → Option Known
known t p = known_from t p (born t p)

abbrev pub is_birth_in : ProductCode → Batch → Entry → Bool
is_birth_in c b e = uploads_batch c b e.put.question && is_accepted e

abbrev pub is_known_batch : List Entry → ProductCode → Batch → Bool
is_known_batch t c b = list_any (is_birth_in c b) t

abbrev pub stands_at : List Entry → OwnStatus → Option Pack → Bool
stands_at t s None = false
stands_at t s (Some p) = is_own s (own_of t p)

abbrev pub count_of : List Entry → ProductCode → Batch → OwnStatus → ℕ
count_of t c b s = count_by (λ e. is_birth_in c b e && stands_at t s (pack_of e.put.question)) t
