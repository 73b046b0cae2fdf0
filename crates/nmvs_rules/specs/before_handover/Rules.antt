-- The questions that each role might ask, and the reply of the rules, before a pack could be handed over. `may_ask` and
-- `admitted_reply` have changed since; the others are as in `specs/Rules`, over these two and the trail of that time.
use Rattle.std.specs.Prelude.{ℕ, ◌≡◌, Bool, true, false, List, [], ◌∷◌, ◌++◌, if◌then◌else◌}
use Rattle.nmvs_identifier.specs.declared.pack.Pack.{Pack}
use Rattle.nmvs_rules.specs.declared.actor.Actor.{Actor}
use Rattle.nmvs_rules.specs.declared.batch_lock.BatchLock.{BatchLock}
use Rattle.nmvs_rules.specs.declared.entry.Entry.{Entry}
use Rattle.nmvs_rules.specs.declared.facts.Known.{Known}
use Rattle.nmvs_rules.specs.declared.own_status.OwnStatus.TheVariants as own
use Rattle.nmvs_rules.specs.declared.question.Question.{Question}
use Rattle.nmvs_rules.specs.declared.question.Question.TheVariants.{Upload, OfPack, OfBatch}
use Rattle.nmvs_rules.specs.declared.pack_question.PackQuestion.TheVariants.{Verify, Status, Decommission, Revert, Theft, Audit}
use Rattle.nmvs_rules.specs.declared.refusal.Refusal.TheVariants as refusal
use Rattle.nmvs_rules.specs.declared.reply.Reply.{Reply}
use Rattle.nmvs_rules.specs.declared.reply.Reply.TheVariants as reply
use Rattle.nmvs_rules.specs.declared.role.Role.{Role}
use Rattle.nmvs_rules.specs.declared.put.Put.{Put}
use Rattle.nmvs_rules.specs.Questions.{may_decommission, is_handler, is_holder, is_authority}
use Rattle.nmvs_rules.specs.Trail.{alerts_of, about_of}
use Rattle.nmvs_rules.specs.Rules.{on_pack, upload_reply, alert_unknown, verify_reply, status_reply, decommission_reply, revert_reply, lock_reply, theft_reply}
use Rattle.nmvs_rules.specs.before_handover.Trail.{known, lock_of, holder_of, count_of, is_known_batch}

-- whether a role might ask a question; none might hand over a pack
abbrev pub may_ask : Role → Question → Bool
may_ask r (Upload _ _ _) = is_holder r
may_ask r (OfBatch _ _ _) = is_holder r
may_ask r (OfPack Theft _) = is_holder r
may_ask r (OfPack Verify _) = is_handler r
may_ask r (OfPack Revert _) = is_handler r
may_ask r (OfPack (Decommission reason) _) = may_decommission r reason
may_ask r (OfPack Status _) = true
may_ask r (OfPack Audit _) = is_authority r
may_ask r _ = false

abbrev pub lock_on : List Entry → Pack → Known → BatchLock
lock_on t p k = lock_of t p.code k.batch

-- the reply to an admitted question
abbrev pub admitted_reply : List Entry → ℕ → Actor → Question → Reply
admitted_reply t moment a (Upload p b x) = upload_reply a (holder_of t p.code) (known t p)
admitted_reply t moment a (OfPack Verify p) =
    on_pack (known t p) (alert_unknown (alerts_of t p.code)) (λ k. verify_reply moment k (lock_on t p k) (alerts_of t p.code))
admitted_reply t moment a (OfPack Status p) = on_pack (known t p) reply.NoPack (λ k. status_reply k (lock_on t p k))
admitted_reply t moment a (OfPack (Decommission r) p) =
    on_pack (known t p) (alert_unknown (alerts_of t p.code)) (λ k. decommission_reply k (lock_on t p k) (alerts_of t p.code))
admitted_reply t moment a (OfPack Revert p) =
    on_pack (known t p) (reply.Refused refusal.Unknown) (λ k. revert_reply moment a k (lock_on t p k))
admitted_reply t moment a (OfBatch _ c b) =
    lock_reply a (is_known_batch t c b) (holder_of t c) (lock_of t c b) (count_of t c b own.Active)
admitted_reply t moment a (OfPack Theft p) =
    on_pack (known t p) (reply.Refused refusal.Unknown) (λ k. theft_reply a (holder_of t p.code) k)
admitted_reply t moment a (OfPack Audit p) = reply.Shown (about_of t p)
admitted_reply t moment a _ = reply.Refused refusal.Role

abbrev pub reply_of : List Entry → Put → Reply
reply_of t q =
    if may_ask q.actor.role q.question then admitted_reply t q.moment q.actor q.question else reply.Refused refusal.Role

abbrev pub IsLawfulAfter : List Entry → List Entry → Type 0
IsLawfulAfter u [] = Unit {0}
IsLawfulAfter u (e ∷ es) = (e.reply ≡ reply_of u e.put) × IsLawfulAfter (u ++ e ∷ []) es

-- a trail that was lawful
abbrev pub IsLawful : List Entry → Type 0
IsLawful t = IsLawfulAfter [] t
