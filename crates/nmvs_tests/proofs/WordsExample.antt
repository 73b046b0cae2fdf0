-- The words of the formats, there and back.
use Rattle.std.proofs.Common.{◌≡◌, true, false, [], ◌∷◌, Some, None, refl}
use Rattle.std.specs.Prelude.{codes}
use Rattle.nmvs_identifier.specs.Texts.{Text}
use Rattle.nmvs_identifier.specs.declared.pack.Pack.{Pack}
use Rattle.nmvs_rules.specs.declared.role.Role.TheVariants as role
use Rattle.nmvs_rules.specs.declared.reason.Reason.TheVariants as reason
use Rattle.nmvs_rules.specs.declared.question.Question.TheVariants as question
use Rattle.nmvs_rules.specs.declared.refusal.Refusal.TheVariants as refusal
use Rattle.nmvs_rules.specs.declared.cause.Cause.TheVariants as cause
use Rattle.nmvs_rules.specs.declared.onward.Onward.TheVariants as onward
use Rattle.nmvs_rules.specs.declared.own_status.OwnStatus.TheVariants as own
use Rattle.nmvs_rules.specs.declared.batch_lock.BatchLock.TheVariants as lock
use Rattle.nmvs_rules.specs.declared.pack_question.PackQuestion.TheVariants as of_pack
use Rattle.nmvs_rules.specs.declared.batch_question.BatchQuestion.TheVariants as of_batch
use Rattle.nmvs_words.specs.declared.question_kind.QuestionKind.TheVariants as kind
use Rattle.nmvs_words.specs.declared.reply_kind.ReplyKind.TheVariants as reply
use Rattle.nmvs_words.specs.Words.{role_word, role_named, reason_word, own_word, own_named, lock_word, lock_named, onward_word, onward_named, cause_word, cause_named, validity_word, validity_named, flag_word, flag_named, refusal_word, refusal_numbered}
use Rattle.nmvs_words.specs.Kinds.{kind_word, kind_named, kind_of}
use Rattle.nmvs_words.specs.ReplyKinds.{reply_word, reply_named}
use Rattle.nmvs_tests.proofs.Gives.{Gives}

words : Gives (λ word. word) (
    (own_word own.Held, codes "HELD")
    ∷ (lock_word lock.Recalled, codes "RECALLED")
    ∷ (onward_word onward.Disposal, codes "DISPOSAL")
    ∷ (cause_word cause.Unknown, codes "UNKNOWN")
    ∷ (refusal_word refusal.NotHolder, codes "NOT_HOLDER")
    ∷ (reason_word reason.Destroy, codes "DESTROY")
    ∷ (validity_word false, codes "VALID")
    ∷ (flag_word true, codes "FLAGGED")
    ∷ (reply_word reply.Locked, codes "LOCKED")
    ∷ (reply_word reply.HandedOver, codes "HANDED_OVER")
    ∷ (role_word role.Pharmacy, codes "PHARMACY")
    ∷ [])
words = refl

own-read : own_named (codes "HELD") ≡ Some own.Held
own-read = refl

lock-read : lock_named (codes "RECALLED") ≡ Some lock.Recalled
lock-read = refl

onward-read : onward_named (codes "DISPOSAL") ≡ Some onward.Disposal
onward-read = refl

cause-read : cause_named (codes "UNKNOWN") ≡ Some cause.Unknown
cause-read = refl

validity-read : validity_named (codes "EXPIRED") ≡ Some true
validity-read = refl

flag-read : flag_named (codes "UNFLAGGED") ≡ Some false
flag-read = refl

replies-read : Gives reply_named ((codes "LOCKED", Some reply.Locked) ∷ (codes "locked", None) ∷ [])
replies-read = refl

refusals-read : Gives refusal_numbered ((4, Some refusal.NotHolder) ∷ (15, Some refusal.NotHeld) ∷ (16, None) ∷ [])
refusals-read = refl

roles-read : Gives role_named ((codes "PHARMACY", Some role.Pharmacy) ∷ (codes "DOCTOR", None) ∷ [])
roles-read = refl

kinds-read : Gives kind_named (
    (codes "HOLD", Some (kind.OfPack (of_pack.Decommission reason.Hold)))
    ∷ (codes "WITHDRAW", Some (kind.OfBatch of_batch.Withdraw))
    ∷ (codes "QUIT", None)
    ∷ [])
kinds-read = refl

abbrev code : Text
code = record { bytes = codes "09506000134352" }

abbrev pack : Pack
pack = record { code = code; serial = record { bytes = codes "SN1" } }

abbrev batch : Text
batch = record { bytes = codes "B1" }

kinds-of-questions : Gives (λ q. kind_word (kind_of q)) (
    (question.OfPack (of_pack.Decommission reason.Hold) pack, codes "HOLD")
    ∷ (question.OfBatch of_batch.Withdraw code batch, codes "WITHDRAW")
    ∷ (question.OfPack of_pack.Handover pack, codes "HANDOVER")
    ∷ [])
kinds-of-questions = refl
