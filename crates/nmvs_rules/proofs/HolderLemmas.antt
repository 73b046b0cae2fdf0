-- Questions that are accepted from the holder of a product code alone.
use Rattle.std.proofs.Common.{◌≡◌, ℕ, true, false, List, Option, Some, None, IsSomeAnd, inl, inr, sym, ap, ◌∙◌}
use Rattle.std.proofs.lemmas.Bool.{not-false}
use Rattle.std.specs.List.{find, list_any}
use Rattle.std.specs.Option.{is_some, option_map}
use Rattle.nmvs_identifier.specs.Batch.{Batch}
use Rattle.nmvs_identifier.specs.Expiry.{Expiry}
use Rattle.nmvs_identifier.specs.Name.{Name}
use Rattle.nmvs_identifier.specs.ProductCode.{ProductCode}
use Rattle.nmvs_identifier.specs.declared.pack.Pack.{Pack}
use Rattle.nmvs_rules.specs.declared.entry.Entry.{Entry}
use Rattle.nmvs_rules.specs.declared.question.Question.TheVariants.{Upload, OfPack, OfBatch}
use Rattle.nmvs_rules.specs.declared.pack_question.PackQuestion.TheVariants.{Theft}
use Rattle.nmvs_rules.specs.declared.batch_question.BatchQuestion.TheVariants.{Recall, Withdraw}
use Rattle.nmvs_rules.specs.declared.reply.Reply.TheVariants as reply
use Rattle.nmvs_rules.specs.declared.put.Put.{Put}
use Rattle.nmvs_rules.specs.Trail.{holder_of}
use Rattle.nmvs_rules.specs.Rules.{is_held_by, has_other_holder, reply_of}
use Rattle.nmvs_rules.specs.Operations.{uploads_code}
use Rattle.nmvs_rules.specs.Laws.{IsHeldBy, AsksLock}
use Rattle.nmvs_rules.proofs.Accepted.{first-upload_of_code}
use Rattle.nmvs_rules.proofs.FindLemmas.{is_some-find}
use Rattle.nmvs_rules.proofs.TextLemmas.{same_text-bytes}
use Rattle.nmvs_rules.proofs.ReplyLemmas.{upload-holder, theft-holder, lock-holder, reply-question}

-- the holder is the authorisation of the first upload of the product code
pub holder-first : (t : List Entry) (c : ProductCode) → holder_of t c ≡ option_map (λ e. e.put.actor.authorisation) (find (uploads_code c) t)
holder-first t c = ap (option_map (λ e. e.put.actor.authorisation)) (sym (first-upload_of_code t c))

-- the holder uploaded first
pub held : (t : List Entry) (c : ProductCode) (n : Name) → is_held_by (holder_of t c) n ≡ true → IsHeldBy t c n
held t c n h = by (find (uploads_code c) t) (sym (ap (λ o. is_held_by o n) (holder-first t c)) ∙ h)
  where
    by : (o : Option Entry) → is_held_by (option_map (λ e. e.put.actor.authorisation) o) n ≡ true → IsSomeAnd o (λ u. u.put.actor.authorisation.bytes ≡ n.bytes)
    by None wrong = cc
    by (Some u) same = same_text-bytes u.put.actor.authorisation n same

-- so did an authorisation next to which there is no other holder, if there was an upload
pub not-other : (t : List Entry) (c : ProductCode) (n : Name) → has_other_holder (holder_of t c) n ≡ false → list_any (uploads_code c) t ≡ true → IsHeldBy t c n
not-other t c n h some = by (find (uploads_code c) t) (is_some-find (uploads_code c) t ∙ some) (sym (ap (λ o. has_other_holder o n) (holder-first t c)) ∙ h)
  where
    by : (o : Option Entry) → is_some o ≡ true → has_other_holder (option_map (λ e. e.put.actor.authorisation) o) n ≡ false → IsSomeAnd o (λ u. u.put.actor.authorisation.bytes ≡ n.bytes)
    by None wrong h = cc
    by (Some u) one same = same_text-bytes u.put.actor.authorisation n (not-false _ same)

-- an upload of a product code that was uploaded before is accepted from its holder alone
pub holder-uploads : (t : List Entry) (q : Put) (p : Pack) (b : Batch) (x : Expiry) → q.question ≡ Upload p b x → list_any (uploads_code p.code) t ≡ true → reply_of t q ≡ reply.Uploaded → IsHeldBy t p.code q.actor.authorisation
holder-uploads t q p b x is some h =
    not-other t p.code q.actor.authorisation (upload-holder t q.moment q.actor p b x (sym h ∙ reply-question t q (Upload p b x) is)) some

-- so is a theft report
pub holder-thefts : (t : List Entry) (q : Put) (p : Pack) → q.question ≡ OfPack Theft p → reply_of t q ≡ reply.MarkedStolen → IsHeldBy t p.code q.actor.authorisation
holder-thefts t q p is h =
    held t p.code q.actor.authorisation (theft-holder t q.moment q.actor p (sym h ∙ reply-question t q (OfPack Theft p) is))

-- so is a recall or withdrawal
pub holder-locks : (t : List Entry) (q : Put) (c : ProductCode) (b : Batch) (n : ℕ) → AsksLock c b q.question → reply_of t q ≡ reply.LockedNow n → IsHeldBy t c q.actor.authorisation
holder-locks t q c b n (inl is) h =
    held t c q.actor.authorisation (lock-holder t q.actor c b n _ (sym h ∙ reply-question t q (OfBatch Recall c b) is))
holder-locks t q c b n (inr is) h =
    held t c q.actor.authorisation (lock-holder t q.actor c b n _ (sym h ∙ reply-question t q (OfBatch Withdraw c b) is))
