-- A recall or withdrawal binds its batch for ever.
use Rattle.std.proofs.Common.{◌≡◌, true, false, cond, List, [], ◌∷◌, ◌++◌, Some, refl, sym, ap, ◌∙◌}
use Rattle.std.specs.Cmp.{first_so}
use Rattle.std.specs.Option.{option_or}
use Rattle.std.proofs.lemmas.List.Folds.{find-append}
use Rattle.nmvs_identifier.specs.ProductCode.{ProductCode}
use Rattle.nmvs_identifier.specs.Batch.{Batch}
use Rattle.nmvs_identifier.specs.Expiry.{Expiry}
use Rattle.nmvs_identifier.specs.declared.pack.Pack.{Pack}
use Rattle.nmvs_rules.specs.declared.batch_lock.BatchLock.{BatchLock}
use Rattle.nmvs_rules.specs.declared.batch_lock.BatchLock.TheVariants as lock
use Rattle.nmvs_rules.specs.declared.entry.Entry.{Entry}
use Rattle.nmvs_rules.specs.declared.facts.Known.{Known}
use Rattle.nmvs_rules.specs.declared.question.Question.TheVariants.{Upload}
use Rattle.nmvs_rules.specs.Trail.{born, known, lock_by, lock_of}
use Rattle.nmvs_rules.specs.Rules.{is_free, lock_on, IsLawful}
use Rattle.nmvs_rules.specs.Operations.{binds, goes_on}
use Rattle.nmvs_rules.specs.Laws.{IsUploadedWith}
use Rattle.nmvs_rules.proofs.Accepted.{accepted_upload, accepted_lock, decommissions-is, hands_over-is, reverts-is, confirms-is, binds-is}
use Rattle.nmvs_rules.proofs.PushLemmas.{lock_of-push, locks_batch-binds}
use Rattle.nmvs_rules.proofs.MarkLemmas.{known-by, birth-of}
use Rattle.nmvs_rules.proofs.CourseLemmas.{Behind, behind, behind-keeps, never, stays-by}
use Rattle.nmvs_rules.proofs.ReplyLemmas.{accepted_decommissioning-tells, accepted_handover-tells, accepted_reversion-tells, authentic_answer-tells}

bound-keeps : (l m : BatchLock) → is_free l ≡ false → is_free (cond (is_free l) m l) ≡ false
bound-keeps lock.Free m h = cc
bound-keeps lock.Recalled m h = refl
bound-keeps lock.Withdrawn m h = refl

bound : (l m : BatchLock) → is_free m ≡ false → is_free (cond (is_free l) m l) ≡ false
bound lock.Free m h = h
bound lock.Recalled m h = refl
bound lock.Withdrawn m h = refl

-- a batch that is bound stays bound
bound-push : (c : ProductCode) (b : Batch) (t : List Entry) (e : Entry) → is_free (lock_of t c b) ≡ false → is_free (lock_of (t ++ e ∷ []) c b) ≡ false
bound-push c b t e h = ap is_free (lock_of-push t e c b) ∙ bound-keeps (lock_of t c b) _ h

-- an accepted recall or withdrawal binds its batch
bound-first : (c : ProductCode) (b : Batch) (t : List Entry) (e : Entry) → accepted_lock c b e ≡ true → is_free (lock_of (t ++ e ∷ []) c b) ≡ false
bound-first c b t e h =
    ap is_free (lock_of-push t e c b)
    ∙ ap (λ a. is_free (cond (is_free (lock_of t c b)) (cond a (lock_by e.put.question) lock.Free) (lock_of t c b))) h
    ∙ bound (lock_of t c b) (lock_by e.put.question) (locks_batch-binds c b e.put.question (first_so _ _ h))

-- the batch of a known pack is the one that it was uploaded in
of-batch : (t v : List Entry) (p : Pack) (b : Batch) (x : Expiry) (k : Known) → known t p ≡ Some k → IsUploadedWith (t ++ v) p b x → k.batch ≡ b
of-batch t v p b x k is h =
    let by = known-by t p k is in
    let upload = birth-of (t ++ v) p b x h in
    let same : Some by.upload ≡ Some upload.0 = sym (find-append (accepted_upload p) t v ∙ ap (λ o. option_or o (born v p)) by.born) ∙ upload.1 in
    let entry : by.upload ≡ upload.0 = cc in
    let question : Upload by.pack k.batch k.expiry ≡ Upload upload.2.0 b x = sym by.question ∙ ap (λ e. e.put.question) entry ∙ upload.2.1 in
    cc

-- after a recall or withdrawal no pack of the batch goes on
pub recall-binds : (before between after : List Entry) (recall later : Entry) (p : Pack) (b : Batch) (x : Expiry) → IsLawful (before ++ recall ∷ between ++ later ∷ after) → binds p.code b recall ≡ true → IsUploadedWith (before ++ recall ∷ between ++ later ∷ after) p b x → goes_on p later ≡ false
recall-binds before between after recall later p b x lawful h uploaded =
    stays-by p later
    (decommissions-is p later ∙ never _ (λ d. let k = accepted_decommissioning-tells t later p at.later d in free k.0 k.1 k.2.free))
    (hands_over-is p later ∙ never _ (λ h. let k = accepted_handover-tells t later p at.later h in free k.0 k.1 k.2.free))
    (reverts-is p later ∙ never _ (λ r. let k = accepted_reversion-tells t later p at.later r in free k.0 k.1 k.2.free))
    (confirms-is p later ∙ never _ (λ s. let k = authentic_answer-tells t later p at.later s in free k.0 k.1 k.2.free))
  where
    t : List Entry
    t = before ++ recall ∷ between

    at : Behind before between recall later
    at = behind before between after recall later lawful

    bound : is_free (lock_of t p.code b) ≡ false
    bound =
        behind-keeps (λ z. is_free (lock_of z p.code b) ≡ false) (λ z e k l. bound-push p.code b z e k) before between recall
        (bound-first p.code b before recall (sym (binds-is p.code b recall) ∙ h)) at.between

    free : (k : Known) → known t p ≡ Some k → is_free (lock_on t p k) ≡ true → true ≡ false
    free k is f = sym f ∙ ap (λ c. is_free (lock_of t p.code c)) (of-batch t (later ∷ after) p b x k is uploaded) ∙ bound
