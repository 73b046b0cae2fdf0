-- Questions that are asked again.
use Rattle.std.proofs.Common.{◌≡◌, ◌&&◌, true, refl, ap}
use Rattle.std.specs.Cmp.{first_so, second_so}
use Rattle.std.specs.Cmp.Derive.{both_true}
use Rattle.nmvs_rules.specs.declared.actor.Actor.{Actor}
use Rattle.nmvs_rules.specs.declared.role.Role.{Role}
use Rattle.nmvs_rules.specs.declared.role.Role.TheVariants as role
use Rattle.nmvs_rules.specs.declared.reason.Reason.{Reason}
use Rattle.nmvs_rules.specs.declared.reason.Reason.TheVariants as reason
use Rattle.nmvs_rules.specs.declared.question.Question.{Question}
use Rattle.nmvs_rules.specs.declared.question.Question.TheVariants.{Upload, OfPack, OfBatch}
use Rattle.nmvs_rules.specs.declared.pack_question.PackQuestion.{PackQuestion}
use Rattle.nmvs_rules.specs.declared.pack_question.PackQuestion.TheVariants.{Verify, Status, Decommission, Handover, Revert, Theft, Audit}
use Rattle.nmvs_rules.specs.declared.batch_question.BatchQuestion.{BatchQuestion}
use Rattle.nmvs_rules.specs.declared.batch_question.BatchQuestion.TheVariants.{Recall, Withdraw}
use Rattle.nmvs_identifier.specs.Texts.{same_text}
use Rattle.nmvs_identifier.specs.Pack.{same_pack}
use Rattle.nmvs_rules.specs.contracts.role.RolePartialEq.TheImpl as role_eq
use Rattle.nmvs_rules.specs.contracts.reason.ReasonPartialEq.TheImpl as reason_eq
use Rattle.nmvs_rules.specs.contracts.actor.ActorPartialEq.TheImpl as actor_eq
use Rattle.nmvs_rules.specs.contracts.pack_question.PackQuestionPartialEq.TheImpl as pack_question_eq
use Rattle.nmvs_rules.specs.contracts.batch_question.BatchQuestionPartialEq.TheImpl as batch_question_eq
use Rattle.nmvs_rules.specs.contracts.question.QuestionPartialEq.TheImpl as question_eq
use Rattle.nmvs_rules.specs.Repeats.{same_role, same_reason, same_actor, same_pack_question, same_batch_question, same_question}
use Rattle.nmvs_rules.proofs.TextLemmas.{same_text-equal, same_text-refl, same_pack-equal, same_pack-refl}

-- the `==` of roles is that of the definitions
derived-role : (r s : Role) → (role_eq.ghosts).eq r s ≡ same_role r s
derived-role role.Holder role.Holder = refl
derived-role role.Manufacturer role.Manufacturer = refl
derived-role role.Wholesaler role.Wholesaler = refl
derived-role role.Pharmacy role.Pharmacy = refl
derived-role role.Authority role.Authority = refl
derived-role _ _ = refl

-- so is that of reasons
derived-reason : (r s : Reason) → (reason_eq.ghosts).eq r s ≡ same_reason r s
derived-reason reason.Supply reason.Supply = refl
derived-reason reason.Hold reason.Hold = refl
derived-reason reason.Export reason.Export = refl
derived-reason reason.Sample reason.Sample = refl
derived-reason reason.Destroy reason.Destroy = refl
derived-reason _ _ = refl

-- so is that of actors
pub derived-actor : (a b : Actor) → (actor_eq.ghosts).eq a b ≡ same_actor a b
derived-actor a b = ap (λ s. s && (same_text a.authorisation b.authorisation && same_text a.premises b.premises)) (derived-role a.role b.role)

derived-pack_question : (q r : PackQuestion) → (pack_question_eq.ghosts).eq q r ≡ same_pack_question q r
derived-pack_question Verify Verify = refl
derived-pack_question Status Status = refl
derived-pack_question (Decommission r) (Decommission s) = derived-reason r s
derived-pack_question Handover Handover = refl
derived-pack_question Revert Revert = refl
derived-pack_question Theft Theft = refl
derived-pack_question Audit Audit = refl
derived-pack_question _ _ = refl

derived-batch_question : (q r : BatchQuestion) → (batch_question_eq.ghosts).eq q r ≡ same_batch_question q r
derived-batch_question Recall Recall = refl
derived-batch_question Withdraw Withdraw = refl
derived-batch_question _ _ = refl

-- so is that of questions
pub derived-question : (q r : Question) → (question_eq.ghosts).eq q r ≡ same_question q r
derived-question (Upload p b x) (Upload q c y) = refl
derived-question (OfPack asked p) (OfPack other q) = ap (λ s. s && same_pack p q) (derived-pack_question asked other)
derived-question (OfBatch asked c b) (OfBatch other d e) =
    ap (λ s. s && (same_text c d && same_text b e)) (derived-batch_question asked other)
derived-question _ _ = refl

same_role-equal : (r s : Role) → same_role r s ≡ true → r ≡ s
same_role-equal role.Holder role.Holder h = refl
same_role-equal role.Manufacturer role.Manufacturer h = refl
same_role-equal role.Wholesaler role.Wholesaler h = refl
same_role-equal role.Pharmacy role.Pharmacy h = refl
same_role-equal role.Authority role.Authority h = refl
same_role-equal _ _ h = cc

same_reason-equal : (r s : Reason) → same_reason r s ≡ true → r ≡ s
same_reason-equal reason.Supply reason.Supply h = refl
same_reason-equal reason.Hold reason.Hold h = refl
same_reason-equal reason.Export reason.Export h = refl
same_reason-equal reason.Sample reason.Sample h = refl
same_reason-equal reason.Destroy reason.Destroy h = refl
same_reason-equal _ _ h = cc

same_pack_question-equal : (q r : PackQuestion) → same_pack_question q r ≡ true → q ≡ r
same_pack_question-equal Verify Verify h = refl
same_pack_question-equal Status Status h = refl
same_pack_question-equal (Decommission r) (Decommission s) h = ap Decommission (same_reason-equal r s h)
same_pack_question-equal Handover Handover h = refl
same_pack_question-equal Revert Revert h = refl
same_pack_question-equal Theft Theft h = refl
same_pack_question-equal Audit Audit h = refl
same_pack_question-equal _ _ h = cc

same_batch_question-equal : (q r : BatchQuestion) → same_batch_question q r ≡ true → q ≡ r
same_batch_question-equal Recall Recall h = refl
same_batch_question-equal Withdraw Withdraw h = refl
same_batch_question-equal _ _ h = cc

-- the same actors are equal
pub same_actor-equal : (a b : Actor) → same_actor a b ≡ true → a ≡ b
same_actor-equal a b h =
    let texts = second_so (same_role a.role b.role) _ h in
    λ i. record {
      role = same_role-equal a.role b.role (first_so _ _ h) i;
      authorisation = same_text-equal a.authorisation b.authorisation (first_so _ _ texts) i;
      premises = same_text-equal a.premises b.premises (second_so (same_text a.authorisation b.authorisation) _ texts) i;
    }

-- the same questions are equal
pub same_question-equal : (q r : Question) → same_question q r ≡ true → q ≡ r
same_question-equal (Upload p b x) (Upload q c y) h =
    let texts = second_so (same_pack p q) _ h in
    λ i. Upload (same_pack-equal p q (first_so _ _ h) i) (same_text-equal b c (first_so _ _ texts) i) (same_text-equal x y (second_so (same_text b c) _ texts) i)
same_question-equal (OfPack asked p) (OfPack other q) h =
    λ i. OfPack (same_pack_question-equal asked other (first_so _ _ h) i) (same_pack-equal p q (second_so (same_pack_question asked other) _ h) i)
same_question-equal (OfBatch asked c b) (OfBatch other d e) h =
    let texts = second_so (same_batch_question asked other) _ h in
    λ i. OfBatch (same_batch_question-equal asked other (first_so _ _ h) i) (same_text-equal c d (first_so _ _ texts) i) (same_text-equal b e (second_so (same_text c d) _ texts) i)
same_question-equal _ _ h = cc

same_role-refl : (r : Role) → same_role r r ≡ true
same_role-refl role.Holder = refl
same_role-refl role.Manufacturer = refl
same_role-refl role.Wholesaler = refl
same_role-refl role.Pharmacy = refl
same_role-refl role.Authority = refl

same_reason-refl : (r : Reason) → same_reason r r ≡ true
same_reason-refl reason.Supply = refl
same_reason-refl reason.Hold = refl
same_reason-refl reason.Export = refl
same_reason-refl reason.Sample = refl
same_reason-refl reason.Destroy = refl

same_pack_question-refl : (q : PackQuestion) → same_pack_question q q ≡ true
same_pack_question-refl Verify = refl
same_pack_question-refl Status = refl
same_pack_question-refl (Decommission r) = same_reason-refl r
same_pack_question-refl Handover = refl
same_pack_question-refl Revert = refl
same_pack_question-refl Theft = refl
same_pack_question-refl Audit = refl

same_batch_question-refl : (q : BatchQuestion) → same_batch_question q q ≡ true
same_batch_question-refl Recall = refl
same_batch_question-refl Withdraw = refl

-- an actor is the same as itself
pub same_actor-refl : (a : Actor) → same_actor a a ≡ true
same_actor-refl a = both_true (same_role-refl a.role) (both_true (same_text-refl a.authorisation) (same_text-refl a.premises))

-- and so is a question
pub same_question-refl : (q : Question) → same_question q q ≡ true
same_question-refl (Upload p b x) = both_true (same_pack-refl p) (both_true (same_text-refl b) (same_text-refl x))
same_question-refl (OfPack asked p) = both_true (same_pack_question-refl asked) (same_pack-refl p)
same_question-refl (OfBatch asked c b) = both_true (same_batch_question-refl asked) (both_true (same_text-refl c) (same_text-refl b))
