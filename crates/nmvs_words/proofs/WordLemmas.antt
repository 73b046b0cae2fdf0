-- Words and the values that they name.
use Rattle.std.proofs.Common.{◌≡◌, ◌==◌, ℕ, Bool, true, false, cond, List, [], ◌∷◌, find, Some, refl, sym, ap, subst, ◌∙◌}
use Rattle.std.specs.List.{list_all}
use Rattle.std.specs.Str.{bytes_eq}
use Rattle.std.proofs.lemmas.Bool.{and_parts}
use Rattle.std.proofs.lemmas.Option.{same_Some}
use Rattle.std.proofs.lemmas.Slice.Eq.{bytes_eq-Decides}
use Rattle.nmvs_rules.specs.declared.role.Role.{Role}
use Rattle.nmvs_rules.specs.declared.role.Role.TheVariants as role
use Rattle.nmvs_rules.specs.declared.reason.Reason.TheVariants as reason
use Rattle.nmvs_rules.specs.declared.own_status.OwnStatus.{OwnStatus}
use Rattle.nmvs_rules.specs.declared.own_status.OwnStatus.TheVariants as own
use Rattle.nmvs_rules.specs.declared.batch_lock.BatchLock.{BatchLock}
use Rattle.nmvs_rules.specs.declared.batch_lock.BatchLock.TheVariants as lock
use Rattle.nmvs_rules.specs.declared.onward.Onward.{Onward}
use Rattle.nmvs_rules.specs.declared.onward.Onward.TheVariants as onward
use Rattle.nmvs_rules.specs.declared.cause.Cause.{Cause}
use Rattle.nmvs_rules.specs.declared.cause.Cause.TheVariants as cause
use Rattle.nmvs_rules.specs.declared.refusal.Refusal.{Refusal}
use Rattle.nmvs_rules.specs.declared.refusal.Refusal.TheVariants as refusal
use Rattle.nmvs_rules.specs.Replies.{refusal_number}
use Rattle.nmvs_rules.proofs.FindLemmas.{find-passes}
use Rattle.nmvs_rules.specs.declared.pack_question.PackQuestion.TheVariants.{Verify, Status, Decommission, Handover, Revert, Theft, Audit}
use Rattle.nmvs_rules.specs.declared.batch_question.BatchQuestion.TheVariants.{Recall, Withdraw}
use Rattle.nmvs_words.specs.declared.question_kind.QuestionKind.{QuestionKind}
use Rattle.nmvs_words.specs.declared.question_kind.QuestionKind.TheVariants.{Upload, OfPack, OfBatch}
use Rattle.nmvs_words.specs.declared.reply_kind.ReplyKind.{ReplyKind}
use Rattle.nmvs_words.specs.declared.reply_kind.ReplyKind.TheVariants as reply
use Rattle.nmvs_words.specs.Kinds.{kind_word, kind_named, kinds}
use Rattle.nmvs_words.specs.ReplyKinds.{reply_word, reply_named}
use Rattle.nmvs_words.specs.Words.{role_word, role_named, roles, own_word, own_named, lock_word, lock_named, onward_word, onward_named, cause_word, cause_named, validity_word, validity_named, flag_word, flag_named, refusals, refusal_numbered}

-- a kind is found by its word alone
pub kind_named-word : (w : List ℕ) (kind : QuestionKind) → kind_named w ≡ Some kind → w ≡ kind_word kind
kind_named-word w kind e = (bytes_eq-Decides w (kind_word kind)).0 (find-passes (λ k. bytes_eq w (kind_word k)) kinds kind e)

-- a kind's word finds it
pub kind_named-of_word : (kind : QuestionKind) → kind_named (kind_word kind) ≡ Some kind
kind_named-of_word Upload = refl
kind_named-of_word (OfPack Verify) = refl
kind_named-of_word (OfPack Status) = refl
kind_named-of_word (OfPack (Decommission reason.Supply)) = refl
kind_named-of_word (OfPack (Decommission reason.Hold)) = refl
kind_named-of_word (OfPack (Decommission reason.Export)) = refl
kind_named-of_word (OfPack (Decommission reason.Sample)) = refl
kind_named-of_word (OfPack (Decommission reason.Destroy)) = refl
kind_named-of_word (OfPack Handover) = refl
kind_named-of_word (OfPack Revert) = refl
kind_named-of_word (OfPack Theft) = refl
kind_named-of_word (OfPack Audit) = refl
kind_named-of_word (OfBatch Recall) = refl
kind_named-of_word (OfBatch Withdraw) = refl

-- what passes a test if all of a list pass it: an element that is found in the list
found-passes : {X : Type 0} (p test : X → Bool) → (xs : List X) (x : X) → list_all test xs ≡ true → find p xs ≡ Some x → test x ≡ true
found-passes p test [] x all found = cc
found-passes p test (y ∷ ys) x all found =
    let parts = and_parts (test y) (list_all test ys) all in
    elim (p y) as (λ b. cond b (Some y) (find p ys) ≡ Some x → test x ≡ true) [
      | true ↦ λ is. let same : y ≡ x = cc in subst (λ z. test z ≡ true) same parts.0
      | false ↦ λ is. found-passes p test ys x parts.1 is
    ] found

-- each value passes a test that all of a list pass, if its word finds it there
pub every : {X : Type 0} (word : X → List ℕ) (xs : List X) → ((x : X) → find (λ k. bytes_eq (word x) (word k)) xs ≡ Some x)
    → (test : X → Bool) → list_all test xs ≡ true → (x : X) → test x ≡ true
every word xs finds test all x = found-passes (λ k. bytes_eq (word x) (word k)) test xs x all (finds x)

-- each kind passes a test that the list of all kinds passes
pub every_kind : (test : QuestionKind → Bool) → list_all test kinds ≡ true → (kind : QuestionKind) → test kind ≡ true
every_kind = every kind_word kinds kind_named-of_word

-- different kinds have different words
pub kind_word-one : (k k' : QuestionKind) → kind_word k ≡ kind_word k' → k ≡ k'
kind_word-one k k' e = same_Some k k' (sym (kind_named-of_word k) ∙ ap kind_named e ∙ kind_named-of_word k')

-- a role is found by its word alone
pub role_named-word : (w : List ℕ) (r : Role) → role_named w ≡ Some r → w ≡ role_word r
role_named-word w r e = (bytes_eq-Decides w (role_word r)).0 (find-passes (λ k. bytes_eq w (role_word k)) roles r e)

-- a role's word finds it
pub role_named-of_word : (r : Role) → role_named (role_word r) ≡ Some r
role_named-of_word role.Holder = refl
role_named-of_word role.Manufacturer = refl
role_named-of_word role.Wholesaler = refl
role_named-of_word role.Pharmacy = refl
role_named-of_word role.Authority = refl

-- different roles have different words
pub role_word-one : (r r' : Role) → role_word r ≡ role_word r' → r ≡ r'
role_word-one r r' e = same_Some r r' (sym (role_named-of_word r) ∙ ap role_named e ∙ role_named-of_word r')

-- the word of an own status finds it
pub own_named-of_word : (x : OwnStatus) → own_named (own_word x) ≡ Some x
own_named-of_word own.Active = refl
own_named-of_word own.Held = refl
own_named-of_word own.Supplied = refl
own_named-of_word own.Exported = refl
own_named-of_word own.Sampled = refl
own_named-of_word own.Destroyed = refl
own_named-of_word own.Stolen = refl

-- so does the word of a lock
pub lock_named-of_word : (x : BatchLock) → lock_named (lock_word x) ≡ Some x
lock_named-of_word lock.Free = refl
lock_named-of_word lock.Recalled = refl
lock_named-of_word lock.Withdrawn = refl

-- so does the word that says where a pack may go
pub onward_named-of_word : (x : Onward) → onward_named (onward_word x) ≡ Some x
onward_named-of_word onward.Stock = refl
onward_named-of_word onward.Supply = refl
onward_named-of_word onward.Export = refl
onward_named-of_word onward.Disposal = refl
onward_named-of_word onward.Authorities = refl
onward_named-of_word onward.Nowhere = refl

-- so does the word of a cause
pub cause_named-of_word : (x : Cause) → cause_named (cause_word x) ≡ Some x
cause_named-of_word cause.Unknown = refl
cause_named-of_word cause.Recalled = refl
cause_named-of_word cause.Withdrawn = refl
cause_named-of_word cause.Held = refl
cause_named-of_word cause.Supplied = refl
cause_named-of_word cause.Exported = refl
cause_named-of_word cause.Sampled = refl
cause_named-of_word cause.Destroyed = refl
cause_named-of_word cause.Stolen = refl

-- so does the word that says whether a pack has expired
pub validity_named-of_word : (x : Bool) → validity_named (validity_word x) ≡ Some x
validity_named-of_word true = refl
validity_named-of_word false = refl

-- so does the word that says whether an alert is flagged
pub flag_named-of_word : (x : Bool) → flag_named (flag_word x) ≡ Some x
flag_named-of_word true = refl
flag_named-of_word false = refl

-- a refusal's number finds it
pub refusal_numbered-of_word : (x : Refusal) → refusal_numbered (refusal_number x) ≡ Some x
refusal_numbered-of_word refusal.Role = refl
refusal_numbered-of_word refusal.Unknown = refl
refusal_numbered-of_word refusal.UnknownBatch = refl
refusal_numbered-of_word refusal.NotHolder = refl
refusal_numbered-of_word refusal.Duplicate = refl
refusal_numbered-of_word refusal.Already = refl
refusal_numbered-of_word refusal.Locked = refl
refusal_numbered-of_word refusal.StillActive = refl
refusal_numbered-of_word refusal.IsStolen = refl
refusal_numbered-of_word refusal.IsDestroyed = refl
refusal_numbered-of_word refusal.WasSupplied = refl
refusal_numbered-of_word refusal.Other = refl
refusal_numbered-of_word refusal.Late = refl
refusal_numbered-of_word refusal.Expired = refl
refusal_numbered-of_word refusal.NotHeld = refl

-- each refusal passes a test that the list of all refusals passes
pub every_refusal : (test : Refusal → Bool) → list_all test refusals ≡ true → (r : Refusal) → test r ≡ true
every_refusal test all r = found-passes (λ k. refusal_number r == refusal_number k) test refusals r all (refusal_numbered-of_word r)

-- the word of a kind of reply finds it
pub reply_named-of_word : (kind : ReplyKind) → reply_named (reply_word kind) ≡ Some kind
reply_named-of_word reply.Uploaded = refl
reply_named-of_word reply.Authentic = refl
reply_named-of_word reply.Alert = refl
reply_named-of_word reply.Status = refl
reply_named-of_word reply.NoPack = refl
reply_named-of_word reply.Decommissioned = refl
reply_named-of_word reply.HandedOver = refl
reply_named-of_word reply.Reverted = refl
reply_named-of_word reply.Locked = refl
reply_named-of_word reply.Stolen = refl
reply_named-of_word reply.Shown = refl
reply_named-of_word reply.Refused = refl
