-- The words of the formats are plain.
use Rattle.std.proofs.Common.{◌≡◌, ◌&&◌, ℕ, Bool, true, false, List, [], ◌∷◌, find, Some, length, nat_le, refl}
use Rattle.std.specs.List.{list_all}
use Rattle.std.specs.Str.{bytes_eq}
use Rattle.std.proofs.lemmas.Bool.{and_parts, leb-true}
use Rattle.nmvs_identifier.specs.Texts.{longest_text}
use Rattle.nmvs_identifier.proofs.PlainTexts.{IsPlain, is_plain}
use Rattle.nmvs_rules.specs.declared.role.Role.{Role}
use Rattle.nmvs_rules.specs.declared.own_status.OwnStatus.{OwnStatus}
use Rattle.nmvs_rules.specs.declared.batch_lock.BatchLock.{BatchLock}
use Rattle.nmvs_rules.specs.declared.onward.Onward.{Onward}
use Rattle.nmvs_rules.specs.declared.cause.Cause.{Cause}
use Rattle.nmvs_rules.specs.declared.refusal.Refusal.{Refusal}
use Rattle.nmvs_words.specs.declared.question_kind.QuestionKind.{QuestionKind}
use Rattle.nmvs_words.specs.declared.reply_kind.ReplyKind.{ReplyKind}
use Rattle.nmvs_words.specs.Kinds.{kind_word, kinds}
use Rattle.nmvs_words.specs.ReplyKinds.{reply_word, reply_kinds}
use Rattle.nmvs_words.specs.Words.{role_word, roles, own_word, owns, lock_word, locks, onward_word, onwards, cause_word, causes, validity_word, flag_word, refusal_word}
use Rattle.nmvs_words.proofs.WordLemmas.{every, every_refusal, kind_named-of_word, reply_named-of_word, role_named-of_word, own_named-of_word, lock_named-of_word, onward_named-of_word, cause_named-of_word, validity_named-of_word, flag_named-of_word}

-- whether a text is plain
abbrev pub plain : List ℕ → Bool
plain t = nat_le 1 (length t) && (nat_le (length t) longest_text && list_all is_plain t)

by_test : (t : List ℕ) → plain t ≡ true → IsPlain t
by_test t e =
    let parts = and_parts (nat_le 1 (length t)) _ e in
    let more = and_parts (nat_le (length t) longest_text) _ parts.1 in
    (leb-true 1 (length t) parts.0, leb-true (length t) longest_text more.0, more.1)

-- words are plain if each of a list is, and each word finds its value there
each : {X : Type 0} (word : X → List ℕ) (xs : List X) → ((x : X) → find (λ k. bytes_eq (word x) (word k)) xs ≡ Some x)
    → list_all (λ x. plain (word x)) xs ≡ true → (x : X) → IsPlain (word x)
each word xs finds all x = by_test (word x) (every word xs finds (λ k. plain (word k)) all x)

-- the words of questions and replies are plain
pub word_plain : (kind : QuestionKind) → IsPlain (kind_word kind)
word_plain = each kind_word kinds kind_named-of_word refl

pub reply_word_plain : (k : ReplyKind) → IsPlain (reply_word k)
reply_word_plain = each reply_word reply_kinds reply_named-of_word refl

-- so are those of their values
pub role_plain : (r : Role) → IsPlain (role_word r)
role_plain = each role_word roles role_named-of_word refl

pub own_plain : (o : OwnStatus) → IsPlain (own_word o)
own_plain = each own_word owns own_named-of_word refl

pub lock_plain : (l : BatchLock) → IsPlain (lock_word l)
lock_plain = each lock_word locks lock_named-of_word refl

pub onward_plain : (o : Onward) → IsPlain (onward_word o)
onward_plain = each onward_word onwards onward_named-of_word refl

pub cause_plain : (c : Cause) → IsPlain (cause_word c)
cause_plain = each cause_word causes cause_named-of_word refl

pub validity_plain : (expired : Bool) → IsPlain (validity_word expired)
validity_plain = each validity_word (false ∷ true ∷ []) validity_named-of_word refl

pub flag_plain : (flagged : Bool) → IsPlain (flag_word flagged)
flag_plain = each flag_word (true ∷ false ∷ []) flag_named-of_word refl

pub refusal_plain : (r : Refusal) → IsPlain (refusal_word r)
refusal_plain r = by_test (refusal_word r) (every_refusal (λ k. plain (refusal_word k)) refl r)
