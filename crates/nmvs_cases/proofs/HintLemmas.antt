-- A hint says what the trail has.
use Rattle.std.proofs.Common.{◌≡◌, ◌≢◌, ◌⊎◌, inl, inr, ◌≤◌, ◌+◌, ◌&&◌, ℕ, Bool, true, false, not, cond, List, Option, Some, None, refl, sym, subst, ap, ◌∙◌, arith}
use Rattle.std.specs.Prelude.{find, nat_le}
use Rattle.std.specs.Option.{is_some, option_and_then}
use Rattle.std.proofs.lemmas.Bool.{and_parts}
use Rattle.std.proofs.lemmas.Bool.Decides.{nat_tests}
use Rattle.nmvs_identifier.specs.Name.{Name}
use Rattle.nmvs_identifier.specs.Texts.{same_text}
use Rattle.nmvs_identifier.specs.declared.pack.Pack.{Pack}
use Rattle.nmvs_rules.specs.declared.cause.Cause.{Cause}
use Rattle.nmvs_rules.specs.declared.cause.Cause.TheVariants as causes
use Rattle.nmvs_rules.specs.declared.entry.Entry.{Entry}
use Rattle.nmvs_rules.specs.declared.facts.Known.{Known}
use Rattle.nmvs_rules.specs.declared.facts.Mark.{Mark}
use Rattle.nmvs_rules.specs.declared.put.Put.{Put}
use Rattle.nmvs_rules.specs.Operations.{uploads}
use Rattle.nmvs_rules.specs.Trail.{known}
use Rattle.nmvs_rules.proofs.Accepted.{first-upload, last-operation}
use Rattle.nmvs_rules.proofs.BirthLemmas.{is_some-known}
use Rattle.nmvs_rules.proofs.FindLemmas.{find-passes}
use Rattle.nmvs_rules.proofs.MarkLemmas.{known-by}
use Rattle.nmvs_rules.proofs.TextLemmas.{same_text-bytes, same_text-from_bytes}
use Rattle.nmvs_cases.specs.declared.hint.Hint.{Hint}
use Rattle.nmvs_cases.specs.declared.hint.Hint.TheVariants.{Late, Own, House}
use Rattle.nmvs_cases.specs.Hints.{all_hints, hint_behind, hint_by, holds_behind, holds_of_unknown, is_in_a_day, is_own_cause, repeated_hint}
use Rattle.nmvs_cases.specs.Laws.{HintsAreTrue, IsRepeated}

-- a hint of a repetition holds of what was known of the pack
repeated-holds : (c : Cause) (q : Put) (k : Option Known) (h : Hint) → repeated_hint c q k ≡ Some h → (it : Known) × (k ≡ Some it) × (holds_behind it.mark q h ≡ true)
repeated-holds c q k h is = by (is_own_cause c) k refl is
  where
    by : (b : Bool) (o : Option Known) → k ≡ o → cond b (option_and_then (λ it. hint_behind it.mark q) o) None ≡ Some h → (it : Known) × (k ≡ Some it) × (holds_behind it.mark q h ≡ true)
    by false o same e = absurd (cc e)
    by true None same e = absurd (cc e)
    by true (Some it) same e = (it, same, find-passes (holds_behind it.mark q) all_hints h e)

-- a hint is one of an unknown pack, or of a repetition
abbrev Holds : List Entry → Put → Pack → Option Known → Hint → Cause → Type 0
Holds t q p k h c = ((c ≡ causes.Unknown) × (holds_of_unknown t p h ≡ true)) ⊎ ((it : Known) × (k ≡ Some it) × (holds_behind it.mark q h ≡ true))

hint-holds : (t : List Entry) (q : Put) (p : Pack) (k : Option Known) (h : Hint) (c : Cause) → hint_by t p c (repeated_hint c q k) ≡ Some h → Holds t q p k h c
hint-holds t q p k h causes.Unknown is = inl (refl, find-passes (holds_of_unknown t p) all_hints h is)
hint-holds t q p k h causes.Recalled is = inr (repeated-holds causes.Recalled q k h is)
hint-holds t q p k h causes.Withdrawn is = inr (repeated-holds causes.Withdrawn q k h is)
hint-holds t q p k h causes.Held is = inr (repeated-holds causes.Held q k h is)
hint-holds t q p k h causes.Supplied is = inr (repeated-holds causes.Supplied q k h is)
hint-holds t q p k h causes.Exported is = inr (repeated-holds causes.Exported q k h is)
hint-holds t q p k h causes.Sampled is = inr (repeated-holds causes.Sampled q k h is)
hint-holds t q p k h causes.Destroyed is = inr (repeated-holds causes.Destroyed q k h is)
hint-holds t q p k h causes.Stolen is = inr (repeated-holds causes.Stolen q k h is)

late-unknown : (t : List Entry) (q : Put) (p : Pack) (k : Option Known) (c : Cause) → Holds t q p k Late c → (c ≡ causes.Unknown) × (is_some (find (uploads p) t) ≡ true)
late-unknown t q p k c (inl h) = (h.0, ap is_some (first-upload t p) ∙ sym (is_some-known t p) ∙ h.1)
late-unknown t q p k c (inr h) = absurd (cc h.2)

-- a hint of a repetition is one, of an operation at the premises of the mark
abbrev IsSame : Mark → Put → Type 0
IsSame m q = (is_in_a_day m q && same_text m.authorisation q.actor.authorisation) ≡ true

repeats : (before : List Entry) (p : Pack) (q : Put) (it : Known) → known before p ≡ Some it → IsSame it.mark q
    → (r : IsRepeated before p q) × (it.mark.premises ≡ r.last.put.actor.premises)
repeats before p q it is same =
    let by = known-by before p it is in
    let parts = and_parts (is_in_a_day it.mark q) (same_text it.mark.authorisation q.actor.authorisation) same in
    let moments : it.mark.moment ≡ by.last.put.moment = ap (λ (k : Known). k.mark.moment) by.known in
    let authors : it.mark.authorisation.bytes ≡ by.last.put.actor.authorisation.bytes = ap (λ (k : Known). k.mark.authorisation.bytes) by.known in
    let in_time : q.moment ≤ it.mark.moment + 86400 = day q.moment (it.mark.moment + 86400) parts.0 in (
      record {
        last = by.last;
        latest = last-operation before p ∙ by.marked;
        authorisation = sym authors ∙ same_text-bytes it.mark.authorisation q.actor.authorisation parts.1;
        soon = subst (λ (n : ℕ). q.moment ≤ n + 86400) moments in_time;
      },
      ap (λ (k : Known). k.mark.premises) by.known,
    )
  where
    day : (m n : ℕ) → nat_le m n ≡ true → m ≤ n
    day m n h = grind (arith, nat_tests)

own-repeats : (t before : List Entry) (q : Put) (p : Pack) (c : Cause) → Holds t q p (known before p) Own c
    → (r : IsRepeated before p q) × (r.last.put.actor.premises.bytes ≡ q.actor.premises.bytes)
own-repeats t before q p c (inl h) = absurd (cc h.1)
own-repeats t before q p c (inr h) =
    let parts = and_parts _ (same_text h.0.mark.premises q.actor.premises) h.2 in
    let r = repeats before p q h.0 h.1 parts.0 in
    (r.0, ap (λ (n : Name). n.bytes) (sym r.1) ∙ same_text-bytes h.0.mark.premises q.actor.premises parts.1)

house-repeats : (t before : List Entry) (q : Put) (p : Pack) (c : Cause) → Holds t q p (known before p) House c
    → (r : IsRepeated before p q) × (r.last.put.actor.premises.bytes ≢ q.actor.premises.bytes)
house-repeats t before q p c (inl h) = absurd (cc h.1)
house-repeats t before q p c (inr h) =
    let parts = and_parts _ (not (same_text h.0.mark.premises q.actor.premises)) h.2 in
    let r = repeats before p q h.0 h.1 parts.0 in (
      r.0,
      λ same. others (same_text h.0.mark.premises q.actor.premises) parts.1
          (same_text-from_bytes h.0.mark.premises q.actor.premises (ap (λ (n : Name). n.bytes) r.1 ∙ same)),
    )
  where
    others : (b : Bool) → not b ≡ true → b ≡ true → ⊥
    others b isnot is = cc (ap not is)

pub hints-true : HintsAreTrue
hints-true = record {
  late = λ t before q p c is. late-unknown t q p (known before p) c (hint-holds t q p (known before p) Late c is);
  own = λ t before q p c is. own-repeats t before q p c (hint-holds t q p (known before p) Own c is);
  house = λ t before q p c is. house-repeats t before q p c (hint-holds t q p (known before p) House c is);
}
