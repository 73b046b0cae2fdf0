-- The values printed on a pack, and those of its upload.
use Rattle.std.proofs.Common.{◌≡◌, ◌↔◌, ℕ, Bool, true, false, not, ◌||◌, cond, List, [], ◌∷◌, ◌++◌, length, Option, Some, None, refl, sym, ap, subst, ◌∙◌, append-nil, append_assoc}
use Rattle.std.specs.Prelude.{IsTrue, IsFalse}
use Rattle.nmvs_identifier.specs.Batch.{Batch}
use Rattle.nmvs_identifier.specs.Expiry.{Expiry}
use Rattle.nmvs_identifier.specs.Texts.{same_text}
use Rattle.nmvs_identifier.specs.declared.pack.Pack.{Pack}
use Rattle.nmvs_rules.specs.declared.entry.Entry.{Entry}
use Rattle.nmvs_rules.specs.declared.facts.Known.{Known}
use Rattle.nmvs_rules.specs.declared.printed.Printed.{Printed}
use Rattle.nmvs_rules.specs.declared.question.Question.{Question}
use Rattle.nmvs_rules.specs.Facts.{pack_fact}
use Rattle.nmvs_rules.specs.Laws.{IsUploadedWith}
use Rattle.nmvs_rules.specs.Printed.{differs, differs_on}
use Rattle.nmvs_rules.specs.Questions.{pack_of}
use Rattle.nmvs_rules.specs.Trail.{known, is_mark, marked_by}
use Rattle.nmvs_rules.proofs.MarkLemmas.{birth-of, known-made, mark-of-born}
use Rattle.nmvs_rules.proofs.PushLemmas.{known-push}
use Rattle.nmvs_rules.proofs.TextLemmas.{same_text-equal, same_text-refl}

-- an accepted entry leaves the batch and the expiry date of a known pack
differs-marked : (printed : Option Printed) (place : ℕ) (e : Entry) (k : Option Known) → differs printed k ≡ true → differs printed (marked_by place e k) ≡ true
differs-marked None place e k h = cc
differs-marked (Some printed) place e None h = cc
differs-marked (Some printed) place e (Some k) h = h

differs-push : (t : List Entry) (e : Entry) (p : Pack) (printed : Option Printed) → differs printed (known t p) ≡ true → differs printed (known (t ++ e ∷ []) p) ≡ true
differs-push t e p printed h = ap (differs printed) (known-push t e p) ∙ by (is_mark p e)
  where
    by : (b : Bool) → differs printed (cond b (marked_by (length t) e (known t p)) (known t p)) ≡ true
    by true = differs-marked printed (length t) e (known t p) h
    by false = h

differs-after : (t later : List Entry) (p : Pack) (printed : Option Printed) → differs printed (known t p) ≡ true → differs printed (known (t ++ later) p) ≡ true
differs-after t [] p printed h = subst (λ (u : List Entry). differs printed (known u p) ≡ true) (sym (append-nil t)) h
differs-after t (e ∷ later) p printed h =
    subst (λ (u : List Entry). differs printed (known u p) ≡ true) (append_assoc t (e ∷ []) later)
    (differs-after (t ++ e ∷ []) later p printed (differs-push t e p printed h))

-- printed values that differ from an upload differ for ever
pub differs-later : (t later : List Entry) (q : Question) (printed : Option Printed) → IsTrue (differs_on t q printed) → IsTrue (differs_on (t ++ later) q printed)
differs-later t later q printed h = by (pack_of q) h
  where
    by : (o : Option Pack) → differs printed (pack_fact t o) ≡ true → differs printed (pack_fact (t ++ later) o) ≡ true
    by None h = h
    by (Some p) h = differs-after t later p printed h

both_same : (b c : Bool) → (not b || not c) ≡ false → (b ≡ true) × (c ≡ true)
both_same true true h = (refl, refl)
both_same true false h = cc
both_same false c h = cc

same_values : (printed : Printed) (b : Batch) (x : Expiry) → ((not (same_text b printed.batch) || not (same_text x printed.expiry)) ≡ false) ↔ ((printed.batch ≡ b) × (printed.expiry ≡ x))
same_values printed b x = (
  λ h. let same = both_same (same_text b printed.batch) (same_text x printed.expiry) h in (sym (same_text-equal b printed.batch same.0), sym (same_text-equal x printed.expiry same.1)),
  λ h. (
      let batch : same_text b printed.batch ≡ true = ap (same_text b) h.0 ∙ same_text-refl b in
      let expiry : same_text x printed.expiry ≡ true = ap (same_text x) h.1 ∙ same_text-refl x in
      λ i. not (batch i) || not (expiry i)),
)

-- they differ exactly if one of them is another
pub differs-exactly : (t : List Entry) (q : Question) (p : Pack) (b : Batch) (x : Expiry) (printed : Printed) → pack_of q ≡ Some p → IsUploadedWith t p b x
    → IsFalse (differs_on t q (Some printed)) ↔ ((printed.batch ≡ b) × (printed.expiry ≡ x))
differs-exactly t q p b x printed names uploaded =
    let birth = birth-of t p b x uploaded in
    let upload = birth.0 in
    let marked = mark-of-born t p upload birth.1 in
    let made = known-made t p birth.2.0 upload marked.0 b x birth.1 birth.2.1 marked.1 in
    let is = ap (λ (o : Option Pack). differs (Some printed) (pack_fact t o)) names ∙ ap (differs (Some printed)) made in
    subst (λ (d : Bool). (d ≡ false) ↔ ((printed.batch ≡ b) × (printed.expiry ≡ x))) (sym is) (same_values printed b x)
