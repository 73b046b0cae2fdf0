-- The alerts of a product code are numbered in order.
use Rattle.std.proofs.Common.{◌≡◌, ℕ, zero, suc, ◌+◌, Bool, true, false, ◌&&◌, cond, List, [], ◌∷◌, ◌++◌, Option, Some, None, filter_map, refl, sym, ap, ◌∙◌, arith, add-zero, add-one, append-nil}
use Rattle.std.proofs.lemmas.List.Elements.{filter-append, filter_map-append}
use Rattle.std.specs.List.{range_with_len, cons_option}
use Rattle.nmvs_identifier.specs.ProductCode.{ProductCode}
use Rattle.nmvs_rules.specs.declared.refusal.Refusal.TheVariants as refusal
use Rattle.nmvs_rules.specs.declared.actor.Actor.{Actor}
use Rattle.nmvs_rules.specs.declared.question.Question.{Question}
use Rattle.nmvs_rules.specs.declared.question.Question.TheVariants.{Upload, OfPack, OfBatch}
use Rattle.nmvs_rules.specs.declared.pack_question.PackQuestion.TheVariants.{Verify, Status, Decommission, Handover, Revert, Theft, Audit}
use Rattle.nmvs_rules.specs.declared.entry.Entry.{Entry}
use Rattle.nmvs_rules.specs.declared.facts.Known.{Known}
use Rattle.nmvs_rules.specs.declared.reply.Reply.{Reply}
use Rattle.nmvs_rules.specs.declared.reply.Reply.TheVariants as reply
use Rattle.nmvs_rules.specs.declared.put.Put.{Put}
use Rattle.nmvs_rules.specs.Questions.{may_ask, code_of}
use Rattle.nmvs_rules.specs.Trail.{known, has_code, is_alert, alerts_of}
use Rattle.nmvs_rules.specs.Rules.{on_pack, admitted_reply, reply_of, IsLawful}
use Rattle.nmvs_rules.specs.Laws.{part_of, alert_numbers}
use Rattle.nmvs_rules.specs.Operations.{alert_number}
use Rattle.nmvs_rules.proofs.TextLemmas.{same_text-equal}
use Rattle.nmvs_rules.proofs.PushLemmas.{alerts_of-push}
use Rattle.nmvs_rules.proofs.LawfulLemmas.{IsLawful-keeps}

-- the number of a reply that is an alert is this one
abbrev IsNumbered : ℕ → Reply → Type 0
IsNumbered n r = (m : ℕ) → alert_number r ≡ Some m → m ≡ n

on_pack-numbered : (n : ℕ) (o : Option Known) (x : Reply) (f : Known → Reply) → IsNumbered n x → ((k : Known) → IsNumbered n (f k)) → IsNumbered n (on_pack o x f)
on_pack-numbered n None x f unknown known = unknown
on_pack-numbered n (Some k) x f unknown known = known k

admitted_reply-numbered : (t : List Entry) (n : ℕ) (a : Actor) (q : Question) → IsNumbered (alerts_of t (code_of q) + 1) (admitted_reply t n a q)
admitted_reply-numbered t n a (Upload p b x) = λ m is. grind arith
admitted_reply-numbered t n a (OfPack Verify p) = on_pack-numbered _ (known t p) _ _ (λ m is. grind arith) (λ k m is. grind arith)
admitted_reply-numbered t n a (OfPack Status p) = on_pack-numbered _ (known t p) _ _ (λ m is. grind arith) (λ k m is. grind arith)
admitted_reply-numbered t n a (OfPack (Decommission w) p) = on_pack-numbered _ (known t p) _ _ (λ m is. grind arith) (λ k m is. grind arith)
admitted_reply-numbered t n a (OfPack Handover p) = on_pack-numbered _ (known t p) _ _ (λ m is. grind arith) (λ k m is. grind arith)
admitted_reply-numbered t n a (OfPack Revert p) = on_pack-numbered _ (known t p) _ _ (λ m is. grind arith) (λ k m is. grind arith)
admitted_reply-numbered t n a (OfBatch _ c b) = λ m is. grind arith
admitted_reply-numbered t n a (OfPack Theft p) = on_pack-numbered _ (known t p) _ _ (λ m is. grind arith) (λ k m is. grind arith)
admitted_reply-numbered t n a (OfPack Audit p) = λ m is. grind arith

-- an alert has the number after the alerts on its product code so far
alert-numbered : (t : List Entry) (q : Put) → IsNumbered (alerts_of t (code_of q.question) + 1) (reply_of t q)
alert-numbered t q = by (may_ask q.actor.role q.question)
  where
    by : (b : Bool) → IsNumbered (alerts_of t (code_of q.question) + 1) (cond b (admitted_reply t q.moment q.actor q.question) (reply.Refused refusal.Role))
    by true = admitted_reply-numbered t q.moment q.actor q.question
    by false = λ m is. grind arith

range-push : (a n : ℕ) → range_with_len a (suc n) ≡ range_with_len a n ++ (a + n) ∷ []
range-push a zero = let same : a ≡ a + 0 = omega arith in ap (λ k. k ∷ []) same
range-push a (suc n) = let same : a + 1 + n ≡ a + suc n = omega arith in ap (λ ns. a ∷ ns) (range-push (a + 1) n ∙ ap (λ k. range_with_len (a + 1) n ++ k ∷ []) same)

numbers-more : (xs : List ℕ) (b : Bool) (r : Reply) (n : ℕ) → xs ≡ range_with_len 1 n → (b ≡ true → IsNumbered (n + 1) r) → xs ++ cond b (cons_option (alert_number r) []) [] ≡ range_with_len 1 (n + cond (b && is_alert r) 1 0)
numbers-more xs false r n h numbered = append-nil xs ∙ h ∙ ap (range_with_len 1) (sym (add-zero n))
numbers-more xs true (reply.Alert c f m) n h numbered =
    ap (λ ns. ns ++ m ∷ []) h
    ∙ ap (λ k. range_with_len 1 n ++ k ∷ []) (let next : m ≡ n + 1 = numbered refl m refl in omega (arith, next))
    ∙ sym (range-push 1 n)
    ∙ ap (range_with_len 1) (sym (add-one n))
numbers-more xs true r n h numbered = append-nil xs ∙ h ∙ ap (range_with_len 1) (sym (add-zero n))

-- the alerts of a product code are numbered from 1 on
pub alerts-numbered : (t : List Entry) (c : ProductCode) → IsLawful t → alert_numbers t c ≡ range_with_len 1 (alerts_of t c)
alerts-numbered t c lawful = IsLawful-keeps P step refl t lawful
  where
    P : List Entry → Type 0
    P u = alert_numbers u c ≡ range_with_len 1 (alerts_of u c)

    step : (u : List Entry) (e : Entry) → P u → e.reply ≡ reply_of u e.put → P (u ++ e ∷ [])
    step u e h is =
        ap (filter_map (λ x. alert_number x.reply)) (filter-append (has_code c) u (e ∷ []))
        ∙ filter_map-append (λ x. alert_number x.reply) (part_of u c) (part_of (e ∷ []) c)
        ∙ ap (λ ns. alert_numbers u c ++ ns) (one (has_code c e))
        ∙ numbers-more (alert_numbers u c) (has_code c e) e.reply (alerts_of u c) h (λ code m a. alert-numbered u e.put m (sym (ap alert_number is) ∙ a) ∙ ap (λ n. n + 1) (sym (ap (alerts_of u) (same_text-equal c (code_of e.put.question) code))))
        ∙ ap (range_with_len 1) (sym (alerts_of-push u e c))
      where
        one : (b : Bool) → filter_map (λ x. alert_number x.reply) (cond b (e ∷ []) []) ≡ cond b (cons_option (alert_number e.reply) []) []
        one true = refl
        one false = refl
