-- The record of a product code after one more entry.
use Rattle.std.proofs.Common.{◌≡◌, ◌+◌, Bool, true, false, ◌&&◌, cond, List, [], ◌∷◌, ◌++◌, Option, Some, None, unwrap_or, refl, sym, ap, ◌∙◌, add-zero}
use Rattle.std.specs.HashMap.{HashMap, get}
use Rattle.std.specs.Option.{option_or}
use Rattle.nmvs_identifier.specs.ProductCode.{ProductCode}
use Rattle.nmvs_identifier.specs.Texts.{same_text}
use Rattle.nmvs_rules.specs.declared.entry.Entry.{Entry}
use Rattle.nmvs_rules.specs.Questions.{code_of}
use Rattle.nmvs_rules.specs.Trail.{has_code, is_alert, is_upload, is_accepted}
use Rattle.nmvs_rules.proofs.TextLemmas.{same_text-sym, same_text-equal}
use Rattle.nmvs_rules.proofs.PushLemmas.{holder_of-push, alerts_of-push, count_by-push}
use Rattle.nmvs_tables.specs.declared.codes.CodeRecord.{CodeRecord}
use Rattle.nmvs_tables.specs.Codes.{code_in, code_noted, code_after, code_record, no_code, is_flagged_alert, one_if}
use Rattle.nmvs_tables.proofs.BoolLemmas.{not-so}

-- a table that has the new record of the entry's product code, and all others as before, notes the entry
pub code_in-noted : {S : Type 0} (m n : HashMap ProductCode CodeRecord S) (k : ProductCode) (w : CodeRecord) (e : Entry) → k ≡ code_of e.put.question → ((c : ProductCode) → get same_text n c ≡ cond (same_text k c) (Some w) (get same_text m c)) → w ≡ code_noted e (code_in m k) → (c : ProductCode) → code_in n c ≡ code_after c e (code_in m c)
code_in-noted m n k w e named updates noted c = ap (λ o. unwrap_or o no_code) (updates c) ∙ by (has_code c e) refl
  where
    by : (b : Bool) → has_code c e ≡ b → unwrap_or (cond (same_text k c) (Some w) (get same_text m c)) no_code ≡ code_after c e (code_in m c)
    by true h =
        let here : same_text c k ≡ true = ap (same_text c) named ∙ h in
        ap (λ b. unwrap_or (cond b (Some w) (get same_text m c)) no_code) (same_text-sym c k here)
        ∙ noted
        ∙ ap (λ d. code_noted e (code_in m d)) (sym (same_text-equal c k here))
        ∙ ap (λ b. cond b (code_noted e (code_in m c)) (code_in m c)) (sym h)
    by false h =
        let other : same_text c k ≡ false = ap (same_text c) named ∙ h in
        ap (λ b. unwrap_or (cond b (Some w) (get same_text m c)) no_code) (not-so (same_text k c) (λ t. sym other ∙ same_text-sym k c t))
        ∙ ap (λ b. cond b (code_noted e (code_in m c)) (code_in m c)) (sym h)

-- an entry that leaves its product code's record leaves every record
pub code_in-kept : {S : Type 0} (m : HashMap ProductCode CodeRecord S) (k : ProductCode) (e : Entry) → k ≡ code_of e.put.question → code_in m k ≡ code_noted e (code_in m k) → (c : ProductCode) → code_in m c ≡ code_after c e (code_in m c)
code_in-kept m k e named kept c = by (has_code c e) refl
  where
    by : (b : Bool) → has_code c e ≡ b → code_in m c ≡ code_after c e (code_in m c)
    by true h =
        let same : code_in m c ≡ code_in m k = ap (code_in m) (same_text-equal c k (ap (same_text c) named ∙ h)) in
        same ∙ kept ∙ ap (code_noted e) (sym same) ∙ ap (λ b. cond b (code_noted e (code_in m c)) (code_in m c)) (sym h)
    by false h = ap (λ b. cond b (code_noted e (code_in m c)) (code_in m c)) (sym h)

abbrev record_more : (e : Entry) (b u a f : Bool) (r : CodeRecord) → CodeRecord
record_more e b u a f r = record {
  holder = option_or r.holder (cond ((u && b) && is_accepted e) (Some e.put.actor.authorisation) None);
  alerts = r.alerts + cond (b && a) 1 0;
  flagged = r.flagged + cond (b && f) 1 0;
}

option_or-none : {X : Type 0} (o : Option X) → option_or o None ≡ o
option_or-none None = refl
option_or-none (Some x) = refl

-- the record of a product code after one more entry
pub code_record-push : (t : List Entry) (e : Entry) (c : ProductCode) → code_record (t ++ e ∷ []) c ≡ code_after c e (code_record t c)
code_record-push t e c =
    (λ i. record { holder = holder_of-push t e c i; alerts = alerts_of-push t e c i; flagged = count_by-push (λ x. has_code c x && is_flagged_alert x.reply) t e i })
    ∙ by (has_code c e) (is_upload e.put.question) (code_record t c)
  where
    by : (b u : Bool) (r : CodeRecord) → record_more e b u (is_alert e.reply) (is_flagged_alert e.reply) r ≡ cond b (record { holder = option_or r.holder (cond (u && is_accepted e) (Some e.put.actor.authorisation) None); alerts = r.alerts + one_if (is_alert e.reply); flagged = r.flagged + one_if (is_flagged_alert e.reply) }) r
    by true true r = refl
    by true false r = refl
    by false true r = rw (option_or-none r.holder, add-zero r.alerts, add-zero r.flagged) refl
    by false false r = rw (option_or-none r.holder, add-zero r.alerts, add-zero r.flagged) refl
