-- The cells of a reply are its text.
use Rattle.std.proofs.Common.{◌≡◌, ◌∙◌, ap, sym, refl, arith, ℕ, ◌<◌, ◌^◌, Bool, true, false, List, [], ◌∷◌, ◌++◌, append_assoc, length}
use Rattle.std.specs.Prelude.{IsTrue, filter, codes, decimal}
use Rattle.std.proofs.lemmas.Bool.{cond-true}
use Rattle.std.proofs.lemmas.Bool.Decides.{nat_tests}
use Rattle.std.proofs.lemmas.Fmt.{decimal_nonempty}
use Rattle.std.proofs.lemmas.List.{append-nil}
use Rattle.nmvs_rules.specs.Entries.{is_reply, is_count}
use Rattle.nmvs_rules.specs.Replies.{refusal_number}
use Rattle.nmvs_rules.specs.declared.cause.Cause.{Cause}
use Rattle.nmvs_rules.specs.declared.refusal.Refusal.{Refusal}
use Rattle.nmvs_rules.specs.declared.reply.Reply.{Reply}
use Rattle.nmvs_rules.specs.declared.reply.Reply.TheVariants as reply
use Rattle.nmvs_words.specs.Words.{cause_word, causes, flag_word, lock_word, onward_word, own_word, refusal_word, spaced, validity_word}
use Rattle.nmvs_words.proofs.WordLemmas.{every, every_refusal, cause_named-of_word}
use Rattle.nmvs_line.proofs.LineLengths.{refusal_small}
use Rattle.nmvs_protocol.specs.Texts.{reply_text}
use Rattle.nmvs_inspect.specs.Replies.{value_cells, detail_text, is_filled}

kept : (c : List ℕ) (cs ds : List (List ℕ)) → is_filled c ≡ true → filter is_filled cs ≡ ds → filter is_filled (c ∷ cs) ≡ c ∷ ds
kept c cs ds h e = cond-true _ _ _ h ∙ ap (λ (l : List (List ℕ)). c ∷ l) e

joined : (cs ws : List (List ℕ)) → filter is_filled cs ≡ ws → spaced (filter is_filled cs) ≡ spaced ws ++ []
joined cs ws e = ap spaced e ∙ sym (append-nil (spaced ws))

filled_more : (a : List ℕ) (b : ℕ) (bs : List ℕ) → is_filled (a ++ b ∷ bs) ≡ true
filled_more [] b bs = refl
filled_more (x ∷ a) b bs = refl

filled_long : (a : List ℕ) → 0 < length a → is_filled a ≡ true
filled_long [] h = absurd (omega arith)
filled_long (x ∷ a) h = refl

number_filled : (n : ℕ) → n < 2 ^ 64 → is_filled (decimal n) ≡ true
number_filled n h = filled_long (decimal n) (decimal_nonempty n h)

count_small : (n : ℕ) → IsTrue (is_count n) → n < 2 ^ 64
count_small n h = grind (arith, nat_tests)

cause_filled : (c : Cause) → is_filled (cause_word c) ≡ true
cause_filled c = every cause_word causes cause_named-of_word (λ k. is_filled (cause_word k)) refl c

flag_filled : (b : Bool) → is_filled (flag_word b) ≡ true
flag_filled true = refl
flag_filled false = refl

refusal_filled : (r : Refusal) → is_filled (refusal_word r) ≡ true
refusal_filled r = every_refusal (λ k. is_filled (refusal_word k)) refl r

three : (b x v : List ℕ) → (b ++ (codes " " ++ (x ++ (codes " " ++ v)))) ++ codes "\n" ≡ b ++ (codes " " ++ (x ++ (codes " " ++ (v ++ codes "\n"))))
three b x v = simp append_assoc

five : (o l w b x : List ℕ) → (o ++ (codes " " ++ (l ++ (codes " " ++ (w ++ (codes " " ++ (b ++ (codes " " ++ x)))))))) ++ codes "\n"
    ≡ o ++ (codes " " ++ (l ++ (codes " " ++ (w ++ (codes " " ++ (b ++ (codes " " ++ (x ++ codes "\n"))))))))
five o l w b x = simp append_assoc

-- those of the cells that are not empty, with a blank between each two
pub whole : (r : Reply) → IsTrue (is_reply r) → spaced (filter is_filled (value_cells r)) ≡ reply_text r []
whole reply.Uploaded h = refl
whole (reply.Authentic b x expired) h =
    let detail = detail_text (reply.Authentic b x expired) in
    joined (value_cells (reply.Authentic b x expired)) (codes "AUTHENTIC" ∷ detail ∷ [])
    (kept (codes "AUTHENTIC") ([] ∷ [] ∷ [] ∷ [] ∷ detail ∷ []) (detail ∷ []) refl (kept detail [] [] (filled_more b.bytes 32 (x.bytes ++ (codes " " ++ validity_word expired))) refl))
    ∙ ap (λ (y : List ℕ). (codes "AUTHENTIC" ++ (codes " " ++ y)) ++ []) (three b.bytes x.bytes (validity_word expired))
whole (reply.Alert c flagged n) h =
    let cause = cause_word c in
    let flag = flag_word flagged in
    let number = decimal n in
    joined (value_cells (reply.Alert c flagged n)) (codes "ALERT" ∷ cause ∷ flag ∷ number ∷ [])
    (kept (codes "ALERT") (cause ∷ flag ∷ number ∷ [] ∷ [] ∷ []) (cause ∷ flag ∷ number ∷ []) refl
    (kept cause (flag ∷ number ∷ [] ∷ [] ∷ []) (flag ∷ number ∷ []) (cause_filled c)
    (kept flag (number ∷ [] ∷ [] ∷ []) (number ∷ []) (flag_filled flagged)
    (kept number ([] ∷ [] ∷ []) [] (number_filled n (count_small n h)) refl))))
whole (reply.StatusIs own lock onward b x) h =
    let detail = detail_text (reply.StatusIs own lock onward b x) in
    joined (value_cells (reply.StatusIs own lock onward b x)) (codes "STATUS" ∷ detail ∷ [])
    (kept (codes "STATUS") ([] ∷ [] ∷ [] ∷ [] ∷ detail ∷ []) (detail ∷ []) refl
    (kept detail [] [] (filled_more (own_word own) 32 (lock_word lock ++ (codes " " ++ (onward_word onward ++ (codes " " ++ (b.bytes ++ (codes " " ++ x.bytes))))))) refl))
    ∙ ap (λ (y : List ℕ). (codes "STATUS" ++ (codes " " ++ y)) ++ []) (five (own_word own) (lock_word lock) (onward_word onward) b.bytes x.bytes)
whole reply.NoPack h = refl
whole reply.Decommissioned h = refl
whole reply.HandedOver h = refl
whole reply.Reverted h = refl
whole (reply.LockedNow n) h =
    let number = decimal n in
    joined (value_cells (reply.LockedNow n)) (codes "LOCKED" ∷ number ∷ [])
    (kept (codes "LOCKED") ([] ∷ [] ∷ number ∷ [] ∷ [] ∷ []) (number ∷ []) refl (kept number ([] ∷ [] ∷ []) [] (number_filled n (count_small n h)) refl))
whole reply.MarkedStolen h = refl
whole (reply.Shown n) h =
    let number = decimal n in
    joined (value_cells (reply.Shown n)) (codes "SHOWN" ∷ number ∷ [])
    (kept (codes "SHOWN") ([] ∷ [] ∷ number ∷ [] ∷ [] ∷ []) (number ∷ []) refl (kept number ([] ∷ [] ∷ []) [] (number_filled n (count_small n h)) refl))
whole (reply.Refused r) h =
    let number = decimal (refusal_number r) in
    let reason = refusal_word r in
    joined (value_cells (reply.Refused r)) (codes "REFUSED" ∷ number ∷ reason ∷ [])
    (kept (codes "REFUSED") ([] ∷ [] ∷ number ∷ reason ∷ [] ∷ []) (number ∷ reason ∷ []) refl
    (kept number (reason ∷ [] ∷ []) (reason ∷ []) (number_filled (refusal_number r) (count_small (refusal_number r) (refusal_small r)))
    (kept reason ([] ∷ []) [] (refusal_filled r) refl)))
