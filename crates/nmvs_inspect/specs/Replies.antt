-- The cells of a reply in CSV (own): its word, and its values by columns. Those that are not empty are its text, with a blank
-- between each two.
use Rattle.std.specs.Prelude.{ℕ, Bool, true, false, List, [], ◌∷◌, ◌++◌, codes, decimal}
use Rattle.nmvs_rules.specs.declared.reply.Reply.{Reply}
use Rattle.nmvs_rules.specs.declared.reply.Reply.TheVariants.{Authentic, Alert, StatusIs, LockedNow, Shown, Refused}
use Rattle.nmvs_rules.specs.Replies.{refusal_number}
use Rattle.nmvs_words.specs.ReplyKinds.{kind_of_reply, reply_word}
use Rattle.nmvs_words.specs.Words.{cause_word, flag_word, lock_word, onward_word, own_word, refusal_word, validity_word}

-- the cause of an alert, and whether it is flagged
abbrev pub cause_text : Reply → List ℕ
cause_text (Alert c _ _) = cause_word c
cause_text _ = []

abbrev pub flag_text : Reply → List ℕ
flag_text (Alert _ flagged _) = flag_word flagged
flag_text _ = []

-- the number of an alert or a refusal, of the active packs of a batch that is locked, or of the entries that are shown
abbrev pub number_text : Reply → List ℕ
number_text (Alert _ _ n) = decimal n
number_text (LockedNow n) = decimal n
number_text (Shown n) = decimal n
number_text (Refused r) = decimal (refusal_number r)
number_text _ = []

-- the reason of a refusal
abbrev pub refusal_text : Reply → List ℕ
refusal_text (Refused r) = refusal_word r
refusal_text _ = []

-- the details of an authentic pack, or of a pack whose status was asked for
abbrev pub detail_text : Reply → List ℕ
detail_text (Authentic b x expired) = b.bytes ++ (codes " " ++ (x.bytes ++ (codes " " ++ validity_word expired)))
detail_text (StatusIs own lock onward b x) =
    own_word own ++ (codes " " ++ (lock_word lock ++ (codes " " ++ (onward_word onward ++ (codes " " ++ (b.bytes ++ (codes " " ++ x.bytes)))))))
detail_text _ = []

abbrev pub value_cells : Reply → List (List ℕ)
value_cells r =
    reply_word (kind_of_reply r) ∷ cause_text r ∷ flag_text r ∷ number_text r ∷ refusal_text r ∷ detail_text r ∷ []

-- whether a cell is not empty
abbrev pub is_filled : List ℕ → Bool
is_filled [] = false
is_filled (b ∷ bs) = true
