-- The kinds of replies and their words (own).
use Rattle.std.specs.Prelude.{ℕ, List, [], ◌∷◌, codes, find, Option}
use Rattle.std.specs.Str.{bytes_eq}
use Rattle.nmvs_rules.specs.declared.reply.Reply.{Reply}
use Rattle.nmvs_rules.specs.declared.reply.Reply.TheVariants as replies
use Rattle.nmvs_words.specs.declared.reply_kind.ReplyKind.{ReplyKind}
use Rattle.nmvs_words.specs.declared.reply_kind.ReplyKind.TheVariants.{Uploaded, Authentic, Alert, Status, NoPack, Decommissioned, HandedOver, Reverted, Locked, Stolen, Shown, Refused}

-- the word of a kind of reply
abbrev pub reply_word : ReplyKind → List ℕ
reply_word Uploaded = codes "UPLOADED"
reply_word Authentic = codes "AUTHENTIC"
reply_word Alert = codes "ALERT"
reply_word Status = codes "STATUS"
reply_word NoPack = codes "NOPACK"
reply_word Decommissioned = codes "DECOMMISSIONED"
reply_word HandedOver = codes "HANDED_OVER"
reply_word Reverted = codes "REVERTED"
reply_word Locked = codes "LOCKED"
reply_word Stolen = codes "STOLEN"
reply_word Shown = codes "SHOWN"
reply_word Refused = codes "REFUSED"

-- the kind of a reply
abbrev pub kind_of_reply : Reply → ReplyKind
kind_of_reply replies.Uploaded = Uploaded
kind_of_reply (replies.Authentic _ _ _) = Authentic
kind_of_reply (replies.Alert _ _ _) = Alert
kind_of_reply (replies.StatusIs _ _ _ _ _) = Status
kind_of_reply replies.NoPack = NoPack
kind_of_reply replies.Decommissioned = Decommissioned
kind_of_reply replies.HandedOver = HandedOver
kind_of_reply replies.Reverted = Reverted
kind_of_reply (replies.LockedNow _) = Locked
kind_of_reply replies.MarkedStolen = Stolen
kind_of_reply (replies.Shown _) = Shown
kind_of_reply (replies.Refused _) = Refused

-- all kinds of replies
abbrev pub reply_kinds : List ReplyKind
reply_kinds =
    Uploaded ∷ Authentic ∷ Alert ∷ Status ∷ NoPack ∷ Decommissioned ∷ HandedOver ∷ Reverted ∷ Locked ∷ Stolen ∷ Shown
    ∷ Refused ∷ []

-- the kind of reply that has a word
abbrev pub reply_named : List ℕ → Option ReplyKind
reply_named w = find (λ k. bytes_eq w (reply_word k)) reply_kinds
