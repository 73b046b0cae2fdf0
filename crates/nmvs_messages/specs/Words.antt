-- The words of answers: of replies, and after FAULT (own).
use Rattle.std.specs.Prelude.{ℕ, List, [], ◌∷◌, codes}
use Rattle.std.specs.Fmt.{decimal}
use Rattle.nmvs_rules.specs.declared.reply.Reply.{Reply}
use Rattle.nmvs_rules.specs.declared.reply.Reply.TheVariants as replies
use Rattle.nmvs_rules.specs.Replies.{refusal_number}
use Rattle.nmvs_words.specs.Words.{own_word, lock_word, onward_word, cause_word, validity_word, flag_word, refusal_word}
use Rattle.nmvs_words.specs.declared.reply_kind.ReplyKind.TheVariants as kinds
use Rattle.nmvs_words.specs.ReplyKinds.{reply_word}
use Rattle.nmvs_messages.specs.declared.ask.LineFault.{LineFault}
use Rattle.nmvs_messages.specs.declared.ask.LineFault.TheVariants as faults
use Rattle.nmvs_messages.specs.declared.fault.Fault.{Fault}
use Rattle.nmvs_messages.specs.declared.fault.Fault.TheVariants.{Unread, Turned, Busy, Idle}
use Rattle.nmvs_messages.specs.declared.answer.Turn.{Turn}
use Rattle.nmvs_messages.specs.declared.answer.Turn.TheVariants as turns

-- the word of the desk's reason to turn a line away
abbrev pub turn_word : Turn → List ℕ
turn_word turns.Clock = codes "CLOCK"
turn_word turns.Nobody = codes "NOBODY"
turn_word turns.Suspended = codes "SUSPENDED"
turn_word turns.Closed = codes "CLOSED"
turn_word turns.Role = codes "ROLE"
turn_word turns.Memory = codes "MEMORY"
turn_word turns.Rate = codes "RATE"
turn_word turns.Journal = codes "JOURNAL"
turn_word turns.Tag = codes "TAG"
turn_word turns.Differs = codes "DIFFERS"
turn_word turns.Changed = codes "CHANGED"
turn_word turns.Product = codes "PRODUCT"

-- the word of the fault of a line
abbrev pub fault_word : LineFault → List ℕ
fault_word faults.Long = codes "LONG"
fault_word faults.Return = codes "RETURN"
fault_word faults.Bytes = codes "BYTES"
fault_word faults.Fields = codes "FIELDS"
fault_word faults.Word = codes "WORD"
fault_word faults.Code = codes "CODE"
fault_word faults.Serial = codes "SERIAL"
fault_word faults.Batch = codes "BATCH"
fault_word faults.Expiry = codes "EXPIRY"
fault_word faults.User = codes "USER"

-- the word after FAULT
abbrev pub word_of : Fault → List ℕ
word_of (Unread fault) = fault_word fault
word_of (Turned turn) = turn_word turn
word_of Busy = codes "BUSY"
word_of Idle = codes "IDLE"

-- the words of a reply
abbrev pub reply_words : Reply → List (List ℕ)
reply_words replies.Uploaded = reply_word kinds.Uploaded ∷ []
reply_words (replies.Authentic b x expired) = reply_word kinds.Authentic ∷ b.bytes ∷ x.bytes ∷ validity_word expired ∷ []
reply_words (replies.Alert cause flagged n) = reply_word kinds.Alert ∷ cause_word cause ∷ flag_word flagged ∷ decimal n ∷ []
reply_words (replies.StatusIs own lock onward b x) =
    reply_word kinds.Status ∷ own_word own ∷ lock_word lock ∷ onward_word onward ∷ b.bytes ∷ x.bytes ∷ []
reply_words replies.NoPack = reply_word kinds.NoPack ∷ []
reply_words replies.Decommissioned = reply_word kinds.Decommissioned ∷ []
reply_words replies.HandedOver = reply_word kinds.HandedOver ∷ []
reply_words replies.Reverted = reply_word kinds.Reverted ∷ []
reply_words (replies.LockedNow n) = reply_word kinds.Locked ∷ decimal n ∷ []
reply_words replies.MarkedStolen = reply_word kinds.Stolen ∷ []
reply_words (replies.Shown n) = reply_word kinds.Shown ∷ decimal n ∷ []
reply_words (replies.Refused r) = reply_word kinds.Refused ∷ decimal (refusal_number r) ∷ refusal_word r ∷ []
