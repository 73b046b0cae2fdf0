-- The reading and writing of lines, and the texts of answers.
use Rattle.std.proofs.Common.{◌≡◌, ℕ, true, false, List, [], ◌∷◌, ◌++◌, Some, None, refl}
use Rattle.std.specs.Prelude.{codes, map, length, replicate, nat_lt}
use Rattle.std.specs.Fmt.{digits}
use Rattle.nmvs_identifier.specs.Texts.{Text}
use Rattle.nmvs_identifier.specs.declared.pack.Pack.{Pack}
use Rattle.nmvs_rules.specs.declared.reason.Reason.TheVariants as reason
use Rattle.nmvs_rules.specs.declared.question.Question.TheVariants as question
use Rattle.nmvs_rules.specs.declared.reply.Reply.TheVariants as reply
use Rattle.nmvs_rules.specs.declared.refusal.Refusal.TheVariants as refusal
use Rattle.nmvs_rules.specs.declared.cause.Cause.TheVariants as cause
use Rattle.nmvs_rules.specs.declared.onward.Onward.TheVariants as onward
use Rattle.nmvs_rules.specs.declared.own_status.OwnStatus.TheVariants as own
use Rattle.nmvs_rules.specs.declared.batch_lock.BatchLock.TheVariants as lock
use Rattle.nmvs_rules.specs.declared.pack_question.PackQuestion.TheVariants as of_pack
use Rattle.nmvs_messages.specs.declared.answer.Content.TheVariants as content
use Rattle.nmvs_messages.specs.declared.answer.Turn.TheVariants as turn
use Rattle.nmvs_messages.specs.declared.ask.Asked.TheVariants as asked
use Rattle.nmvs_messages.specs.declared.ask.Line.{Line}
use Rattle.nmvs_messages.specs.declared.ask.Line.TheVariants as line
use Rattle.nmvs_messages.specs.declared.ask.LineFault.TheVariants as fault
use Rattle.nmvs_messages.specs.Fields.{fields_in}
use Rattle.nmvs_protocol.specs.Lines.{line_text, first_fault, is_line}
use Rattle.nmvs_protocol.specs.Tags.{tag_of}
use Rattle.nmvs_protocol.specs.Texts.{content_text, help_lines, reply_text}
use Rattle.nmvs_tests.proofs.Gives.{Gives}

abbrev text : List ℕ → Text
text t = record { bytes = t }

abbrev pack : List ℕ → Pack
pack serial = record { code = text (codes "09506000134352"); serial = text serial }

abbrev verification : Line
verification = line.Ask (record { tag = Some (text (codes "a17")); asked = asked.Question (text (codes "ph1")) (question.OfPack of_pack.Verify (pack (codes "SN1"))) })

abbrev upload : Line
upload = line.Ask (record {
  tag = None;
  asked = asked.Question (text (codes "mah1"))
      (question.Upload (pack (codes "ABC/DEF%GHI/JKL%MN12")) (text (codes "B1")) (text (codes "280200")));
})

abbrev conditional : Line
conditional = line.Ask (record {
  tag = None;
  asked = asked.Conditional (text (codes "ph1")) (of_pack.Decommission reason.Supply) (pack (codes "SN1"))
      (record { batch = text (codes "B1"); expiry = text (codes "280200") });
})

-- a line is read from its text alone
written : Gives line_text (
    (verification, codes "#a17 ph1 VERIFY 09506000134352 SN1")
    ∷ (line.Quit, codes "QUIT")
    ∷ (line.Ping, codes "PING")
    ∷ (line.Version, codes "VERSION")
    ∷ (line.Help, codes "HELP")
    ∷ (upload, codes "mah1 UPLOAD 09506000134352 ABC/DEF%GHI/JKL%MN12 B1 280200")
    ∷ (conditional, codes "ph1 SUPPLY 09506000134352 SN1 IF B1 280200")
    ∷ [])
written = refl

are-lines : map is_line (verification ∷ upload ∷ conditional ∷ []) ≡ true ∷ true ∷ true ∷ []
are-lines = refl

fields : fields_in (codes "ph1 STATUS") ≡ codes "ph1" ∷ codes "STATUS" ∷ []
fields = refl

-- texts of each kind without a fault: each is read as the line that has this text
abbrev texts : List (List ℕ)
texts =
    codes "mah1 UPLOAD 09506000134352 SN1 B1 280200"
    ∷ codes "ph1 VERIFY 04012345678901 SN1"
    ∷ codes "au1 STATUS 09506000134352 SN1"
    ∷ codes "ph1 SUPPLY 09506000134352 SN1"
    ∷ codes "ph1 HOLD 09506000134352 SN1"
    ∷ codes "wh1 EXPORT 09506000134352 SN1"
    ∷ codes "au1 SAMPLE 09506000134352 SN1"
    ∷ codes "wh1 DESTROY 09506000134352 ABC/DEF%GHI/JKL%MN12"
    ∷ codes "ph1 HANDOVER 09506000134352 SN1"
    ∷ codes "ph1b REVERT 09506000134352 SN1"
    ∷ codes "mah1 RECALL 09506000134352 B1"
    ∷ codes "au1 WITHDRAW 09506000134352 ABC/DEF%GHI/JKL%MN12"
    ∷ codes "mah1 THEFT 09506000134352 SN1"
    ∷ codes "au1 AUDIT 09506000134352 SN1"
    ∷ codes "ph1 SUPPLY 09506000134352 SN1 IF B1 280200"
    ∷ codes "#1 wh1 DESTROY 09506000134352 ABC/DEF%GHI/JKL%MN12 IF IF 280200"
    ∷ codes "au1 REPORT 09506000134352"
    ∷ codes "#1 au1 REPORT 09506000134352"
    ∷ codes "#a.b_c-d.e_f-g.h_i-j mah1 UPLOAD 09506000134352 ABC/DEF%GHI/JKL%MN12 B1 280200"
    ∷ codes "#a17 ph1 VERIFY 09506000134352 SN1"
    ∷ codes "PING"
    ∷ codes "VERSION"
    ∷ codes "HELP"
    ∷ codes "QUIT"
    ∷ []

no-faults : map first_fault texts ≡ replicate 24 None
unfolding first_fault tag_of
no-faults = refl

faults : Gives first_fault (
    (codes "", Some fault.Fields)
    ∷ (codes "ph1  VERIFY 09506000134352 SN1", Some fault.Fields)
    ∷ (codes "ph1 VERIFY 09506000134352", Some fault.Fields)
    ∷ (codes "ph1 VERIFY 09506000134352 SN1\r", Some fault.Return)
    ∷ (codes "\r", Some fault.Return)
    ∷ (codes "QUIT\r", Some fault.Return)
    ∷ (codes "ph1\tVERIFY  09506000134352 SN1\r", Some fault.Return)
    ∷ (codes "ph1 VERIFY 09506000134352 SN1\r ", Some fault.Bytes)
    ∷ (codes "ping", Some fault.Fields)
    ∷ (codes "PING PING", Some fault.Word)
    ∷ (codes "VERSION ", Some fault.Fields)
    ∷ (codes "help", Some fault.Fields)
    ∷ (codes "HELP ph1", Some fault.Word)
    ∷ (codes "ph1 VERIFY 09506000134352 SN1\u{7f}", Some fault.Bytes)
    ∷ (codes "ph1 verify 09506000134352 SN1", Some fault.Word)
    ∷ (codes "ph1 QUIT", Some fault.Word)
    ∷ (codes "a b c d e f g h", Some fault.Word)
    ∷ (codes "REPORT 09506000134352", Some fault.Word)
    ∷ (codes "au1 report 09506000134352", Some fault.Word)
    ∷ (codes "-x REPORT 09506000134352 SN1", Some fault.Fields)
    ∷ (codes "-x REPORT 09506000134353", Some fault.User)
    ∷ (codes "au1 REPORT 09506000134353", Some fault.Code)
    ∷ (codes "a b c d e f g ", Some fault.Fields)
    ∷ (codes "mah1 UPLOAD 09506000134352 SN1 B1 280200 x y", Some fault.Fields)
    ∷ (codes "-x VERIFY 09506000134352 SN1", Some fault.User)
    ∷ (codes "ph1 VERIFY 09506000134353 SN1", Some fault.Code)
    ∷ (codes "mah1 UPLOAD 09506000134352 ABC/DEF%GHI/JKL%MN123 B1 280200", Some fault.Serial)
    ∷ (codes "mah1 RECALL 09506000134352 #", Some fault.Batch)
    ∷ (codes "mah1 UPLOAD 09506000134352 SN1 B1 281300", Some fault.Expiry)
    ∷ [])
unfolding first_fault tag_of
faults = refl

-- a line has 200 bytes at most, its tag among them
lengths : Gives first_fault (
    (replicate 201 65, Some fault.Long)
    ∷ (codes "#a " ++ replicate 198 65, Some fault.Long)
    ∷ (codes "#a " ++ replicate 197 65, Some fault.Fields)
    ∷ [])
unfolding first_fault tag_of
lengths = refl

-- a fault has the tag of its line
abbrev a17 : List (List ℕ)
a17 =
    codes "#a17 "
    ∷ codes "#a17  ph1 VERIFY 09506000134352 SN1"
    ∷ codes "#a17 QUIT"
    ∷ codes "#a17 PING"
    ∷ codes "#a17 HELP"
    ∷ codes "#a17 ph1 VERIFY 09506000134352 SN1\r"
    ∷ codes "#a17 \r"
    ∷ codes "#a17 #b ph1 VERIFY 09506000134352 SN1"
    ∷ codes "#a17 -x VERIFY 09506000134352 SN1"
    ∷ codes "#a17 ph1 VERIFY 09506000134353 SN1"
    ∷ []

tags : map tag_of a17 ≡ replicate 10 (Some (text (codes "a17")))
unfolding tag_of
tags = refl

faults-behind-tags : map first_fault a17 ≡
    Some fault.Fields ∷ Some fault.Fields ∷ Some fault.Fields ∷ Some fault.Fields ∷ Some fault.Fields
    ∷ Some fault.Return ∷ Some fault.Return ∷ Some fault.Word ∷ Some fault.User ∷ Some fault.Code ∷ []
unfolding first_fault tag_of
faults-behind-tags = refl

-- what is no tag is a field
abbrev no_tags : List (List ℕ)
no_tags =
    codes "#a17"
    ∷ codes "#a17\r"
    ∷ codes "# ph1 VERIFY 09506000134352 SN1"
    ∷ codes "#-x ph1 VERIFY 09506000134352 SN1"
    ∷ codes "#a17\t ph1 VERIFY 09506000134352 SN1"
    ∷ codes "#a123456789b123456789c123456789d123456789e QUIT"
    ∷ codes "a17 ph1 VERIFY 09506000134352 SN1"
    ∷ []

no-tags : map tag_of no_tags ≡ replicate 7 None
unfolding tag_of
no-tags = refl

faults-without-tags : map first_fault no_tags ≡
    Some fault.Fields ∷ Some fault.Return ∷ Some fault.Word ∷ Some fault.Word ∷ Some fault.Bytes ∷ Some fault.Word ∷ Some fault.Word ∷ []
unfolding first_fault tag_of
faults-without-tags = refl

-- ---- answers

abbrev batch : Text
batch = text (codes "ABC/DEF%GHI/JKL%MN12")

abbrev expiry : Text
expiry = text (codes "280200")

abbrev most : ℕ
most = 18_446_744_073_709_551_615

replies : Gives (λ r. reply_text r []) (
    (reply.Authentic batch expiry true, codes "AUTHENTIC ABC/DEF%GHI/JKL%MN12 280200 EXPIRED\n")
    ∷ (reply.Alert cause.Withdrawn false most, codes "ALERT WITHDRAWN UNFLAGGED 18446744073709551615\n")
    ∷ (reply.StatusIs own.Destroyed lock.Withdrawn onward.Authorities batch expiry, codes "STATUS DESTROYED WITHDRAWN AUTHORITIES ABC/DEF%GHI/JKL%MN12 280200\n")
    ∷ (reply.Uploaded, codes "UPLOADED\n")
    ∷ (reply.NoPack, codes "NOPACK\n")
    ∷ (reply.Decommissioned, codes "DECOMMISSIONED\n")
    ∷ (reply.HandedOver, codes "HANDED_OVER\n")
    ∷ (reply.Reverted, codes "REVERTED\n")
    ∷ (reply.LockedNow 0, codes "LOCKED 0\n")
    ∷ (reply.LockedNow 12, codes "LOCKED 12\n")
    ∷ (reply.LockedNow 1_000_000, codes "LOCKED 1000000\n")
    ∷ (reply.MarkedStolen, codes "STOLEN\n")
    ∷ (reply.Shown most, codes "SHOWN 18446744073709551615\n")
    ∷ (reply.Refused refusal.UnknownBatch, codes "REFUSED 3 UNKNOWN_BATCH\n")
    ∷ (reply.Refused refusal.Expired, codes "REFUSED 14 EXPIRED\n")
    ∷ (reply.Refused refusal.NotHeld, codes "REFUSED 15 NOT_HELD\n")
    ∷ [])
unfolding digits
replies = refl

-- an answer has the text of its reply
replied : Gives content_text (
    (content.Replied (reply.Authentic batch expiry true) [], codes "AUTHENTIC ABC/DEF%GHI/JKL%MN12 280200 EXPIRED\n")
    ∷ (content.Replied (reply.LockedNow 12) [], codes "LOCKED 12\n")
    ∷ (content.Reported (codes "PRODUCT 04012345678901 HOLDER - ALERTS 0 FLAGGED 0\n") [], codes "PRODUCT 04012345678901 HOLDER - ALERTS 0 FLAGGED 0\n")
    ∷ (content.Pong, codes "PONG\n")
    ∷ (content.Version, codes "VERSION 0.9.0\n")
    ∷ (content.Bye, codes "BYE\n")
    ∷ [])
unfolding content_text digits
replied = refl

turned-away : Gives (λ t. content_text (content.Turned t)) (
    (turn.Clock, codes "FAULT CLOCK\n")
    ∷ (turn.Nobody, codes "FAULT NOBODY\n")
    ∷ (turn.Suspended, codes "FAULT SUSPENDED\n")
    ∷ (turn.Closed, codes "FAULT CLOSED\n")
    ∷ (turn.Role, codes "FAULT ROLE\n")
    ∷ (turn.Memory, codes "FAULT MEMORY\n")
    ∷ (turn.Rate, codes "FAULT RATE\n")
    ∷ (turn.Journal, codes "FAULT JOURNAL\n")
    ∷ (turn.Tag, codes "FAULT TAG\n")
    ∷ (turn.Differs, codes "FAULT DIFFERS\n")
    ∷ (turn.Changed, codes "FAULT CHANGED\n")
    ∷ (turn.Product, codes "FAULT PRODUCT\n")
    ∷ [])
unfolding content_text
turned-away = refl

unread : Gives (λ f. content_text (content.Unread f)) (
    (fault.Long, codes "FAULT LONG\n")
    ∷ (fault.Return, codes "FAULT RETURN\n")
    ∷ (fault.Bytes, codes "FAULT BYTES\n")
    ∷ (fault.Fields, codes "FAULT FIELDS\n")
    ∷ (fault.Word, codes "FAULT WORD\n")
    ∷ (fault.Code, codes "FAULT CODE\n")
    ∷ (fault.Serial, codes "FAULT SERIAL\n")
    ∷ (fault.Batch, codes "FAULT BATCH\n")
    ∷ (fault.Expiry, codes "FAULT EXPIRY\n")
    ∷ (fault.User, codes "FAULT USER\n")
    ∷ [])
unfolding content_text
unread = refl

-- HELP has twenty lines, each shorter than the longest reply of one line
help : map (λ shown. nat_lt (length shown) 62) help_lines ≡ replicate 20 true
help = refl
