-- The text of each answer: words and values joined by single spaces, then LF; the lines that follow it as they are (own).
use Rattle.std.specs.Prelude.{ℕ, Bool, false, List, [], ◌∷◌, ◌++◌, codes}
use Rattle.std.specs.List.{flat_map}
use Rattle.nmvs_rules.specs.declared.entry.Entry.{Entry}
use Rattle.nmvs_rules.specs.declared.reply.Reply.{Reply}
use Rattle.nmvs_words.specs.Words.{spaced}
use Rattle.nmvs_line.specs.Export.{export_text}
use Rattle.nmvs_messages.specs.declared.answer.Answer.{Answer}
use Rattle.nmvs_messages.specs.declared.answer.Content.{Content}
use Rattle.nmvs_messages.specs.declared.answer.Content.TheVariants as contents
use Rattle.nmvs_messages.specs.Withheld.{is_of_repository}
use Rattle.nmvs_messages.specs.Words.{fault_word, reply_words, turn_word}
use Rattle.nmvs_messages.specs.Tags.{tag_text}

-- the text of a reply and of the entries that it shows: its words, and then the line of each entry
abbrev pub reply_text : Reply → List Entry → List ℕ
reply_text r shown = spaced (reply_words r) ++ export_text shown

-- the lines of the answer to HELP: each line that there is, by an example and its purpose, and END
abbrev pub help_lines : List (List ℕ)
help_lines =
    codes "mah1 UPLOAD 09506000134352 SN1 B1 280200  a new pack"
    ∷ codes "ph1 VERIFY 09506000134352 SN1             is it authentic?"
    ∷ codes "ph1 STATUS 09506000134352 SN1             without an alert"
    ∷ codes "ph1 SUPPLY 09506000134352 SN1             to the public"
    ∷ codes "ph1 HOLD 09506000134352 SN1               for a later supply"
    ∷ codes "ph1 HOLD 09506000134352 SN1 IF B1 280200  if so uploaded"
    ∷ codes "ph1 HANDOVER 09506000134352 SN1           held, to the public"
    ∷ codes "wh1 EXPORT 09506000134352 SN1             out of the Union"
    ∷ codes "ph1 SAMPLE 09506000134352 SN1             for an authority"
    ∷ codes "ph1 DESTROY 09506000134352 SN1            it is destroyed"
    ∷ codes "ph1 REVERT 09506000134352 SN1             back to stock"
    ∷ codes "mah1 THEFT 09506000134352 SN1             it was stolen"
    ∷ codes "mah1 RECALL 09506000134352 B1             a batch is recalled"
    ∷ codes "mah1 WITHDRAW 09506000134352 B1           or is withdrawn"
    ∷ codes "au1 AUDIT 09506000134352 SN1              its audit trail"
    ∷ codes "au1 REPORT 09506000134352                 a product's batches"
    ∷ codes "PING                                      answers PONG"
    ∷ codes "VERSION                                   of the program"
    ∷ codes "QUIT                                      ends the session"
    ∷ codes "END"
    ∷ []

-- the answer to HELP: each of its lines begins with HELP, as no reply does
unfoldable pub help_text : List ℕ
help_text = flat_map (λ line. codes "HELP " ++ (line ++ 10 ∷ [])) help_lines

-- the text of the answer to a line without a tag
unfoldable pub content_text : Content → List ℕ
content_text (contents.Replied r shown) = spaced (reply_words r) ++ shown
content_text (contents.Reported first shown) = first ++ shown
content_text (contents.Turned t) = spaced (codes "FAULT" ∷ turn_word t ∷ [])
content_text (contents.Unread f) = spaced (codes "FAULT" ∷ fault_word f ∷ [])
content_text contents.Pong = spaced (codes "PONG" ∷ [])
content_text contents.Version = spaced (codes "VERSION" ∷ codes "0.9.0" ∷ [])
content_text contents.Help = help_text
content_text contents.Bye = spaced (codes "BYE" ∷ [])

-- the text of an answer: the tag of its line, if it has one, and the content
unfoldable pub text : Answer → List ℕ
text a = tag_text a.tag ++ content_text a.content

-- this content, with this text of the lines that follow it if it is a reply or a report
abbrev pub showing : List ℕ → Content → Content
showing shown (contents.Replied r _) = contents.Replied r shown
showing shown (contents.Reported first _) = contents.Reported first shown
showing shown content = content

-- an answer without the lines that follow it
abbrev pub bare : Answer → Answer
bare a = record a { content = showing [] a.content }

-- these answers, where this text follows the last one if it is a reply or a report, and none any other
abbrev pub last_showing : List ℕ → List Answer → List Answer
last_showing shown [] = []
last_showing shown (a ∷ []) = record a { content = showing shown a.content } ∷ []
last_showing shown (a ∷ b ∷ more) = bare a ∷ last_showing shown (b ∷ more)

-- whether the last of these answers is a reply or a report
abbrev pub ends_with_reply : List Answer → Bool
ends_with_reply [] = false
ends_with_reply (a ∷ []) = is_of_repository a
ends_with_reply (a ∷ b ∷ more) = ends_with_reply (b ∷ more)
