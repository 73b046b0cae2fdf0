use Rattle.std.proofs.Common.{◌≡◌, ◌++◌, take, string_bytes}
use Rattle.nmvs_line.specs.Export.{export_text}
use Rattle.nmvs_words.specs.Words.{spaced}
use Rattle.nmvs_messages.specs.Words.{reply_words}
use Rattle.nmvs_protocol.proofs.replies.reply_text.Given as goal

abbrev pub invariant-loop-entry : goal.invariant-loop-entry
invariant-loop-entry l =
    string_bytes l.text ≡ spaced (reply_words l.fn.reply) ++ export_text (take l.entry-index l.shown)
