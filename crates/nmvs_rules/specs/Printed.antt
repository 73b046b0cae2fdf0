-- The batch and the expiry date that are printed on a pack (Article 4 (b)). Their comparison with those of its upload is own,
-- since Article 11 compares the product code and the serial number alone.
use Rattle.std.specs.Prelude.{Bool, true, false, not, ◌||◌, ◌&&◌, List, Option, Some, None}
use Rattle.nmvs_identifier.specs.Texts.{same_text}
use Rattle.nmvs_rules.specs.declared.entry.Entry.{Entry}
use Rattle.nmvs_rules.specs.declared.facts.Known.{Known}
use Rattle.nmvs_rules.specs.declared.printed.Printed.{Printed}
use Rattle.nmvs_rules.specs.declared.put.Put.{Put}
use Rattle.nmvs_rules.specs.declared.question.Question.{Question}
use Rattle.nmvs_rules.specs.declared.reply.Reply.{Reply}
use Rattle.nmvs_rules.specs.declared.reply.Reply.TheVariants as reply
use Rattle.nmvs_rules.specs.Facts.{pack_fact}
use Rattle.nmvs_rules.specs.Questions.{pack_of}
use Rattle.nmvs_rules.specs.Rules.{reply_of}

-- whether the pack is known with another batch or another expiry date than those printed on it, as they are written. An
-- unknown pack has none, and nothing differs if no printed values are given.
abbrev pub differs : Option Printed → Option Known → Bool
differs None k = false
differs (Some printed) None = false
differs (Some printed) (Some k) = not (same_text k.batch printed.batch) || not (same_text k.expiry printed.expiry)

-- whether the pack that a question names was uploaded with another batch or another expiry date than those printed on it
abbrev pub differs_on : List Entry → Question → Option Printed → Bool
differs_on t q printed = differs printed (pack_fact t (pack_of q))

-- whether a reply is given only if nothing printed on the pack differs. Such a reply carries an operation out, calls
-- the pack authentic, or gives its status. An alert and a refusal are given whatever is printed (Articles 35(1)(g) and
-- 36(b))
abbrev pub is_conditional : Reply → Bool
is_conditional reply.Uploaded = true
is_conditional (reply.Authentic b x past) = true
is_conditional (reply.StatusIs own lock onward b x) = true
is_conditional reply.Decommissioned = true
is_conditional reply.HandedOver = true
is_conditional reply.Reverted = true
is_conditional (reply.LockedNow active) = true
is_conditional reply.MarkedStolen = true
is_conditional _ = false

-- whether the values printed on its pack hold a question back
abbrev pub is_withheld : List Entry → Put → Option Printed → Bool
is_withheld t q printed = is_conditional (reply_of t q) && differs_on t q.question printed
