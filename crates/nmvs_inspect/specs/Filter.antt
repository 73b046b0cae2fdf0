-- The entries of a trail that a filter takes (own): those that pass each test that is set.
use Rattle.std.specs.Prelude.{ℕ, Bool, true, false, not, ◌&&◌, ◌||◌, List, Option, Some, None, pos, int_le}
use Rattle.std.specs.Option.{option_map_or}
use Rattle.std.specs.Str.{bytes_eq}
use Rattle.jiff_core.specs.Date.{epoch_day}
use Rattle.nmvs_identifier.specs.Batch.{Batch}
use Rattle.nmvs_identifier.specs.Moment.{day_of}
use Rattle.nmvs_identifier.specs.Name.{Name}
use Rattle.nmvs_identifier.specs.ProductCode.{ProductCode}
use Rattle.nmvs_identifier.specs.Serial.{Serial}
use Rattle.nmvs_identifier.specs.Texts.{same_text}
use Rattle.nmvs_identifier.specs.declared.pack.Pack.{Pack}
use Rattle.nmvs_reports.specs.Alerts.{is_named}
use Rattle.nmvs_rules.specs.declared.entry.Entry.{Entry}
use Rattle.nmvs_rules.specs.declared.facts.Known.{Known}
use Rattle.nmvs_rules.specs.declared.put.Put.{Put}
use Rattle.nmvs_rules.specs.declared.question.Question.{Question}
use Rattle.nmvs_rules.specs.declared.question.Question.TheVariants.{Upload, OfBatch}
use Rattle.nmvs_rules.specs.declared.reply.Reply.{Reply}
use Rattle.nmvs_rules.specs.declared.reply.Reply.TheVariants as replies
use Rattle.nmvs_rules.specs.Facts.{pack_fact}
use Rattle.nmvs_rules.specs.Questions.{code_of, names, pack_of}
use Rattle.nmvs_rules.specs.Trail.{known, locks_batch}
use Rattle.nmvs_tables.specs.Codes.{is_flagged_alert}
use Rattle.nmvs_words.specs.Kinds.{kind_of, kind_word}
use Rattle.nmvs_words.specs.ReplyKinds.{kind_of_reply, reply_word}
use Rattle.nmvs_words.specs.Words.{role_word}
use Rattle.nmvs_words.specs.declared.reply_kind.ReplyKind.{ReplyKind}
use Rattle.nmvs_inspect.specs.declared.filter.Filter.{Filter}

-- no test is set
abbrev pub every : Filter
every = record {
  from = None;
  to = None;
  user = None;
  role = None;
  authorisation = None;
  premises = None;
  code = None;
  serial = None;
  batch = None;
  pack = None;
  question = None;
  reply = None;
  alert = None;
  flagged = false;
  refused = false;
}

-- whether a value passes a test that is set, if it is
abbrev pub is_wanted : {A : Type 0} → (A → Bool) → Option A → Bool
is_wanted test wanted = option_map_or test wanted true

-- whether the moment is not before the first day, and not after the last, by UTC
abbrev pub is_in_days : Filter → ℕ → Bool
is_in_days f m =
    is_wanted (λ d. int_le (epoch_day d) (pos (day_of m))) f.from && is_wanted (λ d. int_le (pos (day_of m)) (epoch_day d)) f.to

-- whether the wanted user asks, in the wanted capacity
abbrev pub is_asked_by : Filter → Put → Bool
is_asked_by f p =
    is_wanted (same_text p.user) f.user && is_wanted (λ r. bytes_eq (role_word p.actor.role) (role_word r)) f.role
    && is_wanted (same_text p.actor.authorisation) f.authorisation && is_wanted (same_text p.actor.premises) f.premises

-- whether the pack that is named, if any, has the serial number
abbrev pub has_serial : Serial → Option Pack → Bool
has_serial s None = false
has_serial s (Some p) = same_text p.serial s

-- the batch that a question names: that of an upload, a recall or a withdrawal
abbrev pub named_batch : Question → Option Batch
named_batch (Upload _ b _) = Some b
named_batch (OfBatch _ _ b) = Some b
named_batch _ = None

-- whether the batch that is named, if any, is b
abbrev pub is_batch_named : Batch → Option Batch → Bool
is_batch_named b None = false
is_batch_named b (Some named) = same_text named b

-- whether the pack that is known, if any, was uploaded in the batch
abbrev pub is_uploaded_in : Batch → Option Known → Bool
is_uploaded_in b None = false
is_uploaded_in b (Some k) = same_text k.batch b

-- whether the question names the batch, or a pack that was uploaded in it
abbrev pub is_of_batch : List Entry → Question → Batch → Bool
is_of_batch t q b = is_batch_named b (named_batch q) || is_uploaded_in b (pack_fact t (pack_of q))

-- whether the question recalls or withdraws the batch of the pack, if the pack is known
abbrev pub locks_batch_of : Pack → Question → Option Known → Bool
locks_batch_of p q None = false
locks_batch_of p q (Some k) = locks_batch p.code k.batch q

-- whether the question names the pack, or recalls or withdraws the batch that it was uploaded in
abbrev pub is_of_pack : List Entry → Question → Pack → Bool
is_of_pack t q p = names p (pack_of q) || locks_batch_of p q (known t p)

-- whether the question is of the kind, and about the product code, the serial number, the batch and the pack
abbrev pub is_asked : Filter → List Entry → Question → Bool
is_asked f t q =
    is_wanted (λ k. bytes_eq (kind_word (kind_of q)) (kind_word k)) f.question && is_wanted (same_text (code_of q)) f.code
    && is_wanted (λ s. has_serial s (pack_of q)) f.serial && is_wanted (is_of_batch t q) f.batch
    && is_wanted (is_of_pack t q) f.pack

-- whether the reply is a refusal
abbrev pub is_refusal : Reply → Bool
is_refusal (replies.Refused _) = true
is_refusal _ = false

-- whether the reply is of the kind, a flagged alert if those are wanted, and a refusal if those are wanted
abbrev pub is_answered : Filter → Reply → Bool
is_answered f r =
    is_wanted (λ k. bytes_eq (reply_word (kind_of_reply r)) (reply_word k)) f.reply
    && (not f.flagged || is_flagged_alert r) && (not f.refused || is_refusal r)

-- whether the filter takes an entry of the trail
abbrev pub takes : Filter → List Entry → Entry → Bool
takes f t e =
    is_in_days f e.put.moment && is_asked_by f e.put && is_answered f e.reply && is_wanted (λ name. is_named name e) f.alert
    && is_asked f t e.put.question
