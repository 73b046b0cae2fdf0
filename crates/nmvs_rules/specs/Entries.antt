-- The form of every entry of a trail (Article 4; the grammars of names and the ranges are own). Its texts are in their
-- grammars, and its numbers in their ranges.
use Rattle.std.specs.Prelude.{ℕ, ◌^◌, Bool, true, ◌&&◌, nat_lt, List, Option, Some, None, IsTrue}
use Rattle.std.specs.List.{All}
use Rattle.nmvs_identifier.specs.Batch.{Batch, is_batch}
use Rattle.nmvs_identifier.specs.Expiry.{Expiry, is_expiry}
use Rattle.nmvs_identifier.specs.Moment.{is_moment}
use Rattle.nmvs_identifier.specs.Name.{is_name}
use Rattle.nmvs_identifier.specs.Pack.{is_pack}
use Rattle.nmvs_identifier.specs.ProductCode.{is_product_code}
use Rattle.nmvs_identifier.specs.Tag.{Tag, is_tag}
use Rattle.nmvs_rules.specs.declared.actor.Actor.{Actor}
use Rattle.nmvs_rules.specs.declared.put.Put.{Put}
use Rattle.nmvs_rules.specs.declared.question.Question.{Question}
use Rattle.nmvs_rules.specs.declared.question.Question.TheVariants.{Upload, OfPack, OfBatch}
use Rattle.nmvs_rules.specs.declared.reply.Reply.{Reply}
use Rattle.nmvs_rules.specs.declared.reply.Reply.TheVariants as reply
use Rattle.nmvs_rules.specs.declared.entry.Entry.{Entry}

-- whether a number can be counted in 64 bits
abbrev pub is_count : ℕ → Bool
is_count n = nat_lt n (2 ^ 64)

-- whether the batch and the expiry date of a pack are in their grammars
abbrev pub is_batch_and_expiry : Batch → Expiry → Bool
is_batch_and_expiry b x = is_batch b.bytes && is_expiry x.bytes

-- whether the names of an actor are in their grammar
abbrev pub is_actor : Actor → Bool
is_actor a = is_name a.authorisation.bytes && is_name a.premises.bytes

-- whether the texts that a question names are in their grammars
abbrev pub is_question : Question → Bool
is_question (Upload p b x) = is_pack p && is_batch_and_expiry b x
is_question (OfPack _ p) = is_pack p
is_question (OfBatch _ c b) = is_product_code c.bytes && is_batch b.bytes

-- whether the texts and the numbers of a reply are in their grammars and ranges
abbrev pub is_reply : Reply → Bool
is_reply (reply.Authentic b x _) = is_batch_and_expiry b x
is_reply (reply.Alert _ _ number) = is_count number
is_reply (reply.StatusIs _ _ _ b x) = is_batch_and_expiry b x
is_reply (reply.LockedNow active) = is_count active
is_reply (reply.Shown about) = is_count about
is_reply _ = true

-- whether the tag, if there is one, is in its grammar
abbrev pub is_tag_or_none : Option Tag → Bool
is_tag_or_none None = true
is_tag_or_none (Some g) = is_tag g.bytes

-- whether the texts of a question as it is put are in their grammars, and its moment in its range
abbrev pub is_put : Put → Bool
is_put q = is_moment q.moment && (is_name q.user.bytes && (is_actor q.actor && (is_question q.question && is_tag_or_none q.tag)))

-- whether the texts and the numbers of an entry are in their grammars and ranges
abbrev pub is_entry : Entry → Bool
is_entry e = is_put e.put && is_reply e.reply

-- all entries of a trail are in their grammars and ranges
abbrev pub AreEntries : List Entry → Type 0
AreEntries t = All (λ e. IsTrue (is_entry e)) t
