-- A question that is asked again with the same tag (own).
use Rattle.std.specs.Prelude.{ℕ, zero, suc, ◌≡◌, ◌+◌, ◌-◌, ◌≤◌, IsFalse, nat_lt, Bool, true, false, not, ◌&&◌, List, [], ◌∷◌, ◌++◌, length, map, drop, slice_get, Option, Some, None, if◌then◌else◌}
use Rattle.std.specs.List.{suffix_len}
use Rattle.std.specs.Option.{option_map_or}
use Rattle.nmvs_identifier.specs.Name.{Name}
use Rattle.nmvs_identifier.specs.Tag.{Tag}
use Rattle.nmvs_identifier.specs.Texts.{same_text}
use Rattle.nmvs_identifier.specs.declared.pack.Pack.{Pack}
use Rattle.nmvs_identifier.specs.Pack.{same_pack}
use Rattle.nmvs_rules.specs.declared.actor.Actor.{Actor}
use Rattle.nmvs_rules.specs.declared.role.Role.{Role}
use Rattle.nmvs_rules.specs.declared.role.Role.TheVariants as role
use Rattle.nmvs_rules.specs.declared.reason.Reason.{Reason}
use Rattle.nmvs_rules.specs.declared.reason.Reason.TheVariants as reason
use Rattle.nmvs_rules.specs.declared.question.Question.{Question}
use Rattle.nmvs_rules.specs.declared.question.Question.TheVariants.{Upload, OfPack, OfBatch}
use Rattle.nmvs_rules.specs.declared.pack_question.PackQuestion.{PackQuestion}
use Rattle.nmvs_rules.specs.declared.pack_question.PackQuestion.TheVariants.{Verify, Status, Decommission, Handover, Revert, Theft, Audit}
use Rattle.nmvs_rules.specs.declared.batch_question.BatchQuestion.{BatchQuestion}
use Rattle.nmvs_rules.specs.declared.batch_question.BatchQuestion.TheVariants.{Recall, Withdraw}
use Rattle.nmvs_rules.specs.declared.put.Put.{Put}
use Rattle.nmvs_rules.specs.declared.entry.Entry.{Entry}
use Rattle.nmvs_rules.specs.declared.reply.Reply.{Reply}
use Rattle.nmvs_rules.specs.declared.reply.Reply.TheVariants as reply
use Rattle.nmvs_rules.specs.declared.repeat.Repeat.{Repeat}
use Rattle.nmvs_rules.specs.declared.repeat.Repeat.TheVariants as repeat
use Rattle.nmvs_rules.specs.Limits.{entries_looked_over, seconds_answered}
use Rattle.nmvs_rules.specs.Questions.{pack_of}
use Rattle.nmvs_rules.specs.Rules.{reply_of}
use Rattle.nmvs_rules.specs.Trail.{is_about, is_alert, about_of}

-- whether two roles are the same
abbrev pub same_role : Role → Role → Bool
same_role role.Holder role.Holder = true
same_role role.Manufacturer role.Manufacturer = true
same_role role.Wholesaler role.Wholesaler = true
same_role role.Pharmacy role.Pharmacy = true
same_role role.Authority role.Authority = true
same_role _ _ = false

-- whether two reasons are the same
abbrev pub same_reason : Reason → Reason → Bool
same_reason reason.Supply reason.Supply = true
same_reason reason.Hold reason.Hold = true
same_reason reason.Export reason.Export = true
same_reason reason.Sample reason.Sample = true
same_reason reason.Destroy reason.Destroy = true
same_reason _ _ = false

-- whether two actors are the same: in one role, covered by one authorisation, in the same premises
abbrev pub same_actor : Actor → Actor → Bool
same_actor a b = same_role a.role b.role && (same_text a.authorisation b.authorisation && same_text a.premises b.premises)

-- whether two questions about a pack are of the same kind
abbrev pub same_pack_question : PackQuestion → PackQuestion → Bool
same_pack_question Verify Verify = true
same_pack_question Status Status = true
same_pack_question (Decommission r) (Decommission s) = same_reason r s
same_pack_question Handover Handover = true
same_pack_question Revert Revert = true
same_pack_question Theft Theft = true
same_pack_question Audit Audit = true
same_pack_question _ _ = false

-- whether two questions about a batch are of the same kind
abbrev pub same_batch_question : BatchQuestion → BatchQuestion → Bool
same_batch_question Recall Recall = true
same_batch_question Withdraw Withdraw = true
same_batch_question _ _ = false

-- whether two questions are the same
abbrev pub same_question : Question → Question → Bool
same_question (Upload p b x) (Upload q c y) = same_pack p q && (same_text b c && same_text x y)
same_question (OfPack asked p) (OfPack other q) = same_pack_question asked other && same_pack p q
same_question (OfBatch asked c b) (OfBatch other d e) = same_batch_question asked other && (same_text c d && same_text b e)
same_question _ _ = false

-- whether both ask the same in the same capacity, at any moments
abbrev pub asks_same : Put → Put → Bool
asks_same q r = same_actor q.actor r.actor && same_question q.question r.question

-- whether the tag, if there is one, is g
abbrev pub has_tag : Tag → Option Tag → Bool
has_tag g None = false
has_tag g (Some h) = same_text g h

-- whether the question was put by this user, with this tag
abbrev pub is_by : Name → Tag → Put → Bool
is_by user g q = has_tag g q.tag && same_text user q.user

-- whether the entry is about the pack, of this user, with this tag
abbrev pub is_tagged : Pack → Name → Tag → Entry → Bool
is_tagged p user g e = is_about p e && is_by user g e.put

-- the number of entries up to the last one about the pack, of this user, with this tag, which counts too. It is 0 if
-- there is none.
abbrev pub last_tagged : List Entry → Pack → Name → Tag → ℕ
last_tagged t p user g = length t - suffix_len (λ e. not (is_tagged p user g e)) t

-- the place of the last of the first n entries, if it is among the last 16 about the pack
abbrev pub place_up_to : List Entry → Pack → ℕ → Option ℕ
place_up_to t p zero = None
place_up_to t p (suc n) = if nat_lt (about_of (drop (suc n) t) p) entries_looked_over then Some n else None

-- the place of the last entry of this user with this tag, if it is among the last 16 about the pack
abbrev pub place_tagged : List Entry → Pack → Name → Tag → Option ℕ
place_tagged t p user g = place_up_to t p (last_tagged t p user g)

-- whether the reply gives the state of a pack at its moment: such a reply never answers again
abbrev pub tells_state : Reply → Bool
tells_state (reply.Authentic b x past) = true
tells_state (reply.StatusIs own lock onward b x) = true
tells_state reply.NoPack = true
tells_state (reply.Shown n) = true
tells_state _ = false

-- whether at most a day lies between two moments; either may be the earlier one, since a clock can be set back
abbrev pub is_in_day : ℕ → ℕ → Bool
is_in_day one other = not (nat_lt (one + seconds_answered) other) && not (nat_lt (other + seconds_answered) one)

-- at most a day lies between two moments
abbrev pub AreInDay : ℕ → ℕ → Type 0
AreInDay one other = (one ≤ other + 86400) × (other ≤ one + 86400)

-- the relation of a question to the entry at a place that asked the same
abbrev pub beside_same : ℕ → Entry → Repeat
beside_same place e = if tells_state e.reply then repeat.New else repeat.Same place e.reply

-- the relation of a question to the entry at a place, which has its user and its tag
abbrev pub beside : Put → ℕ → Entry → Repeat
beside q place e =
    if is_in_day e.put.moment q.moment then (if asks_same q e.put then beside_same place e else repeat.Other) else repeat.New

-- the relation of a question to a trail, by the place of such an entry
abbrev pub repeat_at : List Entry → Put → Option ℕ → Repeat
repeat_at t q None = repeat.New
repeat_at t q (Some place) = option_map_or (beside q place) (slice_get t place) repeat.New

-- the relation of a question to a trail, by the pack that it names and its tag
abbrev pub repeat_by : List Entry → Put → Option Pack → Option Tag → Repeat
repeat_by t q (Some p) (Some g) = repeat_at t q (place_tagged t p q.user g)
repeat_by t q _ _ = repeat.New

-- the relation of a question to a trail
abbrev pub repeat_of : List Entry → Put → Repeat
repeat_of t q = repeat_by t q (pack_of q.question) q.tag

-- whether the entry at a place is at most a day from a question
abbrev pub in_day_at : List Entry → Put → Option ℕ → Bool
in_day_at t q None = false
in_day_at t q (Some place) = option_map_or (λ e. is_in_day e.put.moment q.moment) (slice_get t place) false

-- whether a user's tag has an entry within its day, by the pack that the question names and its tag
abbrev pub was_asked_by : List Entry → Put → Option Pack → Option Tag → Bool
was_asked_by t q (Some p) (Some g) = in_day_at t q (place_tagged t p q.user g)
was_asked_by t q _ _ = false

-- whether the user of a question asked about its pack with its tag at most a day away. One of the last 16 entries about
-- the pack has user and tag.
abbrev pub was_asked : List Entry → Put → Bool
was_asked t q = was_asked_by t q (pack_of q.question) q.tag

-- whether a question whose tag has an entry within its day would now raise an alert: it may be a late copy, which accuses nobody
abbrev pub is_changed : List Entry → Put → Bool
is_changed t q = is_alert (reply_of t q) && was_asked t q

-- the reply that the asker gets. It is that of the rules if the question is new and no late copy that would raise an
-- alert. Else it is that of the entry that the question repeats, or none.
abbrev pub reply_by : List Entry → Put → Repeat → Option Reply
reply_by t q repeat.New = if is_changed t q then None else Some (reply_of t q)
reply_by t q (repeat.Same place r) = Some r
reply_by t q repeat.Other = None

-- the reply that the asker of a question gets on a trail
abbrev pub answer_of : List Entry → Put → Option Reply
answer_of t q = reply_by t q (repeat_of t q)

-- each question of the entries es, which follow the entries u, was new on all entries before it
abbrev pub AreNewAfter : List Entry → List Entry → Type 0
AreNewAfter u [] = Unit {0}
AreNewAfter u (e ∷ es) = (repeat_of u e.put ≡ repeat.New) × AreNewAfter (u ++ e ∷ []) es

-- a trail in which each question was looked for before it was put to the rules
abbrev pub AreNew : List Entry → Type 0
AreNew t = AreNewAfter [] t

-- the entry at a place asked the question, by the same user, with the same tag and in the same capacity. At most a day
-- lies between them. Its reply is this one, and does not give the state of a pack.
pub record IsRepeated (t : List Entry) (q : Put) (place : ℕ) (reply : Reply) : Type 0 where
  pub entry : Entry
  pub stands : slice_get t place ≡ Some entry
  pub user : entry.put.user ≡ q.user
  pub tag : entry.put.tag ≡ q.tag
  pub actor : entry.put.actor ≡ q.actor
  pub question : entry.put.question ≡ q.question
  pub same : reply ≡ entry.reply
  pub day : AreInDay entry.put.moment q.moment
  pub lasting : IsFalse (tells_state reply)

-- a question as it was put, without its tag
abbrev pub without_tag : Put → Put
without_tag q = record q { tag = None }

-- an entry without its tag
abbrev pub untagged : Entry → Entry
untagged e = record e { put = without_tag e.put }

-- a trail without its tags
abbrev pub without_tags : List Entry → List Entry
without_tags t = map untagged t
