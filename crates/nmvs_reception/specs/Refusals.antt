-- Who may ask, and the reasons to refuse a question, in the order in which they count (the order is own). The words are
-- those of the laws: questions and replies of a trail alone.
use Rattle.std.specs.Prelude.{ℕ, ◌+◌, pos, int_lt, nat_le, Bool, false, not, ◌&&◌, List, [], ◌∷◌, find, Option, Some, None, if◌then◌else◌}
use Rattle.std.specs.List.{list_any}
use Rattle.std.specs.Option.{option_map_or}
use Rattle.nmvs_identifier.specs.Expiry.{expiry_day}
use Rattle.nmvs_identifier.specs.Moment.{day_of}
use Rattle.nmvs_identifier.specs.Name.{Name}
use Rattle.nmvs_identifier.specs.Texts.{same_text}
use Rattle.nmvs_identifier.specs.declared.pack.Pack.{Pack}
use Rattle.nmvs_rules.specs.declared.actor.Actor.{Actor}
use Rattle.nmvs_rules.specs.declared.entry.Entry.{Entry}
use Rattle.nmvs_rules.specs.declared.put.Put.{Put}
use Rattle.nmvs_rules.specs.declared.question.Question.{Question}
use Rattle.nmvs_rules.specs.declared.question.Question.TheVariants.{Upload, OfPack, OfBatch}
use Rattle.nmvs_rules.specs.declared.pack_question.PackQuestion.TheVariants.{Verify, Status, Decommission, Handover, Revert, Theft, Audit}
use Rattle.nmvs_rules.specs.declared.reason.Reason.TheVariants as reason
use Rattle.nmvs_rules.specs.declared.refusal.Refusal.{Refusal}
use Rattle.nmvs_rules.specs.declared.refusal.Refusal.TheVariants as refusal
use Rattle.nmvs_rules.specs.declared.reply.Reply.{Reply}
use Rattle.nmvs_rules.specs.declared.reply.Reply.TheVariants as reply
use Rattle.nmvs_rules.specs.declared.role.Role.{Role}
use Rattle.nmvs_rules.specs.declared.role.Role.TheVariants as role
use Rattle.nmvs_rules.specs.Repeats.{same_role}
use Rattle.nmvs_rules.specs.Laws.{circulates}
use Rattle.nmvs_rules.specs.Operations.{uploads, uploads_code, uploads_in, binds, destroys, holds, last_operation, steals, supplies}

-- the roles of those who handle packs: manufacturers, wholesalers, and those who supply the public (Articles 10 to 13 and 16 to 25)
abbrev pub handlers : List Role
handlers = role.Manufacturer ∷ role.Wholesaler ∷ role.Pharmacy ∷ []

-- the roles that may ask a question (own, after the Articles named)
abbrev pub askers : Question → List Role
askers (Upload _ _ _) = role.Holder ∷ []  -- Article 33
askers (OfBatch _ _ _) = role.Holder ∷ []  -- Article 40(a)
askers (OfPack Theft _) = role.Holder ∷ []  -- Article 40(b)
askers (OfPack Verify _) = handlers  -- Articles 10, 16, 20 and 25
askers (OfPack Revert _) = handlers  -- Article 13
askers (OfPack (Decommission reason.Sample) _) = handlers  -- Articles 22 and 25
askers (OfPack (Decommission reason.Destroy) _) = handlers  -- Articles 22 and 25
askers (OfPack (Decommission reason.Export) _) = role.Manufacturer ∷ role.Wholesaler ∷ []  -- Articles 19 and 22
askers (OfPack (Decommission reason.Hold) _) = role.Wholesaler ∷ role.Pharmacy ∷ []  -- Articles 22, 23 and 25
askers (OfPack (Decommission reason.Supply) _) = role.Pharmacy ∷ []  -- Article 25
askers (OfPack Handover _) = role.Pharmacy ∷ []  -- Article 25
askers (OfPack Status _) = role.Holder ∷ role.Authority ∷ handlers  -- Article 36
askers (OfPack Audit _) = role.Authority ∷ []  -- Articles 36(i), 37(f) and 39

-- whether an entry of the trail, if there is one, passes a test
abbrev pub passes : (Entry → Bool) → Option Entry → Bool
passes test entry = option_map_or test entry false

-- whether the batch of an upload of the pack was recalled or withdrawn (Article 40)
abbrev pub is_bound : List Entry → Pack → Question → Bool
is_bound t p (Upload _ b _) = list_any (binds p.code b) t
is_bound t p _ = false

-- whether the expiry date of an upload is past on the day of the moment (Article 13(1)(c))
abbrev pub is_past_date : ℕ → Question → Bool
is_past_date moment (Upload _ _ x) = int_lt (expiry_day x.bytes) (pos (day_of moment))
is_past_date moment _ = false

-- whether an entry was asked by the same authorisation at the same premises (Article 13(1)(a))
abbrev pub is_by_house : Actor → Entry → Bool
is_by_house a e = same_text a.authorisation e.put.actor.authorisation && same_text a.premises e.put.actor.premises

-- whether not more than ten days have passed since an entry (Article 13(1)(b))
abbrev pub is_within_ten_days : ℕ → Entry → Bool
is_within_ten_days moment e = nat_le (day_of moment) (day_of e.put.moment + 10)

-- whether the entry that uploaded the product code first has this authorisation
abbrev pub is_uploader : Name → Entry → Bool
is_uploader n e = same_text e.put.actor.authorisation n

-- the reasons to refuse a question of a role that may ask it, each with whether it applies
abbrev pub reasons_beyond_role : List Entry → ℕ → Actor → Question → List (Refusal × Bool)
reasons_beyond_role t moment a (Upload p _ _) =
    let first = find (uploads_code p.code) t in
    (refusal.NotHolder, passes (λ e. not (is_uploader a.authorisation e)) first)
    ∷ (refusal.Duplicate, list_any (uploads p) t) ∷ []
reasons_beyond_role t moment a (OfPack Handover p) =
    let last = last_operation t p in
    (refusal.Unknown, not (list_any (uploads p) t))
    ∷ (refusal.Locked, passes (λ e. is_bound t p e.put.question) (find (uploads p) t))
    ∷ (refusal.NotHeld, not (passes (holds p) last))
    ∷ (refusal.Other, not (passes (is_by_house a) last)) ∷ []
reasons_beyond_role t moment a (OfPack Revert p) =
    let upload = find (uploads p) t in
    let last = last_operation t p in
    (refusal.Unknown, not (list_any (uploads p) t))
    ∷ (refusal.Locked, passes (λ e. is_bound t p e.put.question) upload)
    ∷ (refusal.StillActive, circulates t p)
    ∷ (refusal.IsStolen, passes (steals p) last)
    ∷ (refusal.IsDestroyed, passes (destroys p) last)
    ∷ (refusal.WasSupplied, passes (supplies p) last)
    ∷ (refusal.Other, not (passes (is_by_house a) last))
    ∷ (refusal.Late, not (passes (is_within_ten_days moment) last))
    ∷ (refusal.Expired, passes (λ e. is_past_date moment e.put.question) upload) ∷ []
reasons_beyond_role t moment a (OfBatch _ c b) =
    (refusal.UnknownBatch, not (list_any (uploads_in c b) t))
    ∷ (refusal.NotHolder, not (passes (is_uploader a.authorisation) (find (uploads_code c) t)))
    ∷ (refusal.Already, list_any (binds c b) t) ∷ []
reasons_beyond_role t moment a (OfPack Theft p) =
    (refusal.Unknown, not (list_any (uploads p) t))
    ∷ (refusal.NotHolder, not (passes (is_uploader a.authorisation) (find (uploads_code p.code) t)))
    ∷ (refusal.Already, passes (steals p) (last_operation t p)) ∷ []
reasons_beyond_role t moment a _ = []

-- the reasons to refuse a question: the role first
abbrev pub reasons : List Entry → Put → List (Refusal × Bool)
reasons t q =
    (refusal.Role, not (list_any (same_role q.actor.role) (askers q.question)))
    ∷ reasons_beyond_role t q.moment q.actor q.question

-- the first reason that applies
abbrev pub first_reason : List (Refusal × Bool) → Option Refusal
first_reason [] = None
first_reason ((why, applies) ∷ rest) = if applies then Some why else first_reason rest

-- the reason that a reply gives, if it refuses the question
abbrev pub refusal_in : Reply → Option Refusal
refusal_in (reply.Refused why) = Some why
refusal_in _ = None
