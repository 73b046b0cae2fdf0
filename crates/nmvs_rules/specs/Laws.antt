-- The words of the laws over the rules.
use Rattle.std.specs.Prelude.{ℕ, ◌≡◌, ◌+◌, ◌≤◌, ◌==◌, pos, ◌≤ℤ◌, Bool, true, false, ◌&&◌, ◌||◌, ◌⊎◌, IsTrue, IsFalse, if◌then◌else◌, List, [], ◌∷◌, length, filter, filter_map, find, count_by, Some, IsSomeAnd}
use Rattle.std.specs.List.{list_any}
use Rattle.std.specs.Option.{option_map_or}
use Rattle.nmvs_identifier.specs.Batch.{Batch}
use Rattle.nmvs_identifier.specs.Expiry.{Expiry, expiry_day}
use Rattle.nmvs_identifier.specs.Moment.{day_of}
use Rattle.nmvs_identifier.specs.Name.{Name}
use Rattle.nmvs_identifier.specs.ProductCode.{ProductCode}
use Rattle.nmvs_identifier.specs.declared.pack.Pack.{Pack}
use Rattle.nmvs_rules.specs.declared.entry.Entry.{Entry}
use Rattle.nmvs_rules.specs.declared.facts.Known.{Known}
use Rattle.nmvs_rules.specs.declared.own_status.OwnStatus.{OwnStatus}
use Rattle.nmvs_rules.specs.declared.own_status.OwnStatus.TheVariants as own
use Rattle.nmvs_rules.specs.declared.question.Question.{Question}
use Rattle.nmvs_rules.specs.declared.question.Question.TheVariants.{Upload, OfPack, OfBatch}
use Rattle.nmvs_rules.specs.declared.pack_question.PackQuestion.TheVariants.{Verify, Decommission, Handover}
use Rattle.nmvs_rules.specs.declared.batch_question.BatchQuestion.TheVariants.{Recall, Withdraw}
use Rattle.nmvs_rules.specs.declared.reason.Reason.{Reason}
use Rattle.nmvs_rules.specs.declared.put.Put.{Put}
use Rattle.nmvs_rules.specs.Limits.{reversion_days}
use Rattle.nmvs_rules.specs.Questions.{code_of}
use Rattle.nmvs_rules.specs.Trail.{has_code}
use Rattle.nmvs_rules.specs.Operations.{uploads, uploads_code, uploads_in, decommissions, holds, supplies, destroys, reverts, steals, binds, last_operation, own_left, alert_number}

-- the entries with a product code, in order (own)
abbrev pub part_of : List Entry → ProductCode → List Entry
part_of t c = filter (has_code c) t

-- the entries whose product code is kept by its text, in order (own)
abbrev pub kept : (List ℕ → Bool) → List Entry → List Entry
kept keep t = filter (λ e. keep (code_of e.put.question).bytes) t

-- the entries whose product code has a place by its text, in order (own)
abbrev pub placed_at : (List ℕ → ℕ) → ℕ → List Entry → List Entry
placed_at place i t = kept (λ c. place c == i) t

-- whether the question hands a pack over (own, after Article 25)
abbrev pub is_handover : Question → Bool
is_handover (OfPack Handover _) = true
is_handover _ = false

-- whether the entry's question hands a pack over
abbrev pub asks_handover : Entry → Bool
asks_handover e = is_handover e.put.question

-- the entries of one owner, in order; the list of owners has one for each entry (own)
abbrev pub owned : List ℕ → List Entry → ℕ → List Entry
owned (o ∷ owners) (e ∷ t) i = if o == i then e ∷ owned owners t i else owned owners t i
owned owners t i = []

-- whether the trail is a merging of the lists (own). Each entry belongs to exactly one list, each entry of each list is
-- used, and each list keeps its order.
abbrev pub IsMerging : (ℕ → List Entry) → List Entry → Type 0
IsMerging lists t = (owners : List ℕ) × (length owners ≡ length t) × ((i : ℕ) → owned owners t i ≡ lists i)

-- whether no product code stands in two of the lists (own)
abbrev pub IsApart : (ℕ → List Entry) → Type 0
IsApart lists =
    (c : ProductCode) (i j : ℕ) →
    IsTrue (list_any (has_code c) (lists i)) → IsTrue (list_any (has_code c) (lists j)) → i ≡ j

-- the pack was uploaded, with this batch and this expiry date (Article 4)
abbrev pub IsUploadedWith : List Entry → Pack → Batch → Expiry → Type 0
IsUploadedWith t p b x = IsSomeAnd (find (uploads p) t) (λ u. (r : Pack) × (u.put.question ≡ Upload r b x))

-- whether the last operation on the pack is its upload or a reversion (Article 11)
abbrev pub circulates : List Entry → Pack → Bool
circulates t p = option_map_or (λ m. uploads p m || reverts p m) (last_operation t p) false

-- the batch was neither recalled nor withdrawn (Article 40)
abbrev pub IsUnlocked : List Entry → ProductCode → Batch → Type 0
IsUnlocked t c b = IsFalse (list_any (binds c b) t)

-- the conditions of Article 11 on an authentic pack with this batch and this expiry date. It was uploaded, its
-- identifier is active, and its batch was neither recalled nor withdrawn (Article 40).
pub record IsGenuine (t : List Entry) (p : Pack) (b : Batch) (x : Expiry) : Type 0 where
  pub uploaded : IsUploadedWith t p b x
  pub moving : IsTrue (circulates t p)
  pub unlocked : IsUnlocked t p.code b

-- whether the question uploads a pack that circulates
abbrev pub uploads_circulating : List Entry → Question → Bool
uploads_circulating t (Upload p _ _) = circulates t p
uploads_circulating t _ = false

-- the number of uploads of packs of the batch that circulate: in a lawful trail a pack has one (after Article 40)
abbrev pub circulating : List Entry → ProductCode → Batch → ℕ
circulating t c b = count_by (λ e. uploads_in c b e && uploads_circulating t e.put.question) t

-- the product code was uploaded first by this authorisation, which is its holder (own)
abbrev pub IsHeldBy : List Entry → ProductCode → Name → Type 0
IsHeldBy t c n = IsSomeAnd (find (uploads_code c) t) (λ u. u.put.actor.authorisation.bytes ≡ n.bytes)

-- whether one own status may follow another (Articles 12, 13, 22, 25 and 40). An active pack goes any way. A held one
-- is supplied. A held, exported or sampled one comes back or is stolen. A supplied or destroyed one is stolen at most,
-- and a stolen one stays so.
abbrev pub may_become : OwnStatus → OwnStatus → Bool
may_become own.Active own.Active = false
may_become own.Active _ = true
may_become own.Held own.Active = true
may_become own.Held own.Supplied = true
may_become own.Exported own.Active = true
may_become own.Sampled own.Active = true
may_become own.Stolen _ = false
may_become _ own.Stolen = true
may_become _ _ = false

-- an operation e, before which `place` entries stand, takes the values known of its pack from k to n
pub record IsMovedOn (k : Known) (place : ℕ) (e : Entry) (n : Known) : Type 0 where
  pub left : own_left e.put.question ≡ Some n.own
  pub course : IsTrue (may_become k.own n.own)
  pub batch : n.batch ≡ k.batch
  pub expiry : n.expiry ≡ k.expiry
  pub mark : n.mark ≡ record { place = place; moment = e.put.moment; authorisation = e.put.actor.authorisation; premises = e.put.actor.premises }

-- the values known of a pack after its upload e, before which `place` entries stand
pub record IsBorn (place : ℕ) (e : Entry) (n : Known) : Type 0 where
  pub pack : Pack
  pub question : e.put.question ≡ Upload pack n.batch n.expiry
  pub active : n.own ≡ own.Active
  pub mark : n.mark ≡ record { place = place; moment = e.put.moment; authorisation = e.put.actor.authorisation; premises = e.put.actor.premises }

-- a question that is answered with an alert if the pack is not authentic (Article 36)
abbrev pub AsksAuthenticity : Pack → Question → Type 0
AsksAuthenticity p q = (q ≡ OfPack Verify p) ⊎ ((w : Reason) × (q ≡ OfPack (Decommission w) p))

-- a question that locks the batch if it is accepted (Article 40)
abbrev pub AsksLock : ProductCode → Batch → Question → Type 0
AsksLock c b q = (q ≡ OfBatch Recall c b) ⊎ (q ≡ OfBatch Withdraw c b)

-- the numbers of the alerts on a product code, in order (own)
abbrev pub alert_numbers : List Entry → ProductCode → List ℕ
alert_numbers t c = filter_map (λ e. alert_number e.reply) (part_of t c)

-- the conditions of Article 13(1) on a reversion q of the pack p
pub record IsRevertible (t : List Entry) (p : Pack) (q : Put) : Type 0 where
  pub batch : Batch
  pub expiry : Expiry
  pub uploaded : IsUploadedWith t p batch expiry
  -- the last operation on the pack decommissioned it
  pub last : Entry
  pub latest : last_operation t p ≡ Some last
  pub decommissioned : IsTrue (decommissions p last)
  -- (a) the same authorisation or entitlement, and the same premises
  pub same_authorisation : q.actor.authorisation.bytes ≡ last.put.actor.authorisation.bytes
  pub same_premises : q.actor.premises.bytes ≡ last.put.actor.premises.bytes
  -- (b) within the limit of ten days after the decommissioning
  pub within_days : day_of q.moment ≤ day_of last.put.moment + reversion_days
  -- (c) the pack has not expired
  pub not_expired : pos (day_of q.moment) ≤ℤ expiry_day expiry.bytes
  -- (d) neither recalled nor withdrawn, nor intended for destruction, nor stolen
  pub unlocked : IsUnlocked t p.code batch
  pub not_destroyed : IsFalse (destroys p last)
  pub not_stolen : IsFalse (steals p last)
  -- (e) not supplied to the public
  pub not_supplied : IsFalse (supplies p last)

-- the conditions on an upload of the pack p by the authorisation n
pub record IsUploadable (t : List Entry) (p : Pack) (n : Name) : Type 0 where
  -- no pack with this unique identifier was uploaded before (Articles 4, 33 and 35(3))
  pub first : IsFalse (list_any (uploads p) t)
  -- the product code was uploaded by nobody, or first by this authorisation (own)
  pub allowed : IsFalse (list_any (uploads_code p.code) t) ⊎ IsHeldBy t p.code n

-- the conditions on a handover q of the pack p (own, after Article 25)
pub record IsSuppliable (t : List Entry) (p : Pack) (q : Put) : Type 0 where
  pub batch : Batch
  pub expiry : Expiry
  pub uploaded : IsUploadedWith t p batch expiry
  -- the last operation on the pack decommissioned it, to be held until it is supplied
  pub last : Entry
  pub latest : last_operation t p ≡ Some last
  pub held : IsTrue (holds p last)
  -- it is still where it was held: the same authorisation, and the same premises
  pub same_authorisation : q.actor.authorisation.bytes ≡ last.put.actor.authorisation.bytes
  pub same_premises : q.actor.premises.bytes ≡ last.put.actor.premises.bytes
  -- neither recalled nor withdrawn (Article 40)
  pub unlocked : IsUnlocked t p.code batch

-- the conditions on a recall or withdrawal of the batch b by the authorisation n (Article 40)
pub record IsLockable (t : List Entry) (c : ProductCode) (b : Batch) (n : Name) : Type 0 where
  pub uploaded : IsTrue (list_any (uploads_in c b) t)
  pub holder : IsHeldBy t c n
  pub unlocked : IsUnlocked t c b

-- the conditions on a report by the authorisation n that the pack p was stolen (Article 40)
pub record IsReportable (t : List Entry) (p : Pack) (n : Name) : Type 0 where
  pub holder : IsHeldBy t p.code n
  -- the pack was uploaded, and the last operation on it was no theft report
  pub uploaded : IsTrue (list_any (uploads p) t)
  pub not_stolen : IsSomeAnd (last_operation t p) (λ m. IsFalse (steals p m))
