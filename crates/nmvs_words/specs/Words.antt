-- The words of the formats (own): the names in capitals.
use Rattle.std.specs.Prelude.{ℕ, Bool, true, false, List, [], ◌∷◌, ◌++◌, codes, find, Option, ◌==◌, if◌then◌else◌}
use Rattle.std.specs.Str.{bytes_eq}
use Rattle.nmvs_rules.specs.Replies.{refusal_number}
use Rattle.nmvs_rules.specs.declared.role.Role.{Role}
use Rattle.nmvs_rules.specs.declared.role.Role.TheVariants as role
use Rattle.nmvs_rules.specs.declared.reason.Reason.{Reason}
use Rattle.nmvs_rules.specs.declared.reason.Reason.TheVariants as reason
use Rattle.nmvs_rules.specs.declared.own_status.OwnStatus.{OwnStatus}
use Rattle.nmvs_rules.specs.declared.own_status.OwnStatus.TheVariants as own
use Rattle.nmvs_rules.specs.declared.batch_lock.BatchLock.{BatchLock}
use Rattle.nmvs_rules.specs.declared.batch_lock.BatchLock.TheVariants as lock
use Rattle.nmvs_rules.specs.declared.onward.Onward.{Onward}
use Rattle.nmvs_rules.specs.declared.onward.Onward.TheVariants as onward
use Rattle.nmvs_rules.specs.declared.cause.Cause.{Cause}
use Rattle.nmvs_rules.specs.declared.cause.Cause.TheVariants as cause
use Rattle.nmvs_rules.specs.declared.refusal.Refusal.{Refusal}
use Rattle.nmvs_rules.specs.declared.refusal.Refusal.TheVariants as refusal

-- the word of a role
abbrev pub role_word : Role → List ℕ
role_word role.Holder = codes "HOLDER"
role_word role.Manufacturer = codes "MANUFACTURER"
role_word role.Wholesaler = codes "WHOLESALER"
role_word role.Pharmacy = codes "PHARMACY"
role_word role.Authority = codes "AUTHORITY"

-- all roles
abbrev pub roles : List Role
roles = role.Holder ∷ role.Manufacturer ∷ role.Wholesaler ∷ role.Pharmacy ∷ role.Authority ∷ []

-- the role that has a word
abbrev pub role_named : List ℕ → Option Role
role_named w = find (λ r. bytes_eq w (role_word r)) roles

-- the word of a decommissioning for a reason
abbrev pub reason_word : Reason → List ℕ
reason_word reason.Supply = codes "SUPPLY"
reason_word reason.Hold = codes "HOLD"
reason_word reason.Export = codes "EXPORT"
reason_word reason.Sample = codes "SAMPLE"
reason_word reason.Destroy = codes "DESTROY"

-- the word of an own status
abbrev pub own_word : OwnStatus → List ℕ
own_word own.Active = codes "ACTIVE"
own_word own.Held = codes "HELD"
own_word own.Supplied = codes "SUPPLIED"
own_word own.Exported = codes "EXPORTED"
own_word own.Sampled = codes "SAMPLED"
own_word own.Destroyed = codes "DESTROYED"
own_word own.Stolen = codes "STOLEN"

-- all own statuses
abbrev pub owns : List OwnStatus
owns = own.Active ∷ own.Held ∷ own.Supplied ∷ own.Exported ∷ own.Sampled ∷ own.Destroyed ∷ own.Stolen ∷ []

-- the own status that has a word
abbrev pub own_named : List ℕ → Option OwnStatus
own_named w = find (λ o. bytes_eq w (own_word o)) owns

-- the word of a batch lock
abbrev pub lock_word : BatchLock → List ℕ
lock_word lock.Free = codes "FREE"
lock_word lock.Recalled = codes "RECALLED"
lock_word lock.Withdrawn = codes "WITHDRAWN"

-- all batch locks
abbrev pub locks : List BatchLock
locks = lock.Free ∷ lock.Recalled ∷ lock.Withdrawn ∷ []

-- the batch lock that has a word
abbrev pub lock_named : List ℕ → Option BatchLock
lock_named w = find (λ l. bytes_eq w (lock_word l)) locks

-- the word that says where a pack may go
abbrev pub onward_word : Onward → List ℕ
onward_word onward.Stock = codes "STOCK"
onward_word onward.Supply = codes "SUPPLY"
onward_word onward.Export = codes "EXPORT"
onward_word onward.Disposal = codes "DISPOSAL"
onward_word onward.Authorities = codes "AUTHORITIES"
onward_word onward.Nowhere = codes "NOWHERE"

-- all places where a pack may go
abbrev pub onwards : List Onward
onwards = onward.Stock ∷ onward.Supply ∷ onward.Export ∷ onward.Disposal ∷ onward.Authorities ∷ onward.Nowhere ∷ []

-- where a pack may go by a word
abbrev pub onward_named : List ℕ → Option Onward
onward_named w = find (λ o. bytes_eq w (onward_word o)) onwards

-- the word of an alert's cause
abbrev pub cause_word : Cause → List ℕ
cause_word cause.Unknown = codes "UNKNOWN"
cause_word cause.Recalled = codes "RECALLED"
cause_word cause.Withdrawn = codes "WITHDRAWN"
cause_word cause.Held = codes "HELD"
cause_word cause.Supplied = codes "SUPPLIED"
cause_word cause.Exported = codes "EXPORTED"
cause_word cause.Sampled = codes "SAMPLED"
cause_word cause.Destroyed = codes "DESTROYED"
cause_word cause.Stolen = codes "STOLEN"

-- all causes of alerts
abbrev pub causes : List Cause
causes =
    cause.Unknown ∷ cause.Recalled ∷ cause.Withdrawn ∷ cause.Held ∷ cause.Supplied ∷ cause.Exported ∷ cause.Sampled
    ∷ cause.Destroyed ∷ cause.Stolen ∷ []

-- the alert's cause that has a word
abbrev pub cause_named : List ℕ → Option Cause
cause_named w = find (λ c. bytes_eq w (cause_word c)) causes

-- the word that says whether an expiry date is past
abbrev pub validity_word : Bool → List ℕ
validity_word expired = if expired then codes "EXPIRED" else codes "VALID"

-- whether an expiry date is past, by a word
abbrev pub validity_named : List ℕ → Option Bool
validity_named w = find (λ b. bytes_eq w (validity_word b)) (false ∷ true ∷ [])

-- the word that says whether an alert is flagged as a potential falsification
abbrev pub flag_word : Bool → List ℕ
flag_word flagged = if flagged then codes "FLAGGED" else codes "UNFLAGGED"

-- whether an alert is flagged, by a word
abbrev pub flag_named : List ℕ → Option Bool
flag_named w = find (λ b. bytes_eq w (flag_word b)) (true ∷ false ∷ [])

-- the word of a refusal
abbrev pub refusal_word : Refusal → List ℕ
refusal_word refusal.Role = codes "ROLE"
refusal_word refusal.Unknown = codes "UNKNOWN"
refusal_word refusal.UnknownBatch = codes "UNKNOWN_BATCH"
refusal_word refusal.NotHolder = codes "NOT_HOLDER"
refusal_word refusal.Duplicate = codes "DUPLICATE"
refusal_word refusal.Already = codes "ALREADY"
refusal_word refusal.Locked = codes "LOCKED"
refusal_word refusal.StillActive = codes "STILL_ACTIVE"
refusal_word refusal.IsStolen = codes "IS_STOLEN"
refusal_word refusal.IsDestroyed = codes "IS_DESTROYED"
refusal_word refusal.WasSupplied = codes "WAS_SUPPLIED"
refusal_word refusal.Other = codes "OTHER"
refusal_word refusal.Late = codes "LATE"
refusal_word refusal.Expired = codes "EXPIRED"
refusal_word refusal.NotHeld = codes "NOT_HELD"

-- all refusals
abbrev pub refusals : List Refusal
refusals =
    refusal.Role ∷ refusal.Unknown ∷ refusal.UnknownBatch ∷ refusal.NotHolder ∷ refusal.Duplicate ∷ refusal.Already
    ∷ refusal.Locked ∷ refusal.StillActive ∷ refusal.IsStolen ∷ refusal.IsDestroyed ∷ refusal.WasSupplied ∷ refusal.Other
    ∷ refusal.Late ∷ refusal.Expired ∷ refusal.NotHeld ∷ []

-- the refusal that has a number
abbrev pub refusal_numbered : ℕ → Option Refusal
refusal_numbered n = find (λ r. n == refusal_number r) refusals

-- words with a space before each, and LF after the last
abbrev pub followed : List (List ℕ) → List ℕ
followed [] = codes "\n"
followed (w ∷ ws) = codes " " ++ (w ++ followed ws)

-- words with a space between each two, and LF after the last
abbrev pub spaced : List (List ℕ) → List ℕ
spaced [] = codes "\n"
spaced (w ∷ ws) = w ++ followed ws
