-- Operations that were carried out, seen in question and reply alone. The laws speak in these words, so that they judge
-- the rules' own words (accepted, own status, lock) and do not rest on them.
use Rattle.std.specs.Prelude.{ℕ, Bool, true, false, ◌&&◌, ◌||◌, List, reverse, find, Option, Some, None}
use Rattle.nmvs_identifier.specs.Batch.{Batch}
use Rattle.nmvs_identifier.specs.ProductCode.{ProductCode}
use Rattle.nmvs_identifier.specs.declared.pack.Pack.{Pack}
use Rattle.nmvs_identifier.specs.Pack.{same_pack}
use Rattle.nmvs_identifier.specs.Texts.{same_text}
use Rattle.nmvs_rules.specs.declared.cause.Cause.{Cause}
use Rattle.nmvs_rules.specs.declared.cause.Cause.TheVariants as cause
use Rattle.nmvs_rules.specs.declared.entry.Entry.{Entry}
use Rattle.nmvs_rules.specs.declared.own_status.OwnStatus.{OwnStatus}
use Rattle.nmvs_rules.specs.declared.own_status.OwnStatus.TheVariants as own
use Rattle.nmvs_rules.specs.declared.question.Question.{Question}
use Rattle.nmvs_rules.specs.declared.question.Question.TheVariants.{Upload, OfPack, OfBatch}
use Rattle.nmvs_rules.specs.declared.pack_question.PackQuestion.TheVariants.{Verify, Decommission, Handover, Revert, Theft}
use Rattle.nmvs_rules.specs.declared.batch_question.BatchQuestion.TheVariants.{Recall, Withdraw}
use Rattle.nmvs_rules.specs.declared.reason.Reason.TheVariants as reason
use Rattle.nmvs_rules.specs.declared.reply.Reply.{Reply}
use Rattle.nmvs_rules.specs.declared.reply.Reply.TheVariants as reply

-- the pack was uploaded (Article 33)
abbrev pub upload_done : Pack → Question → Reply → Bool
upload_done p (Upload r _ _) reply.Uploaded = same_pack p r
upload_done p _ _ = false

-- a pack of the product code was uploaded (Article 33)
abbrev pub code_upload_done : ProductCode → Question → Reply → Bool
code_upload_done c (Upload r _ _) reply.Uploaded = same_text c r.code
code_upload_done c _ _ = false

-- a pack of the product code and batch was uploaded (Articles 4 and 33)
abbrev pub batch_upload_done : ProductCode → Batch → Question → Reply → Bool
batch_upload_done c b (Upload r d _) reply.Uploaded = same_text c r.code && same_text b d
batch_upload_done c b _ _ = false

-- the pack was decommissioned (Articles 22 and 25)
abbrev pub decommissioning_done : Pack → Question → Reply → Bool
decommissioning_done p (OfPack (Decommission _) r) reply.Decommissioned = same_pack p r
decommissioning_done p _ _ = false

-- the pack was decommissioned to be held until it is supplied (Article 25)
abbrev pub hold_done : Pack → Question → Reply → Bool
hold_done p (OfPack (Decommission reason.Hold) r) reply.Decommissioned = same_pack p r
hold_done p _ _ = false

-- the pack was handed over after it had been decommissioned for that (own, after Article 25)
abbrev pub handover_done : Pack → Question → Reply → Bool
handover_done p (OfPack Handover r) reply.HandedOver = same_pack p r
handover_done p _ _ = false

-- the pack was supplied to the public, at its decommissioning or by a later handover (Article 25)
abbrev pub supply_done : Pack → Question → Reply → Bool
supply_done p (OfPack (Decommission reason.Supply) r) reply.Decommissioned = same_pack p r
supply_done p (OfPack Handover r) reply.HandedOver = same_pack p r
supply_done p _ _ = false

-- the pack was intended for destruction (Articles 13(1)(d), 22 and 25)
abbrev pub destruction_done : Pack → Question → Reply → Bool
destruction_done p (OfPack (Decommission reason.Destroy) r) reply.Decommissioned = same_pack p r
destruction_done p _ _ = false

-- the pack was reverted to active (Article 13)
abbrev pub reversion_done : Pack → Question → Reply → Bool
reversion_done p (OfPack Revert r) reply.Reverted = same_pack p r
reversion_done p _ _ = false

-- the pack was reported as stolen (Article 40)
abbrev pub theft_done : Pack → Question → Reply → Bool
theft_done p (OfPack Theft r) reply.MarkedStolen = same_pack p r
theft_done p _ _ = false

-- the batch was recalled or withdrawn (Article 40)
abbrev pub lock_done : ProductCode → Batch → Question → Reply → Bool
lock_done c b (OfBatch _ d l) (reply.LockedNow _) = same_text c d && same_text b l
lock_done c b _ _ = false

-- the pack was verified and answered Authentic (Article 11)
abbrev pub confirmation_done : Pack → Question → Reply → Bool
confirmation_done p (OfPack Verify r) (reply.Authentic _ _ _) = same_pack p r
confirmation_done p _ _ = false

-- whether the entry did this
abbrev pub uploads : Pack → Entry → Bool
uploads p e = upload_done p e.put.question e.reply

abbrev pub uploads_code : ProductCode → Entry → Bool
uploads_code c e = code_upload_done c e.put.question e.reply

abbrev pub uploads_in : ProductCode → Batch → Entry → Bool
uploads_in c b e = batch_upload_done c b e.put.question e.reply

abbrev pub decommissions : Pack → Entry → Bool
decommissions p e = decommissioning_done p e.put.question e.reply

abbrev pub holds : Pack → Entry → Bool
holds p e = hold_done p e.put.question e.reply

abbrev pub hands_over : Pack → Entry → Bool
hands_over p e = handover_done p e.put.question e.reply

abbrev pub supplies : Pack → Entry → Bool
supplies p e = supply_done p e.put.question e.reply

abbrev pub destroys : Pack → Entry → Bool
destroys p e = destruction_done p e.put.question e.reply

abbrev pub reverts : Pack → Entry → Bool
reverts p e = reversion_done p e.put.question e.reply

abbrev pub steals : Pack → Entry → Bool
steals p e = theft_done p e.put.question e.reply

abbrev pub binds : ProductCode → Batch → Entry → Bool
binds c b e = lock_done c b e.put.question e.reply

abbrev pub confirms : Pack → Entry → Bool
confirms p e = confirmation_done p e.put.question e.reply

-- whether the entry is an operation that was carried out on the pack
abbrev pub operates : Pack → Entry → Bool
operates p e = (uploads p e || decommissions p e) || (hands_over p e || (reverts p e || steals p e))

-- whether the pack goes on by the entry: it is decommissioned, handed over, reverted, or answered Authentic (Articles 11,
-- 13, 22 and 25)
abbrev pub goes_on : Pack → Entry → Bool
goes_on p e = (decommissions p e || hands_over p e) || (reverts p e || confirms p e)

-- the last operation on a pack
abbrev pub last_operation : List Entry → Pack → Option Entry
last_operation t p = find (operates p) (reverse t)

-- the own status that an operation leaves its pack with (Articles 11, 13, 22, 25 and 40)
abbrev pub own_left : Question → Option OwnStatus
own_left (Upload _ _ _) = Some own.Active
own_left (OfPack Revert _) = Some own.Active
own_left (OfPack (Decommission reason.Supply) _) = Some own.Supplied
own_left (OfPack (Decommission reason.Hold) _) = Some own.Held
own_left (OfPack (Decommission reason.Export) _) = Some own.Exported
own_left (OfPack (Decommission reason.Sample) _) = Some own.Sampled
own_left (OfPack (Decommission reason.Destroy) _) = Some own.Destroyed
own_left (OfPack Handover _) = Some own.Supplied
own_left (OfPack Theft _) = Some own.Stolen
own_left _ = None

-- the content of an alert after such an operation on the pack, or such a lock of its batch. It is its cause, and
-- whether it is flagged as a potential falsification. An upload or a reversion gives no cause (after Article 36)
abbrev pub alarm : Question → Option (Cause × Bool)
alarm (OfPack (Decommission reason.Supply) _) = Some (cause.Supplied, true)
alarm (OfPack (Decommission reason.Hold) _) = Some (cause.Held, true)
alarm (OfPack (Decommission reason.Export) _) = Some (cause.Exported, true)
alarm (OfPack (Decommission reason.Sample) _) = Some (cause.Sampled, true)
alarm (OfPack (Decommission reason.Destroy) _) = Some (cause.Destroyed, false)
alarm (OfPack Handover _) = Some (cause.Supplied, true)
alarm (OfPack Theft _) = Some (cause.Stolen, true)
alarm (OfBatch Recall _ _) = Some (cause.Recalled, false)
alarm (OfBatch Withdraw _ _) = Some (cause.Withdrawn, false)
alarm _ = None

-- the number of a reply that is an alert (own)
abbrev pub alert_number : Reply → Option ℕ
alert_number (reply.Alert _ _ n) = Some n
alert_number _ = None
