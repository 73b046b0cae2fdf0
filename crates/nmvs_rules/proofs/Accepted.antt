-- The words of the laws, by question and reply, agree with the words of the rules on accepted entries.
use Rattle.std.proofs.Common.{◌≡◌, Bool, true, false, ◌&&◌, ◌||◌, List, reverse, Some, refl, sym, ◌∙◌}
use Rattle.std.proofs.Math.Bool.{and-true, and-false, or-false}
use Rattle.std.specs.Cmp.{second_so}
use Rattle.std.specs.List.{find}
use Rattle.nmvs_identifier.specs.Batch.{Batch}
use Rattle.nmvs_identifier.specs.Pack.{same_pack}
use Rattle.nmvs_identifier.specs.ProductCode.{ProductCode}
use Rattle.nmvs_identifier.specs.Texts.{same_text}
use Rattle.nmvs_identifier.specs.declared.pack.Pack.{Pack}
use Rattle.nmvs_rules.specs.declared.entry.Entry.{Entry}
use Rattle.nmvs_rules.specs.declared.question.Question.{Question}
use Rattle.nmvs_rules.specs.declared.question.Question.TheVariants.{Upload, OfPack, OfBatch}
use Rattle.nmvs_rules.specs.declared.pack_question.PackQuestion.TheVariants.{Verify, Decommission, Handover, Revert, Theft}
use Rattle.nmvs_rules.specs.declared.reason.Reason.TheVariants as reason
use Rattle.nmvs_rules.specs.declared.reply.Reply.{Reply}
use Rattle.nmvs_rules.specs.declared.reply.Reply.TheVariants as reply
use Rattle.nmvs_rules.specs.Questions.{pack_of, code_of, names}
use Rattle.nmvs_rules.specs.Trail.{accepts, is_accepted, is_about, has_code, is_mark, is_upload, locks_batch, own_given, born, mark}
use Rattle.nmvs_rules.specs.Rules.{is_stolen, is_destroyed, is_supplied}
use Rattle.nmvs_rules.specs.Laws.{is_handover}
use Rattle.nmvs_rules.specs.Operations.{upload_done, code_upload_done, decommissioning_done, handover_done, supply_done, destruction_done, reversion_done, theft_done, lock_done, confirmation_done, uploads, uploads_code, decommissions, hands_over, supplies, reverts, confirms, binds, operates, last_operation, own_left}

-- whether a question decommissions a pack, supplies it to the public, reverts it, or reports it as stolen
abbrev pub is_decommissioning : Question → Bool
is_decommissioning (OfPack (Decommission _) _) = true
is_decommissioning _ = false

abbrev pub is_supply : Question → Bool
is_supply (OfPack (Decommission reason.Supply) _) = true
is_supply (OfPack Handover _) = true
is_supply _ = false

abbrev pub is_reversion : Question → Bool
is_reversion (OfPack Revert _) = true
is_reversion _ = false

abbrev pub is_theft : Question → Bool
is_theft (OfPack Theft _) = true
is_theft _ = false

-- whether a verification was answered Authentic
abbrev pub is_confirmed : Question → Reply → Bool
is_confirmed (OfPack Verify _) (reply.Authentic _ _ _) = true
is_confirmed _ _ = false

-- whether the entry is accepted, about the pack, and of this kind
abbrev pub accepted_upload : Pack → Entry → Bool
accepted_upload p e = (is_upload e.put.question && is_about p e) && is_accepted e

abbrev pub accepted_decommissioning : Pack → Entry → Bool
accepted_decommissioning p e = is_mark p e && is_decommissioning e.put.question

abbrev pub accepted_handover : Pack → Entry → Bool
accepted_handover p e = is_mark p e && is_handover e.put.question

abbrev pub accepted_supply : Pack → Entry → Bool
accepted_supply p e = is_mark p e && is_supply e.put.question

abbrev pub accepted_reversion : Pack → Entry → Bool
accepted_reversion p e = is_mark p e && is_reversion e.put.question

abbrev pub accepted_lock : ProductCode → Batch → Entry → Bool
accepted_lock c b e = locks_batch c b e.put.question && is_accepted e

abbrev pub authentic_answer : Pack → Entry → Bool
authentic_answer p e = is_about p e && is_confirmed e.put.question e.reply

twice-true : (b : Bool) → ((b && true) && true) ≡ b
twice-true b = and-true (b && true) ∙ and-true b

false-true : (b : Bool) → ((b && false) && true) ≡ false
false-true b = and-true (b && false) ∙ and-false b

upload-is : (p : Pack) (q : Question) (r : Reply) → upload_done p q r ≡ ((is_upload q && names p (pack_of q)) && accepts q r)
upload-is p (Upload s b x) reply.Uploaded = sym (and-true (same_pack p s))
upload-is p (Upload s b x) r = sym (and-false (same_pack p s))
upload-is p q r = refl

code_upload-is : (c : ProductCode) (q : Question) (r : Reply) → code_upload_done c q r ≡ ((is_upload q && same_text c (code_of q)) && accepts q r)
code_upload-is c (Upload s b x) reply.Uploaded = sym (and-true (same_text c s.code))
code_upload-is c (Upload s b x) r = sym (and-false (same_text c s.code))
code_upload-is c q r = refl

decommissioning-is : (p : Pack) (q : Question) (r : Reply) → decommissioning_done p q r ≡ ((names p (pack_of q) && accepts q r) && is_decommissioning q)
decommissioning-is p (OfPack (Decommission w) s) reply.Decommissioned = sym (twice-true (same_pack p s))
decommissioning-is p (OfPack (Decommission w) s) r = sym (false-true (same_pack p s))
decommissioning-is p q r = sym (and-false (names p (pack_of q) && accepts q r))

handover-is : (p : Pack) (q : Question) (r : Reply) → handover_done p q r ≡ ((names p (pack_of q) && accepts q r) && is_handover q)
handover-is p (OfPack Handover s) reply.HandedOver = sym (twice-true (same_pack p s))
handover-is p (OfPack Handover s) r = sym (false-true (same_pack p s))
handover-is p q r = sym (and-false (names p (pack_of q) && accepts q r))

supply-is : (p : Pack) (q : Question) (r : Reply) → supply_done p q r ≡ ((names p (pack_of q) && accepts q r) && is_supply q)
supply-is p (OfPack (Decommission reason.Supply) s) reply.Decommissioned = sym (twice-true (same_pack p s))
supply-is p (OfPack (Decommission reason.Supply) s) r = sym (false-true (same_pack p s))
supply-is p (OfPack Handover s) reply.HandedOver = sym (twice-true (same_pack p s))
supply-is p (OfPack Handover s) r = sym (false-true (same_pack p s))
supply-is p q r = sym (and-false (names p (pack_of q) && accepts q r))

reversion-is : (p : Pack) (q : Question) (r : Reply) → reversion_done p q r ≡ ((names p (pack_of q) && accepts q r) && is_reversion q)
reversion-is p (OfPack Revert s) reply.Reverted = sym (twice-true (same_pack p s))
reversion-is p (OfPack Revert s) r = sym (false-true (same_pack p s))
reversion-is p q r = sym (and-false (names p (pack_of q) && accepts q r))

confirmation-is : (p : Pack) (q : Question) (r : Reply) → confirmation_done p q r ≡ (names p (pack_of q) && is_confirmed q r)
confirmation-is p (OfPack Verify s) (reply.Authentic b x late) = sym (and-true (same_pack p s))
confirmation-is p (OfPack Verify s) r = sym (and-false (same_pack p s))
confirmation-is p q r = sym (and-false (names p (pack_of q)))

lock-is : (c : ProductCode) (b : Batch) (q : Question) (r : Reply) → lock_done c b q r ≡ (locks_batch c b q && accepts q r)
lock-is c b (OfBatch _ d l) (reply.LockedNow n) = sym (and-true (same_text c d && same_text b l))
lock-is c b (OfBatch _ d l) r = sym (and-false (same_text c d && same_text b l))
lock-is c b q r = refl

operation-is : (p : Pack) (q : Question) (r : Reply) → ((upload_done p q r || decommissioning_done p q r) || (handover_done p q r || (reversion_done p q r || theft_done p q r))) ≡ (names p (pack_of q) && accepts q r)
operation-is p (Upload s b x) reply.Uploaded = or-false (same_pack p s || false) ∙ or-false (same_pack p s) ∙ sym (and-true (same_pack p s))
operation-is p (OfPack (Decommission w) s) reply.Decommissioned = or-false (same_pack p s) ∙ sym (and-true (same_pack p s))
operation-is p (OfPack Handover s) reply.HandedOver = or-false (same_pack p s) ∙ sym (and-true (same_pack p s))
operation-is p (OfPack Revert s) reply.Reverted = or-false (same_pack p s) ∙ sym (and-true (same_pack p s))
operation-is p (OfPack Theft s) reply.MarkedStolen = sym (and-true (same_pack p s))
operation-is p (Upload s b x) r = sym (and-false (same_pack p s))
operation-is p (OfPack (Decommission w) s) r = sym (and-false (same_pack p s))
operation-is p (OfPack Handover s) r = sym (and-false (same_pack p s))
operation-is p (OfPack Revert s) r = sym (and-false (same_pack p s))
operation-is p (OfPack Theft s) r = sym (and-false (same_pack p s))
operation-is p q r = sym (and-false (names p (pack_of q)))

-- an upload of the pack in the words of the laws is an accepted upload of it
pub uploads-is : (p : Pack) (e : Entry) → uploads p e ≡ accepted_upload p e
uploads-is p e = upload-is p e.put.question e.reply

-- so is its decommissioning
pub decommissions-is : (p : Pack) (e : Entry) → decommissions p e ≡ accepted_decommissioning p e
decommissions-is p e = decommissioning-is p e.put.question e.reply

-- so is its handover
pub hands_over-is : (p : Pack) (e : Entry) → hands_over p e ≡ accepted_handover p e
hands_over-is p e = handover-is p e.put.question e.reply

-- so is its supply
pub supplies-is : (p : Pack) (e : Entry) → supplies p e ≡ accepted_supply p e
supplies-is p e = supply-is p e.put.question e.reply

-- so is its reversion
pub reverts-is : (p : Pack) (e : Entry) → reverts p e ≡ accepted_reversion p e
reverts-is p e = reversion-is p e.put.question e.reply

-- so is a verification that is answered Authentic
pub confirms-is : (p : Pack) (e : Entry) → confirms p e ≡ authentic_answer p e
confirms-is p e = confirmation-is p e.put.question e.reply

-- so is a recall or withdrawal of the batch
pub binds-is : (c : ProductCode) (b : Batch) (e : Entry) → binds c b e ≡ accepted_lock c b e
binds-is c b e = lock-is c b e.put.question e.reply

-- an operation on the pack is an accepted entry about it
pub operates-is : (p : Pack) (e : Entry) → operates p e ≡ is_mark p e
operates-is p e = operation-is p e.put.question e.reply

-- the first upload and the last operation are those of the rules
pub first-upload : (t : List Entry) (p : Pack) → find (uploads p) t ≡ born t p
first-upload t p = λ i. find (λ e. uploads-is p e i) t

-- so the last operation on a pack is its mark
pub last-operation : (t : List Entry) (p : Pack) → last_operation t p ≡ mark t p
last-operation t p = λ i. find (λ e. operates-is p e i) (reverse t)

-- the first upload of a product code is the one that made its holder
pub first-upload_of_code : (t : List Entry) (c : ProductCode) → find (uploads_code c) t ≡ find (λ e. (is_upload e.put.question && has_code c e) && is_accepted e) t
first-upload_of_code t c = λ i. find (λ e. code_upload-is c e.put.question e.reply i) t

-- the own status that an operation leaves
pub left : (p : Pack) (q : Question) (r : Reply) → (names p (pack_of q) && accepts q r) ≡ true → own_left q ≡ Some (own_given q)
left p (Upload s b x) r h = refl
left p (OfPack (Decommission reason.Supply) s) r h = refl
left p (OfPack (Decommission reason.Hold) s) r h = refl
left p (OfPack (Decommission reason.Export) s) r h = refl
left p (OfPack (Decommission reason.Sample) s) r h = refl
left p (OfPack (Decommission reason.Destroy) s) r h = refl
left p (OfPack Handover s) r h = refl
left p (OfPack Revert s) r h = refl
left p (OfPack Theft s) r h = refl
left p (OfBatch _ c b) r h = let none : false ≡ true = h in cc
left p q r h = let none : false ≡ true = second_so (names p (pack_of q)) (accepts q r) h in cc

-- a decommissioning for destruction gives the own status Destroyed
pub destroyed-by : (p : Pack) (q : Question) (r : Reply) → destruction_done p q r ≡ true → is_destroyed (own_given q) ≡ true
destroyed-by p (OfPack (Decommission reason.Destroy) s) reply.Decommissioned h = refl
destroyed-by p q r h = let none : false ≡ true = h in cc

-- a supply gives the own status Supplied
pub supplied-by : (p : Pack) (q : Question) (r : Reply) → supply_done p q r ≡ true → is_supplied (own_given q) ≡ true
supplied-by p (OfPack (Decommission reason.Supply) s) reply.Decommissioned h = refl
supplied-by p (OfPack Handover s) reply.HandedOver h = refl
supplied-by p q r h = let none : false ≡ true = h in cc

-- a theft report gives the own status Stolen
pub stolen-by : (p : Pack) (q : Question) (r : Reply) → theft_done p q r ≡ true → is_stolen (own_given q) ≡ true
stolen-by p (OfPack Theft s) reply.MarkedStolen h = refl
stolen-by p q r h = let none : false ≡ true = h in cc

-- a decommissioning that is not for destruction does not give Destroyed
pub not-destroyed_by : (p : Pack) (q : Question) (r : Reply) → decommissioning_done p q r ≡ true → destruction_done p q r ≡ false → is_destroyed (own_given q) ≡ false
not-destroyed_by p (OfPack (Decommission reason.Supply) s) reply.Decommissioned h n = refl
not-destroyed_by p (OfPack (Decommission reason.Hold) s) reply.Decommissioned h n = refl
not-destroyed_by p (OfPack (Decommission reason.Export) s) reply.Decommissioned h n = refl
not-destroyed_by p (OfPack (Decommission reason.Sample) s) reply.Decommissioned h n = refl
not-destroyed_by p (OfPack (Decommission reason.Destroy) s) reply.Decommissioned h n = sym h ∙ n
not-destroyed_by p q r h n = let none : false ≡ true = h in cc

-- a decommissioning that is no supply does not give Supplied
pub not-supplied_by : (p : Pack) (q : Question) (r : Reply) → decommissioning_done p q r ≡ true → supply_done p q r ≡ false → is_supplied (own_given q) ≡ false
not-supplied_by p (OfPack (Decommission reason.Supply) s) reply.Decommissioned h n = sym h ∙ n
not-supplied_by p (OfPack (Decommission reason.Hold) s) reply.Decommissioned h n = refl
not-supplied_by p (OfPack (Decommission reason.Export) s) reply.Decommissioned h n = refl
not-supplied_by p (OfPack (Decommission reason.Sample) s) reply.Decommissioned h n = refl
not-supplied_by p (OfPack (Decommission reason.Destroy) s) reply.Decommissioned h n = refl
not-supplied_by p q r h n = let none : false ≡ true = h in cc

-- no decommissioning gives Stolen
pub not-stolen_by : (p : Pack) (q : Question) (r : Reply) → decommissioning_done p q r ≡ true → is_stolen (own_given q) ≡ false
not-stolen_by p (OfPack (Decommission reason.Supply) s) reply.Decommissioned h = refl
not-stolen_by p (OfPack (Decommission reason.Hold) s) reply.Decommissioned h = refl
not-stolen_by p (OfPack (Decommission reason.Export) s) reply.Decommissioned h = refl
not-stolen_by p (OfPack (Decommission reason.Sample) s) reply.Decommissioned h = refl
not-stolen_by p (OfPack (Decommission reason.Destroy) s) reply.Decommissioned h = refl
not-stolen_by p q r h = let none : false ≡ true = h in cc
