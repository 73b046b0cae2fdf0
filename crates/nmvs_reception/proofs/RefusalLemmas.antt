-- The refusals of the rules, in the words of the laws.
use Rattle.std.proofs.Common.{◌≡◌, ◌↔◌, ℕ, Bool, true, false, not, ◌&&◌, ◌||◌, cond, List, [], ◌∷◌, reverse, Option, Some, None, IsFalse, refl, sym, ap, ◌∙◌}
use Rattle.std.proofs.Math.Bool.{and-true, and-false, or-false}
use Rattle.std.specs.Cmp.{first_so, second_so}
use Rattle.std.specs.List.{find, list_any}
use Rattle.std.specs.Option.{is_some, option_map}
use Rattle.nmvs_identifier.specs.Batch.{Batch}
use Rattle.nmvs_identifier.specs.Name.{Name}
use Rattle.nmvs_identifier.specs.Pack.{same_pack}
use Rattle.nmvs_identifier.specs.ProductCode.{ProductCode}
use Rattle.nmvs_identifier.specs.Texts.{same_text}
use Rattle.nmvs_identifier.specs.declared.pack.Pack.{Pack}
use Rattle.nmvs_rules.specs.declared.actor.Actor.{Actor}
use Rattle.nmvs_rules.specs.declared.entry.Entry.{Entry}
use Rattle.nmvs_rules.specs.declared.facts.Known.{Known}
use Rattle.nmvs_rules.specs.declared.own_status.OwnStatus.TheVariants as own
use Rattle.nmvs_rules.specs.declared.put.Put.{Put}
use Rattle.nmvs_rules.specs.declared.question.Question.{Question}
use Rattle.nmvs_rules.specs.declared.question.Question.TheVariants.{Upload, OfPack, OfBatch}
use Rattle.nmvs_rules.specs.declared.pack_question.PackQuestion.TheVariants.{Verify, Status, Decommission, Handover, Revert, Theft, Audit}
use Rattle.nmvs_rules.specs.declared.batch_question.BatchQuestion.TheVariants.{Recall}
use Rattle.nmvs_rules.specs.declared.reason.Reason.TheVariants as reason
use Rattle.nmvs_rules.specs.declared.refusal.Refusal.{Refusal}
use Rattle.nmvs_rules.specs.declared.refusal.Refusal.TheVariants as refusal
use Rattle.nmvs_rules.specs.declared.reply.Reply.{Reply}
use Rattle.nmvs_rules.specs.declared.reply.Reply.TheVariants as reply
use Rattle.nmvs_rules.specs.declared.role.Role.{Role}
use Rattle.nmvs_rules.specs.declared.role.Role.TheVariants as role
use Rattle.nmvs_rules.specs.Questions.{may_ask, pack_of, names}
use Rattle.nmvs_rules.specs.Repeats.{same_role}
use Rattle.nmvs_rules.specs.Trail.{accepts, mark_place, mark_after, known, holder_of, lock_of, is_mark, is_known_batch, uploads_batch, own_given, count_of, alerts_of}
use Rattle.nmvs_rules.specs.Rules.{admitted_reply, alert_on, has_other_holder, is_active, is_authentic, is_destroyed, is_free, is_held, is_held_by, is_in_time, is_past, is_same_house, is_stolen, is_supplied, lock_on, lock_reply, on_pack, reply_of}
use Rattle.nmvs_rules.specs.Operations.{batch_upload_done, destruction_done, hold_done, reversion_done, supply_done, theft_done, upload_done, binds, uploads, uploads_code, uploads_in, last_operation}
use Rattle.nmvs_rules.specs.Laws.{circulates}
use Rattle.nmvs_rules.proofs.Accepted.{first-upload, last-operation}
use Rattle.nmvs_rules.proofs.BirthLemmas.{is_some-known}
use Rattle.nmvs_rules.proofs.FindLemmas.{find-passes, is_some-find}
use Rattle.nmvs_rules.proofs.HolderLemmas.{holder-first}
use Rattle.nmvs_rules.proofs.LockLemmas.{free-unlocked, unlocked-free}
use Rattle.nmvs_rules.proofs.MarkLemmas.{known-by}
use Rattle.nmvs_reception.specs.Refusals.{askers, first_reason, is_bound, is_by_house, is_past_date, is_uploader, is_within_ten_days, passes, reasons, reasons_beyond_role, refusal_in}

-- the roles of a question are those that the rules admit
may-is : (r : Role) (q : Question) → may_ask r q ≡ list_any (same_role r) (askers q)
may-is role.Holder (OfPack (Decommission reason.Supply) p) = refl
may-is role.Holder (OfPack (Decommission reason.Hold) p) = refl
may-is role.Holder (OfPack (Decommission reason.Export) p) = refl
may-is role.Holder (OfPack (Decommission reason.Sample) p) = refl
may-is role.Holder (OfPack (Decommission reason.Destroy) p) = refl
may-is role.Holder q = refl
may-is role.Manufacturer (OfPack (Decommission reason.Supply) p) = refl
may-is role.Manufacturer (OfPack (Decommission reason.Hold) p) = refl
may-is role.Manufacturer (OfPack (Decommission reason.Export) p) = refl
may-is role.Manufacturer (OfPack (Decommission reason.Sample) p) = refl
may-is role.Manufacturer (OfPack (Decommission reason.Destroy) p) = refl
may-is role.Manufacturer q = refl
may-is role.Wholesaler (OfPack (Decommission reason.Supply) p) = refl
may-is role.Wholesaler (OfPack (Decommission reason.Hold) p) = refl
may-is role.Wholesaler (OfPack (Decommission reason.Export) p) = refl
may-is role.Wholesaler (OfPack (Decommission reason.Sample) p) = refl
may-is role.Wholesaler (OfPack (Decommission reason.Destroy) p) = refl
may-is role.Wholesaler q = refl
may-is role.Pharmacy (OfPack (Decommission reason.Supply) p) = refl
may-is role.Pharmacy (OfPack (Decommission reason.Hold) p) = refl
may-is role.Pharmacy (OfPack (Decommission reason.Export) p) = refl
may-is role.Pharmacy (OfPack (Decommission reason.Sample) p) = refl
may-is role.Pharmacy (OfPack (Decommission reason.Destroy) p) = refl
may-is role.Pharmacy q = refl
may-is role.Authority (OfPack (Decommission reason.Supply) p) = refl
may-is role.Authority (OfPack (Decommission reason.Hold) p) = refl
may-is role.Authority (OfPack (Decommission reason.Export) p) = refl
may-is role.Authority (OfPack (Decommission reason.Sample) p) = refl
may-is role.Authority (OfPack (Decommission reason.Destroy) p) = refl
may-is role.Authority q = refl

-- a reply that is refused for a reason, or goes on
on : (b c : Bool) (why : Refusal) (r : Reply) (rest : Option Refusal) → b ≡ c → refusal_in r ≡ rest → refusal_in (cond b (reply.Refused why) r) ≡ cond c (Some why) rest
on true c why r rest is next = ap (λ d. cond d (Some why) rest) is
on false c why r rest is next = next ∙ ap (λ d. cond d (Some why) rest) is

-- two tests, each of which passes if the other does, are the same
alike : (a b : Bool) → (a ≡ true → b ≡ true) → (b ≡ true → a ≡ true) → a ≡ b
alike true b f g = sym (f refl)
alike false true f g = g refl
alike false false f g = refl

-- a batch is not free exactly if it was recalled or withdrawn
bound : (t : List Entry) (c : ProductCode) (b : Batch) → not (is_free (lock_of t c b)) ≡ list_any (binds c b) t
bound t c b = by (list_any (binds c b) t) (is_free (lock_of t c b)) refl refl
  where
    by : (l f : Bool) → list_any (binds c b) t ≡ l → is_free (lock_of t c b) ≡ f → not f ≡ l
    by true true is free = sym (unlocked-free t c b free) ∙ is
    by true false is free = refl
    by false true is free = refl
    by false false is free = ap not (sym free ∙ free-unlocked t c b is)

-- a pack is known exactly if it was uploaded
known-uploaded : (t : List Entry) (p : Pack) → is_some (known t p) ≡ list_any (uploads p) t
known-uploaded t p = is_some-known t p ∙ ap is_some (sym (first-upload t p)) ∙ is_some-find (uploads p) t

-- the holder of a product code
holds-code : (o : Option Entry) (n : Name) → is_held_by (option_map (λ e. e.put.actor.authorisation) o) n ≡ passes (is_uploader n) o
holds-code None n = refl
holds-code (Some e) n = refl

others-code : (o : Option Entry) (n : Name) → has_other_holder (option_map (λ e. e.put.actor.authorisation) o) n ≡ passes (λ e. not (is_uploader n e)) o
others-code None n = refl
others-code (Some e) n = refl

holder : (t : List Entry) (c : ProductCode) (n : Name) → is_held_by (holder_of t c) n ≡ passes (is_uploader n) (find (uploads_code c) t)
holder t c n = ap (λ o. is_held_by o n) (holder-first t c) ∙ holds-code (find (uploads_code c) t) n

other : (t : List Entry) (c : ProductCode) (n : Name) → has_other_holder (holder_of t c) n ≡ passes (λ e. not (is_uploader n e)) (find (uploads_code c) t)
other t c n = ap (λ o. has_other_holder o n) (holder-first t c) ∙ others-code (find (uploads_code c) t) n

-- a batch is known exactly if a pack of it was uploaded
batch_upload-is : (c : ProductCode) (b : Batch) (q : Question) (r : Reply) → batch_upload_done c b q r ≡ (uploads_batch c b q && accepts q r)
batch_upload-is c b (Upload s d x) reply.Uploaded = sym (and-true (same_text c s.code && same_text b d))
batch_upload-is c b (Upload s d x) r = sym (and-false (same_text c s.code && same_text b d))
batch_upload-is c b q r = refl

known-batch : (t : List Entry) (c : ProductCode) (b : Batch) → is_known_batch t c b ≡ list_any (uploads_in c b) t
known-batch t c b = λ i. list_any (λ e. sym (batch_upload-is c b e.put.question e.reply) i) t

-- what the last operation on a pack made of it
held-is : (p : Pack) (q : Question) (r : Reply) → (names p (pack_of q) && accepts q r) ≡ true → is_held (own_given q) ≡ hold_done p q r
held-is p (OfPack (Decommission reason.Hold) s) reply.Decommissioned h = sym (first_so (same_pack p s) true h)
held-is p (OfPack (Decommission reason.Hold) s) r h = let none : false ≡ true = second_so (same_pack p s) false h in cc
held-is p (OfPack (Decommission reason.Supply) s) r h = refl
held-is p (OfPack (Decommission reason.Export) s) r h = refl
held-is p (OfPack (Decommission reason.Sample) s) r h = refl
held-is p (OfPack (Decommission reason.Destroy) s) r h = refl
held-is p q r h = refl

stolen-is : (p : Pack) (q : Question) (r : Reply) → (names p (pack_of q) && accepts q r) ≡ true → is_stolen (own_given q) ≡ theft_done p q r
stolen-is p (OfPack Theft s) reply.MarkedStolen h = sym (first_so (same_pack p s) true h)
stolen-is p (OfPack Theft s) r h = let none : false ≡ true = second_so (same_pack p s) false h in cc
stolen-is p (OfPack (Decommission reason.Hold) s) r h = refl
stolen-is p (OfPack (Decommission reason.Supply) s) r h = refl
stolen-is p (OfPack (Decommission reason.Export) s) r h = refl
stolen-is p (OfPack (Decommission reason.Sample) s) r h = refl
stolen-is p (OfPack (Decommission reason.Destroy) s) r h = refl
stolen-is p q r h = refl

destroyed-is : (p : Pack) (q : Question) (r : Reply) → (names p (pack_of q) && accepts q r) ≡ true → is_destroyed (own_given q) ≡ destruction_done p q r
destroyed-is p (OfPack (Decommission reason.Destroy) s) reply.Decommissioned h = sym (first_so (same_pack p s) true h)
destroyed-is p (OfPack (Decommission reason.Destroy) s) r h = let none : false ≡ true = second_so (same_pack p s) false h in cc
destroyed-is p (OfPack (Decommission reason.Hold) s) r h = refl
destroyed-is p (OfPack (Decommission reason.Supply) s) r h = refl
destroyed-is p (OfPack (Decommission reason.Export) s) r h = refl
destroyed-is p (OfPack (Decommission reason.Sample) s) r h = refl
destroyed-is p q r h = refl

supplied-is : (p : Pack) (q : Question) (r : Reply) → (names p (pack_of q) && accepts q r) ≡ true → is_supplied (own_given q) ≡ supply_done p q r
supplied-is p (OfPack (Decommission reason.Supply) s) reply.Decommissioned h = sym (first_so (same_pack p s) true h)
supplied-is p (OfPack (Decommission reason.Supply) s) r h = let none : false ≡ true = second_so (same_pack p s) false h in cc
supplied-is p (OfPack Handover s) reply.HandedOver h = sym (first_so (same_pack p s) true h)
supplied-is p (OfPack Handover s) r h = let none : false ≡ true = second_so (same_pack p s) false h in cc
supplied-is p (OfPack (Decommission reason.Hold) s) r h = refl
supplied-is p (OfPack (Decommission reason.Destroy) s) r h = refl
supplied-is p (OfPack (Decommission reason.Export) s) r h = refl
supplied-is p (OfPack (Decommission reason.Sample) s) r h = refl
supplied-is p q r h = refl

active-is : (p : Pack) (q : Question) (r : Reply) → (names p (pack_of q) && accepts q r) ≡ true → is_active (own_given q) ≡ (upload_done p q r || reversion_done p q r)
active-is p (Upload s b x) reply.Uploaded h = sym (or-false (same_pack p s) ∙ first_so (same_pack p s) true h)
active-is p (Upload s b x) r h = let none : false ≡ true = second_so (same_pack p s) false h in cc
active-is p (OfPack Revert s) reply.Reverted h = sym (first_so (same_pack p s) true h)
active-is p (OfPack Revert s) r h = let none : false ≡ true = second_so (same_pack p s) false h in cc
active-is p (OfPack (Decommission reason.Hold) s) r h = refl
active-is p (OfPack (Decommission reason.Supply) s) r h = refl
active-is p (OfPack (Decommission reason.Destroy) s) r h = refl
active-is p (OfPack (Decommission reason.Export) s) r h = refl
active-is p (OfPack (Decommission reason.Sample) s) r h = refl
active-is p (OfPack Handover s) r h = refl
active-is p (OfPack Theft s) r h = refl
active-is p (OfBatch _ c b) r h = let none : false ≡ true = h in cc
active-is p (OfPack Verify s) r h = let none : false ≡ true = second_so (same_pack p s) false h in cc
active-is p (OfPack Status s) r h = let none : false ≡ true = second_so (same_pack p s) false h in cc
active-is p (OfPack Audit s) r h = let none : false ≡ true = second_so (same_pack p s) false h in cc

-- the facts of a known pack, in the words of the laws
record Stands (t : List Entry) (p : Pack) (k : Known) : Type 0 where
  pub uploaded : list_any (uploads p) t ≡ true
  pub locked : not (is_free (lock_on t p k)) ≡ passes (λ e. is_bound t p e.put.question) (find (uploads p) t)
  pub active : is_active k.own ≡ circulates t p
  pub held : is_held k.own ≡ passes (λ e. hold_done p e.put.question e.reply) (last_operation t p)
  pub stolen : is_stolen k.own ≡ passes (λ e. theft_done p e.put.question e.reply) (last_operation t p)
  pub destroyed : is_destroyed k.own ≡ passes (λ e. destruction_done p e.put.question e.reply) (last_operation t p)
  pub supplied : is_supplied k.own ≡ passes (λ e. supply_done p e.put.question e.reply) (last_operation t p)
  pub house : (a : Actor) → is_same_house a k.mark ≡ passes (is_by_house a) (last_operation t p)
  pub in_time : (n : ℕ) → is_in_time n k.mark ≡ passes (is_within_ten_days n) (last_operation t p)
  pub past : (n : ℕ) → is_past k.expiry n ≡ passes (λ e. is_past_date n e.put.question) (find (uploads p) t)

stands : (t : List Entry) (p : Pack) (k : Known) → known t p ≡ Some k → Stands t p k
stands t p k is =
    let by = known-by t p k is in
    let last = by.last in
    let marks : is_mark p last ≡ true = find-passes (is_mark p) (reverse t) last by.marked in
    let operation : last_operation t p ≡ Some last = last-operation t p ∙ by.marked in
    let first : find (uploads p) t ≡ Some by.upload = first-upload t p ∙ by.born in
    let q = last.put.question in
    let made : k.own ≡ own_given q = ap (λ (z : Known). z.own) by.known in
    let marked : k.mark ≡ mark_after (mark_place t p) last = ap (λ (z : Known). z.mark) by.known in
    let on_last : (f : Entry → Bool) → f last ≡ passes f (last_operation t p) = λ f. ap (passes f) (sym operation) in
    let on_first : (f : Question → Bool) → f (Upload by.pack k.batch k.expiry) ≡ passes (λ e. f e.put.question) (find (uploads p) t) =
    λ f. ap f (sym by.question) ∙ ap (passes (λ e. f e.put.question)) (sym first) in
    record {
      uploaded = sym (known-uploaded t p) ∙ ap is_some is;
      locked = bound t p.code k.batch ∙ on_first (is_bound t p);
      active = ap is_active made ∙ active-is p q last.reply marks ∙ on_last (λ e. upload_done p e.put.question e.reply || reversion_done p e.put.question e.reply);
      held = ap is_held made ∙ held-is p q last.reply marks ∙ on_last (λ e. hold_done p e.put.question e.reply);
      stolen = ap is_stolen made ∙ stolen-is p q last.reply marks ∙ on_last (λ e. theft_done p e.put.question e.reply);
      destroyed = ap is_destroyed made ∙ destroyed-is p q last.reply marks ∙ on_last (λ e. destruction_done p e.put.question e.reply);
      supplied = ap is_supplied made ∙ supplied-is p q last.reply marks ∙ on_last (λ e. supply_done p e.put.question e.reply);
      house = λ a. ap (is_same_house a) marked ∙ on_last (is_by_house a);
      in_time = λ n. ap (is_in_time n) marked ∙ on_last (is_within_ten_days n);
      past = λ n. on_first (is_past_date n);
    }

-- a pack that is unknown, or known
on-pack : (t : List Entry) (p : Pack) (f : Known → Reply) (rest : Option Refusal) → ((k : Known) → known t p ≡ Some k → refusal_in (f k) ≡ rest)
    → refusal_in (on_pack (known t p) (reply.Refused refusal.Unknown) f) ≡ cond (not (list_any (uploads p) t)) (Some refusal.Unknown) rest
on-pack t p f rest next = by (known t p) refl
  where
    by : (o : Option Known) → known t p ≡ o → refusal_in (on_pack o (reply.Refused refusal.Unknown) f) ≡ cond (not (list_any (uploads p) t)) (Some refusal.Unknown) rest
    by None is = ap (λ b. cond (not b) (Some refusal.Unknown) rest) (sym (ap is_some is) ∙ known-uploaded t p)
    by (Some k) is = next k is ∙ ap (λ b. cond (not b) (Some refusal.Unknown) rest) (sym (ap is_some is) ∙ known-uploaded t p)

-- no verification is refused, and no decommissioning and no status
none-verified : (b : Bool) (here there : Reply) → refusal_in here ≡ None → refusal_in there ≡ None → refusal_in (cond b here there) ≡ None
none-verified true here there h t = h
none-verified false here there h t = t

none-on : (o : Option Known) (unknown : Reply) (f : Known → Reply) → refusal_in unknown ≡ None → ((k : Known) → refusal_in (f k) ≡ None) → refusal_in (on_pack o unknown f) ≡ None
none-on None unknown f u h = u
none-on (Some k) unknown f u h = h k

-- the refusals of a recall or withdrawal
locks : (t : List Entry) (n : ℕ) (a : Actor) (c : ProductCode) (b : Batch)
    → refusal_in (lock_reply a (is_known_batch t c b) (holder_of t c) (lock_of t c b) (count_of t c b own.Active)) ≡ first_reason (reasons_beyond_role t n a (OfBatch Recall c b))
locks t n a c b =
    on _ _ refusal.UnknownBatch _ _ (ap not (known-batch t c b)) (on _ _ refusal.NotHolder _ _ (ap not (holder t c a.authorisation)) (on _ _ refusal.Already _ _ (bound t c b) refl))

-- the refusals of a question of a role that may ask it
beyond : (t : List Entry) (n : ℕ) (a : Actor) (q : Question) → refusal_in (admitted_reply t n a q) ≡ first_reason (reasons_beyond_role t n a q)
beyond t n a (Upload p b x) = on _ _ refusal.NotHolder _ _ (other t p.code a.authorisation) (on _ _ refusal.Duplicate _ _ (known-uploaded t p) refl)
beyond t n a (OfPack Verify p) = none-on (known t p) _ _ refl (λ k. none-verified (is_authentic k.own (lock_on t p k)) (reply.Authentic k.batch k.expiry (is_past k.expiry n)) (alert_on k (lock_on t p k) (alerts_of t p.code)) refl refl)
beyond t n a (OfPack Status p) = none-on (known t p) _ _ refl (λ k. refl)
beyond t n a (OfPack (Decommission r) p) = none-on (known t p) _ _ refl (λ k. none-verified (is_authentic k.own (lock_on t p k)) reply.Decommissioned (alert_on k (lock_on t p k) (alerts_of t p.code)) refl refl)
beyond t n a (OfPack Handover p) =
    on-pack t p _ _ (λ k is. let s = stands t p k is in
    on _ _ refusal.Locked _ _ s.locked (on _ _ refusal.NotHeld _ _ (ap not s.held) (on _ _ refusal.Other _ _ (ap not (s.house a)) refl)))
beyond t n a (OfPack Revert p) =
    on-pack t p _ _ (λ k is. let s = stands t p k is in
    on _ _ refusal.Locked _ _ s.locked (on _ _ refusal.StillActive _ _ s.active (on _ _ refusal.IsStolen _ _ s.stolen
    (on _ _ refusal.IsDestroyed _ _ s.destroyed (on _ _ refusal.WasSupplied _ _ s.supplied (on _ _ refusal.Other _ _ (ap not (s.house a))
    (on _ _ refusal.Late _ _ (ap not (s.in_time n)) (on _ _ refusal.Expired _ _ (s.past n) refl))))))))
beyond t n a (OfBatch _ c b) = locks t n a c b
beyond t n a (OfPack Theft p) =
    on-pack t p _ _ (λ k is. let s = stands t p k is in
    on _ _ refusal.NotHolder _ _ (ap not (holder t p.code a.authorisation)) (on _ _ refusal.Already _ _ s.stolen refl))
beyond t n a (OfPack Audit p) = refl

-- the role is the first reason
by-role : (b c : Bool) (r : Reply) (rest : Option Refusal) → b ≡ c → refusal_in r ≡ rest → refusal_in (cond b r (reply.Refused refusal.Role)) ≡ cond (not c) (Some refusal.Role) rest
by-role true c r rest is next = next ∙ ap (λ d. cond (not d) (Some refusal.Role) rest) is
by-role false c r rest is next = ap (λ d. cond (not d) (Some refusal.Role) rest) is

pub told-first : (t : List Entry) (q : Put) → refusal_in (reply_of t q) ≡ first_reason (reasons t q)
told-first t q = by-role _ _ _ _ (may-is q.actor.role q.question) (beyond t q.moment q.actor q.question)

-- no other reason is the role
abbrev is_other : Option Refusal → Bool
is_other (Some refusal.Role) = false
is_other _ = true

abbrev are_other : List (Refusal × Bool) → Bool
are_other [] = true
are_other ((why, applies) ∷ rest) = is_other (Some why) && are_other rest

other-first : (rs : List (Refusal × Bool)) → are_other rs ≡ true → is_other (first_reason rs) ≡ true
other-first [] h = refl
other-first ((why, true) ∷ rest) h = first_so (is_other (Some why)) (are_other rest) h
other-first ((why, false) ∷ rest) h = other-first rest (second_so (is_other (Some why)) (are_other rest) h)

other-beyond : (t : List Entry) (n : ℕ) (a : Actor) (q : Question) → are_other (reasons_beyond_role t n a q) ≡ true
other-beyond t n a (Upload p b x) = refl
other-beyond t n a (OfPack Handover p) = refl
other-beyond t n a (OfPack Revert p) = refl
other-beyond t n a (OfBatch _ c b) = refl
other-beyond t n a (OfPack Theft p) = refl
other-beyond t n a q = refl

-- a question is refused for its role exactly if its role is not among those that may ask it
pub refused-by_role : (t : List Entry) (q : Put) → (reply_of t q ≡ reply.Refused refusal.Role) ↔ IsFalse (list_any (same_role q.actor.role) (askers q.question))
refused-by_role t q = (forward, backward)
  where
    admitted : Reply
    admitted = admitted_reply t q.moment q.actor q.question

    forward : reply_of t q ≡ reply.Refused refusal.Role → IsFalse (list_any (same_role q.actor.role) (askers q.question))
    forward h = by (list_any (same_role q.actor.role) (askers q.question)) refl
      where
        by : (b : Bool) → list_any (same_role q.actor.role) (askers q.question) ≡ b → list_any (same_role q.actor.role) (askers q.question) ≡ false
        by false is = is
        by true is =
            let role : refusal_in admitted ≡ Some refusal.Role = ap refusal_in (ap (λ b. cond b admitted (reply.Refused refusal.Role)) (sym (may-is q.actor.role q.question ∙ is)) ∙ h) in
            let none : false ≡ true = ap is_other (sym role ∙ beyond t q.moment q.actor q.question)
            ∙ other-first (reasons_beyond_role t q.moment q.actor q.question) (other-beyond t q.moment q.actor q.question) in
            cc

    backward : IsFalse (list_any (same_role q.actor.role) (askers q.question)) → reply_of t q ≡ reply.Refused refusal.Role
    backward h = ap (λ b. cond b admitted (reply.Refused refusal.Role)) (may-is q.actor.role q.question ∙ h)
