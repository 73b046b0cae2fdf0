-- The facts that a reply shows of the trail that it was given on.
use Rattle.std.proofs.Common.{◌≡◌, ℕ, Bool, true, false, not, ◌&&◌, cond, List, Option, Some, None, refl, sym, ap, subst, ◌∙◌}
use Rattle.std.proofs.lemmas.Bool.{not-false}
use Rattle.std.specs.Cmp.{first_so, second_so}
use Rattle.std.specs.Option.{is_some}
use Rattle.nmvs_identifier.specs.Batch.{Batch}
use Rattle.nmvs_identifier.specs.Expiry.{Expiry}
use Rattle.nmvs_identifier.specs.ProductCode.{ProductCode}
use Rattle.nmvs_identifier.specs.Pack.{same_pack}
use Rattle.nmvs_rules.specs.declared.reason.Reason.{Reason}
use Rattle.nmvs_identifier.specs.declared.pack.Pack.{Pack}
use Rattle.nmvs_rules.specs.declared.actor.Actor.{Actor}
use Rattle.nmvs_rules.specs.declared.question.Question.{Question}
use Rattle.nmvs_rules.specs.declared.question.Question.TheVariants.{Upload, OfPack}
use Rattle.nmvs_rules.specs.declared.pack_question.PackQuestion.TheVariants.{Verify, Decommission, Handover, Revert, Theft}
use Rattle.nmvs_rules.specs.declared.own_status.OwnStatus.TheVariants as own
use Rattle.nmvs_rules.specs.declared.entry.Entry.{Entry}
use Rattle.nmvs_rules.specs.declared.facts.Known.{Known}
use Rattle.nmvs_rules.specs.declared.reply.Reply.{Reply}
use Rattle.nmvs_rules.specs.declared.reply.Reply.TheVariants as reply
use Rattle.nmvs_rules.specs.declared.refusal.Refusal.TheVariants as refusal
use Rattle.nmvs_rules.specs.declared.put.Put.{Put}
use Rattle.nmvs_rules.specs.Questions.{may_ask, pack_of, names}
use Rattle.nmvs_rules.specs.Trail.{known, accepts, is_mark, is_upload, holder_of, lock_of, count_of, is_known_batch}
use Rattle.nmvs_rules.specs.Rules.{on_pack, lock_on, is_active, is_free, is_held, is_stolen, is_destroyed, is_supplied, is_authentic, is_past, is_same_house, is_in_time, is_held_by, has_other_holder, lock_reply, admitted_reply, reply_of}
use Rattle.nmvs_rules.specs.Laws.{is_handover}
use Rattle.nmvs_rules.proofs.Accepted.{is_decommissioning, is_reversion, is_theft, is_confirmed, accepted_upload, accepted_decommissioning, accepted_handover, accepted_reversion, authentic_answer}
use Rattle.nmvs_rules.proofs.TextLemmas.{same_pack-equal}

-- the pack is known, and this holds of the values known of it
abbrev pub KnownAnd : List Entry → Pack → (Known → Type 0) → Type 0
KnownAnd t p P = (k : Known) × (known t p ≡ Some k) × P k

-- a reply that is not the first branch's comes from the second
pub cond-else : (b : Bool) (x y z : Reply) → (x ≡ z → ⊥) → cond b x y ≡ z → (b ≡ false) × (y ≡ z)
cond-else true x y z other e = absurd (other e)
cond-else false x y z other e = (refl, e)

-- and a reply that is not the second's comes from the first
pub cond-then : (b : Bool) (x y z : Reply) → (y ≡ z → ⊥) → cond b x y ≡ z → (b ≡ true) × (x ≡ z)
cond-then true x y z other e = (refl, e)
cond-then false x y z other e = absurd (other e)

on_pack-known : (t : List Entry) (p : Pack) (x z : Reply) (f : Known → Reply) → (x ≡ z → ⊥) → on_pack (known t p) x f ≡ z → KnownAnd t p (λ k. f k ≡ z)
on_pack-known t p x z f other e = by (known t p) refl e
  where
    by : (o : Option Known) → known t p ≡ o → on_pack o x f ≡ z → KnownAnd t p (λ k. f k ≡ z)
    by None is h = absurd (other h)
    by (Some k) is h = (k, is, h)

-- the rules' reply to a question
abbrev pub IsReply : List Entry → ℕ → Actor → Question → Reply → Type 0
IsReply t n a q r = r ≡ cond (may_ask a.role q) (admitted_reply t n a q) (reply.Refused refusal.Role)

-- the pack may be moved on
pub record IsAuthentic (t : List Entry) (p : Pack) (k : Known) : Type 0 where
  pub active : is_active k.own ≡ true
  pub free : is_free (lock_on t p k) ≡ true

-- the facts that an accepted handover shows
pub record IsHeldHere (t : List Entry) (a : Actor) (p : Pack) (k : Known) : Type 0 where
  pub free : is_free (lock_on t p k) ≡ true
  pub held : is_held k.own ≡ true
  pub same_house : is_same_house a k.mark ≡ true

-- the facts that an accepted reversion shows
pub record IsReversible (t : List Entry) (n : ℕ) (a : Actor) (p : Pack) (k : Known) : Type 0 where
  pub free : is_free (lock_on t p k) ≡ true
  pub not_active : is_active k.own ≡ false
  pub not_stolen : is_stolen k.own ≡ false
  pub not_destroyed : is_destroyed k.own ≡ false
  pub not_supplied : is_supplied k.own ≡ false
  pub same_house : is_same_house a k.mark ≡ true
  pub in_time : is_in_time n k.mark ≡ true
  pub not_expired : is_past k.expiry n ≡ false

-- a pack that is answered Authentic is known and authentic
pub verify-tells : (t : List Entry) (n : ℕ) (a : Actor) (p : Pack) (b : Batch) (x : Expiry) (late : Bool) → IsReply t n a (OfPack Verify p) (reply.Authentic b x late) → KnownAnd t p (λ k. IsAuthentic t p k × (reply.Authentic k.batch k.expiry (is_past k.expiry n) ≡ reply.Authentic b x late))
verify-tells t n a p b x late h =
    let admitted = cond-then (may_ask a.role (OfPack Verify p)) _ _ _ (λ e. cc) (sym h) in
    let pack = on_pack-known t p _ _ _ (λ e. cc) admitted.1 in
    let authentic = cond-then (is_authentic pack.0.own (lock_on t p pack.0)) _ _ _ (λ e. cc) pack.2 in
    (pack.0, pack.1, (record { active = first_so _ _ authentic.0; free = second_so (is_active pack.0.own) _ authentic.0 }, authentic.1))

-- a pack that is decommissioned was authentic
pub decommission-tells : (t : List Entry) (n : ℕ) (a : Actor) (p : Pack) (w : Reason) → IsReply t n a (OfPack (Decommission w) p) reply.Decommissioned → KnownAnd t p (IsAuthentic t p)
decommission-tells t n a p w h =
    let admitted = cond-then (may_ask a.role (OfPack (Decommission w) p)) _ _ _ (λ e. cc) (sym h) in
    let pack = on_pack-known t p _ _ _ (λ e. cc) admitted.1 in
    let authentic = cond-then (is_authentic pack.0.own (lock_on t p pack.0)) _ _ _ (λ e. cc) pack.2 in
    (pack.0, pack.1, record { active = first_so _ _ authentic.0; free = second_so (is_active pack.0.own) _ authentic.0 })

-- a pack that is handed over was held here
pub handover-tells : (t : List Entry) (n : ℕ) (a : Actor) (p : Pack) → IsReply t n a (OfPack Handover p) reply.HandedOver → KnownAnd t p (IsHeldHere t a p)
handover-tells t n a p h =
    let admitted = cond-then (may_ask a.role (OfPack Handover p)) _ _ _ (λ e. cc) (sym h) in
    let pack = on_pack-known t p _ _ _ (λ e. cc) admitted.1 in
    let k = pack.0 in
    let free = cond-else (not (is_free (lock_on t p k))) _ _ _ (λ e. cc) pack.2 in
    let held = cond-else (not (is_held k.own)) _ _ _ (λ e. cc) free.1 in
    let house = cond-else (not (is_same_house a k.mark)) _ _ _ (λ e. cc) held.1 in
    (k, pack.1, record { free = not-false _ free.0; held = not-false _ held.0; same_house = not-false _ house.0 })

-- a pack that is reverted met the conditions of Article 13(1)
pub revert-tells : (t : List Entry) (n : ℕ) (a : Actor) (p : Pack) → IsReply t n a (OfPack Revert p) reply.Reverted → KnownAnd t p (IsReversible t n a p)
revert-tells t n a p h =
    let admitted = cond-then (may_ask a.role (OfPack Revert p)) _ _ _ (λ e. cc) (sym h) in
    let pack = on_pack-known t p _ _ _ (λ e. cc) admitted.1 in
    let k = pack.0 in
    let free = cond-else (not (is_free (lock_on t p k))) _ _ _ (λ e. cc) pack.2 in
    let active = cond-else (is_active k.own) _ _ _ (λ e. cc) free.1 in
    let stolen = cond-else (is_stolen k.own) _ _ _ (λ e. cc) active.1 in
    let destroyed = cond-else (is_destroyed k.own) _ _ _ (λ e. cc) stolen.1 in
    let supplied = cond-else (is_supplied k.own) _ _ _ (λ e. cc) destroyed.1 in
    let house = cond-else (not (is_same_house a k.mark)) _ _ _ (λ e. cc) supplied.1 in
    let time = cond-else (not (is_in_time n k.mark)) _ _ _ (λ e. cc) house.1 in
    let expired = cond-else (is_past k.expiry n) _ _ _ (λ e. cc) time.1 in (
      k,
      pack.1,
      record {
        free = not-false _ free.0;
        not_active = active.0;
        not_stolen = stolen.0;
        not_destroyed = destroyed.0;
        not_supplied = supplied.0;
        same_house = not-false _ house.0;
        in_time = not-false _ time.0;
        not_expired = expired.0;
      },
    )

-- a theft report is accepted from the holder
pub theft-holder : (t : List Entry) (n : ℕ) (a : Actor) (p : Pack) → IsReply t n a (OfPack Theft p) reply.MarkedStolen → is_held_by (holder_of t p.code) a.authorisation ≡ true
theft-holder t n a p h =
    let admitted = cond-then (may_ask a.role (OfPack Theft p)) _ _ _ (λ e. cc) (sym h) in
    let pack = on_pack-known t p _ _ _ (λ e. cc) admitted.1 in
    not-false _ (cond-else (not (is_held_by (holder_of t p.code) a.authorisation)) _ _ _ (λ e. cc) pack.2).0

-- an upload is not accepted against another holder
pub upload-holder : (t : List Entry) (n : ℕ) (a : Actor) (p : Pack) (b : Batch) (x : Expiry) → IsReply t n a (Upload p b x) reply.Uploaded → has_other_holder (holder_of t p.code) a.authorisation ≡ false
upload-holder t n a p b x h =
    let admitted = cond-then (may_ask a.role (Upload p b x)) _ _ _ (λ e. cc) (sym h) in
    (cond-else (has_other_holder (holder_of t p.code) a.authorisation) _ _ _ (λ e. cc) admitted.1).0

-- a recall or withdrawal that is accepted, by a user who may ask it or not
pub lock-holder : (t : List Entry) (a : Actor) (c : ProductCode) (b : Batch) (n : ℕ) (may : Bool) → reply.LockedNow n ≡ cond may (lock_reply a (is_known_batch t c b) (holder_of t c) (lock_of t c b) (count_of t c b own.Active)) (reply.Refused refusal.Role) → is_held_by (holder_of t c) a.authorisation ≡ true
lock-holder t a c b n may h =
    let admitted = cond-then may _ _ _ (λ e. cc) (sym h) in
    let batch = cond-else (not (is_known_batch t c b)) _ _ _ (λ e. cc) admitted.1 in
    not-false _ (cond-else (not (is_held_by (holder_of t c) a.authorisation)) _ _ _ (λ e. cc) batch.1).0

-- a pack that is reported as stolen was not stolen
pub theft-tells : (t : List Entry) (n : ℕ) (a : Actor) (p : Pack) → IsReply t n a (OfPack Theft p) reply.MarkedStolen → KnownAnd t p (λ k. is_stolen k.own ≡ false)
theft-tells t n a p h =
    let admitted = cond-then (may_ask a.role (OfPack Theft p)) _ _ _ (λ e. cc) (sym h) in
    let pack = on_pack-known t p _ _ _ (λ e. cc) admitted.1 in
    let held = cond-else (not (is_held_by (holder_of t p.code) a.authorisation)) _ _ _ (λ e. cc) pack.2 in
    let stolen = cond-else (is_stolen pack.0.own) _ _ _ (λ e. cc) held.1 in
    (pack.0, pack.1, stolen.0)

-- a pack that is uploaded was unknown
pub upload-tells : (t : List Entry) (n : ℕ) (a : Actor) (p : Pack) (b : Batch) (x : Expiry) → IsReply t n a (Upload p b x) reply.Uploaded → is_some (known t p) ≡ false
upload-tells t n a p b x h =
    let admitted = cond-then (may_ask a.role (Upload p b x)) _ _ _ (λ e. cc) (sym h) in
    let held = cond-else (has_other_holder (holder_of t p.code) a.authorisation) _ _ _ (λ e. cc) admitted.1 in
    (cond-else (is_some (known t p)) _ _ _ (λ e. cc) held.1).0

KnownAnd-map : (t : List Entry) (p : Pack) (P Q : Known → Type 0) → ((k : Known) → P k → Q k) → KnownAnd t p P → KnownAnd t p Q
KnownAnd-map t p P Q f h = (h.0, h.1, f h.0 h.2)

-- a pack is confirmed only if it is authentic
pub authentic_answer-tells : (t : List Entry) (e : Entry) (p : Pack) → e.reply ≡ reply_of t e.put → authentic_answer p e ≡ true → KnownAnd t p (IsAuthentic t p)
authentic_answer-tells t e p lawful h = by e.put.question e.reply lawful h
  where
    by : (q : Question) (r : Reply) → IsReply t e.put.moment e.put.actor q r → (names p (pack_of q) && is_confirmed q r) ≡ true → KnownAnd t p (IsAuthentic t p)
    by (OfPack Verify s) (reply.Authentic b x late) is c =
        let same : s ≡ p = sym (same_pack-equal p s (first_so _ _ c)) in
        subst (λ r. KnownAnd t r (IsAuthentic t r)) same
        (KnownAnd-map t s _ _ (λ k tells. tells.0) (verify-tells t e.put.moment e.put.actor s b x late is))
    by q r is c = let none : false ≡ true = second_so (names p (pack_of q)) (is_confirmed q r) c in cc

-- a pack is decommissioned only if it is authentic
pub accepted_decommissioning-tells : (t : List Entry) (e : Entry) (p : Pack) → e.reply ≡ reply_of t e.put → accepted_decommissioning p e ≡ true → KnownAnd t p (IsAuthentic t p)
accepted_decommissioning-tells t e p lawful h = by e.put.question e.reply lawful h
  where
    by : (q : Question) (r : Reply) → IsReply t e.put.moment e.put.actor q r → ((names p (pack_of q) && accepts q r) && is_decommissioning q) ≡ true → KnownAnd t p (IsAuthentic t p)
    by (OfPack (Decommission w) s) reply.Decommissioned is c =
        let same : s ≡ p = sym (same_pack-equal p s (first_so _ _ (first_so _ _ c))) in
        subst (λ r. KnownAnd t r (IsAuthentic t r)) same (decommission-tells t e.put.moment e.put.actor s w is)
    by (OfPack (Decommission w) s) r is c = let none : false ≡ true = second_so (same_pack p s) false (first_so (same_pack p s && false) true c) in cc
    by q r is c = let none : false ≡ true = second_so (names p (pack_of q) && accepts q r) (is_decommissioning q) c in cc

-- a pack is handed over only if it is held in the same house
pub accepted_handover-tells : (t : List Entry) (e : Entry) (p : Pack) → e.reply ≡ reply_of t e.put → accepted_handover p e ≡ true → KnownAnd t p (IsHeldHere t e.put.actor p)
accepted_handover-tells t e p lawful h = by e.put.question e.reply lawful h
  where
    by : (q : Question) (r : Reply) → IsReply t e.put.moment e.put.actor q r → ((names p (pack_of q) && accepts q r) && is_handover q) ≡ true → KnownAnd t p (IsHeldHere t e.put.actor p)
    by (OfPack Handover s) reply.HandedOver is c =
        let same : s ≡ p = sym (same_pack-equal p s (first_so _ _ (first_so _ _ c))) in
        subst (λ r. KnownAnd t r (IsHeldHere t e.put.actor r)) same (handover-tells t e.put.moment e.put.actor s is)
    by (OfPack Handover s) r is c = let none : false ≡ true = second_so (same_pack p s) false (first_so (same_pack p s && false) true c) in cc
    by q r is c = let none : false ≡ true = second_so (names p (pack_of q) && accepts q r) (is_handover q) c in cc

-- a pack is reverted only if Article 13 allows it
pub accepted_reversion-tells : (t : List Entry) (e : Entry) (p : Pack) → e.reply ≡ reply_of t e.put → accepted_reversion p e ≡ true → KnownAnd t p (IsReversible t e.put.moment e.put.actor p)
accepted_reversion-tells t e p lawful h = by e.put.question e.reply lawful h
  where
    by : (q : Question) (r : Reply) → IsReply t e.put.moment e.put.actor q r → ((names p (pack_of q) && accepts q r) && is_reversion q) ≡ true → KnownAnd t p (IsReversible t e.put.moment e.put.actor p)
    by (OfPack Revert s) reply.Reverted is c =
        let same : s ≡ p = sym (same_pack-equal p s (first_so _ _ (first_so _ _ c))) in
        subst (λ r. KnownAnd t r (IsReversible t e.put.moment e.put.actor r)) same (revert-tells t e.put.moment e.put.actor s is)
    by (OfPack Revert s) r is c = let none : false ≡ true = second_so (same_pack p s) false (first_so (same_pack p s && false) true c) in cc
    by q r is c = let none : false ≡ true = second_so (names p (pack_of q) && accepts q r) (is_reversion q) c in cc

-- a pack is uploaded only if it is not known
pub accepted_upload-tells : (t : List Entry) (e : Entry) (p : Pack) → e.reply ≡ reply_of t e.put → accepted_upload p e ≡ true → is_some (known t p) ≡ false
accepted_upload-tells t e p lawful h = by e.put.question e.reply lawful h
  where
    by : (q : Question) (r : Reply) → IsReply t e.put.moment e.put.actor q r → ((is_upload q && names p (pack_of q)) && accepts q r) ≡ true → is_some (known t p) ≡ false
    by (Upload s b x) reply.Uploaded is c =
        ap (λ r. is_some (known t r)) (same_pack-equal p s (first_so _ _ c)) ∙ upload-tells t e.put.moment e.put.actor s b x is
    by (Upload s b x) r is c = let none : false ≡ true = second_so (same_pack p s) false c in cc
    by q r is c = let none : false ≡ true = first_so (is_upload q) (names p (pack_of q)) (first_so (is_upload q && names p (pack_of q)) (accepts q r) c) in cc

-- the reply to a put whose question is this one
pub reply-question : (t : List Entry) (q : Put) (n : Question) → q.question ≡ n → reply_of t q ≡ cond (may_ask q.actor.role n) (admitted_reply t q.moment q.actor n) (reply.Refused refusal.Role)
reply-question t q n is = ap (λ z. cond (may_ask q.actor.role z) (admitted_reply t q.moment q.actor z) (reply.Refused refusal.Role)) is

-- the reply to a question by a user who may ask it
pub reply-admitted : (t : List Entry) (q : Put) (n : Question) → q.question ≡ n → may_ask q.actor.role q.question ≡ true → reply_of t q ≡ admitted_reply t q.moment q.actor n
reply-admitted t q n is may =
    reply-question t q n is
    ∙ ap (λ c. cond c (admitted_reply t q.moment q.actor n) (reply.Refused refusal.Role)) (sym (ap (may_ask q.actor.role) is) ∙ may)

-- a question that is not refused for its role was asked by a user who may ask it
pub may-tells : (t : List Entry) (n : ℕ) (a : Actor) (q : Question) (r : Reply) → (reply.Refused refusal.Role ≡ r → ⊥) → IsReply t n a q r → may_ask a.role q ≡ true
may-tells t n a q r other h = (cond-then (may_ask a.role q) _ _ _ other (sym h)).0

-- a pack is reported as stolen only once
pub thefts-tells : (t : List Entry) (e : Entry) (p : Pack) → e.reply ≡ reply_of t e.put → (is_mark p e && is_theft e.put.question) ≡ true → KnownAnd t p (λ k. is_stolen k.own ≡ false)
thefts-tells t e p lawful h = by e.put.question e.reply lawful h
  where
    by : (q : Question) (r : Reply) → IsReply t e.put.moment e.put.actor q r → ((names p (pack_of q) && accepts q r) && is_theft q) ≡ true → KnownAnd t p (λ k. is_stolen k.own ≡ false)
    by (OfPack Theft s) reply.MarkedStolen is c =
        let same : s ≡ p = sym (same_pack-equal p s (first_so _ _ (first_so _ _ c))) in
        subst (λ r. KnownAnd t r (λ k. is_stolen k.own ≡ false)) same (theft-tells t e.put.moment e.put.actor s is)
    by (OfPack Theft s) r is c = let none : false ≡ true = second_so (same_pack p s) false (first_so (same_pack p s && false) true c) in cc
    by q r is c = let none : false ≡ true = second_so (names p (pack_of q) && accepts q r) (is_theft q) c in cc

-- a property of the values known of a pack, for a name of these values
pub known-holds : (t : List Entry) (p : Pack) (k : Known) (P : Known → Type 0) → known t p ≡ Some k → KnownAnd t p P → P k
known-holds t p k P is h = let same : h.0 ≡ k = some-same h.0 k (sym h.1 ∙ is) in subst P same h.2
  where
    some-same : (x y : Known) → Some x ≡ Some y → x ≡ y
    some-same x y same = cc
