-- A pack is confirmed, and decommissioned, exactly if it is authentic.
use Rattle.std.specs.Prelude.{int_lt}
use Rattle.std.proofs.Common.{◌≡◌, ◌↔◌, ℕ, Bool, true, false, pos, ◌&&◌, ◌||◌, List, reverse, Option, Some, IsTrue, refl, sym, ap, subst, ◌∙◌}
use Rattle.std.proofs.Math.Bool.{or-false}
use Rattle.std.specs.Cmp.{first_so, second_so}
use Rattle.std.specs.Option.{option_map_or}
use Rattle.nmvs_identifier.specs.Batch.{Batch}
use Rattle.nmvs_identifier.specs.Expiry.{Expiry, expiry_day}
use Rattle.nmvs_identifier.specs.Moment.{day_of}
use Rattle.nmvs_identifier.specs.Pack.{same_pack}
use Rattle.nmvs_identifier.specs.declared.pack.Pack.{Pack}
use Rattle.nmvs_rules.specs.declared.question.Question.{Question}
use Rattle.nmvs_rules.specs.declared.question.Question.TheVariants.{Upload, OfPack, OfBatch}
use Rattle.nmvs_rules.specs.declared.pack_question.PackQuestion.TheVariants.{Verify, Decommission, Handover, Revert, Theft}
use Rattle.nmvs_rules.specs.declared.reason.Reason.{Reason}
use Rattle.nmvs_rules.specs.declared.batch_lock.BatchLock.{BatchLock}
use Rattle.nmvs_rules.specs.declared.entry.Entry.{Entry}
use Rattle.nmvs_rules.specs.declared.facts.Known.{Known}
use Rattle.nmvs_rules.specs.declared.reply.Reply.{Reply}
use Rattle.nmvs_rules.specs.declared.reply.Reply.TheVariants as reply
use Rattle.nmvs_rules.specs.declared.put.Put.{Put}
use Rattle.nmvs_rules.specs.Questions.{may_ask, pack_of, names}
use Rattle.nmvs_rules.specs.Trail.{mark_place, mark_after, known, accepts, is_mark, own_given, alerts_of}
use Rattle.nmvs_rules.specs.Rules.{is_free, is_active, is_past, lock_on, on_pack, alert_unknown, verify_reply, decommission_reply, reply_of}
use Rattle.nmvs_rules.specs.Operations.{upload_done, reversion_done, uploads, reverts, last_operation}
use Rattle.nmvs_rules.specs.Laws.{IsGenuine}
use Rattle.nmvs_rules.proofs.Accepted.{last-operation}
use Rattle.nmvs_rules.proofs.FindLemmas.{find-passes, from-passing}
use Rattle.nmvs_rules.proofs.LockLemmas.{free-unlocked, unlocked-free}
use Rattle.nmvs_rules.proofs.ReplyLemmas.{IsReply, IsAuthentic, verify-tells, decommission-tells, may-tells, reply-question, reply-admitted}
use Rattle.nmvs_rules.proofs.MarkLemmas.{known-by, known-made, birth-of, uploaded-with}
use Rattle.nmvs_rules.proofs.CourseLemmas.{decommissioned-not_active}

-- the last operation on an active pack is its upload or a reversion
pub active-last : (p : Pack) (q : Question) (r : Reply) → (names p (pack_of q) && accepts q r) ≡ true → is_active (own_given q) ≡ true → (upload_done p q r || reversion_done p q r) ≡ true
active-last p (Upload s b x) reply.Uploaded h active = or-false (same_pack p s) ∙ first_so (same_pack p s) true h
active-last p (Upload s b x) r h active = let none : false ≡ true = second_so (same_pack p s) false h in cc
active-last p (OfPack Revert s) reply.Reverted h active = first_so (same_pack p s) true h
active-last p (OfPack Revert s) r h active = let none : false ≡ true = second_so (same_pack p s) false h in cc
active-last p (OfPack (Decommission w) s) r h active = sym (decommissioned-not_active (OfPack (Decommission w) s) refl) ∙ active
active-last p (OfBatch _ c b) r h active = h
active-last p (OfPack Handover s) r h active = active
active-last p (OfPack Theft s) r h active = active
active-last p q r h active = second_so (names p (pack_of q)) (accepts q r) h

-- and a pack of which that is so is active
pub active-by : (p : Pack) (q : Question) (r : Reply) → (upload_done p q r || reversion_done p q r) ≡ true → is_active (own_given q) ≡ true
active-by p (Upload s b x) r h = refl
active-by p (OfPack Revert s) r h = refl
active-by p q r h = let none : false ≡ true = h in cc

-- the values known of a genuine pack
genuine-known : (t : List Entry) (p : Pack) (b : Batch) (x : Expiry) → IsGenuine t p b x → (k : Known) × (known t p ≡ Some k) × (k.batch ≡ b) × (k.expiry ≡ x) × IsAuthentic t p k
genuine-known t p b x h =
    let upload = birth-of t p b x h.uploaded in
    let last = from-passing (λ m. uploads p m || reverts p m) (last_operation t p) h.moving in
    let k : Known = record { batch = b; expiry = x; own = own_given last.0.put.question; mark = mark_after (mark_place t p) last.0 } in (
      k,
      known-made t p upload.2.0 upload.0 last.0 b x upload.1 upload.2.1 (sym (last-operation t p) ∙ last.1),
      refl,
      refl,
      record { active = active-by p last.0.put.question last.0.reply last.2; free = free-unlocked t p.code b h.unlocked },
    )

-- a known pack that is authentic is genuine
known-genuine : (t : List Entry) (p : Pack) (k : Known) → known t p ≡ Some k → IsAuthentic t p k → IsGenuine t p k.batch k.expiry
known-genuine t p k is h =
    let by = known-by t p k is in
    let P : Option Entry → Type 0 = λ o. IsTrue (option_map_or (λ m. uploads p m || reverts p m) o false) in
    record {
      uploaded = uploaded-with t p k by;
      moving = subst P (sym by.marked ∙ sym (last-operation t p))
          (active-last p by.last.put.question by.last.reply (find-passes (is_mark p) (reverse t) by.last by.marked) (sym (ap (λ z. is_active z.own) by.known) ∙ h.active));
      unlocked = unlocked-free t p.code k.batch h.free;
    }

confirmed : (n : ℕ) (k : Known) (l : BatchLock) (m : ℕ) → is_active k.own ≡ true → is_free l ≡ true → verify_reply n k l m ≡ reply.Authentic k.batch k.expiry (is_past k.expiry n)
confirmed n k l m active free = rw (active, free) refl

taken : (k : Known) (l : BatchLock) (m : ℕ) → is_active k.own ≡ true → is_free l ≡ true → decommission_reply k l m ≡ reply.Decommissioned
taken k l m active free = rw (active, free) refl

-- the law of verifications
pub verification-exact : (t : List Entry) (q : Put) (p : Pack) (b : Batch) (x : Expiry) (late : Bool) → q.question ≡ OfPack Verify p → (reply_of t q ≡ reply.Authentic b x late) ↔ (IsTrue (may_ask q.actor.role q.question) × IsGenuine t p b x × (late ≡ int_lt (expiry_day x.bytes) (pos (day_of q.moment))))
verification-exact t q p b x late is = (forward, backward)
  where
    forward : reply_of t q ≡ reply.Authentic b x late → IsTrue (may_ask q.actor.role q.question) × IsGenuine t p b x × (late ≡ int_lt (expiry_day x.bytes) (pos (day_of q.moment)))
    forward h =
        let given : IsReply t q.moment q.actor (OfPack Verify p) (reply.Authentic b x late) = sym h ∙ reply-question t q (OfPack Verify p) is in
        let pack = verify-tells t q.moment q.actor p b x late given in
        let k = pack.0 in
        let same = pack.2.1 in
        let batch : k.batch ≡ b = cc in
        let expiry : k.expiry ≡ x = cc in
        let past : is_past k.expiry q.moment ≡ late = cc in (
          ap (may_ask q.actor.role) is ∙ may-tells t q.moment q.actor (OfPack Verify p) _ (λ e. cc) given,
          subst (λ z. IsGenuine t p b z) expiry (subst (λ z. IsGenuine t p z k.expiry) batch (known-genuine t p k pack.1 pack.2.0)),
          sym past ∙ ap (λ z. is_past z q.moment) expiry,
        )

    backward : IsTrue (may_ask q.actor.role q.question) × IsGenuine t p b x × (late ≡ int_lt (expiry_day x.bytes) (pos (day_of q.moment))) → reply_of t q ≡ reply.Authentic b x late
    backward h =
        let pack = genuine-known t p b x h.1 in
        let k = pack.0 in
        reply-admitted t q (OfPack Verify p) is h.0
        ∙ ap (λ o. on_pack o (alert_unknown (alerts_of t p.code)) (λ k. verify_reply q.moment k (lock_on t p k) (alerts_of t p.code))) pack.1
        ∙ confirmed q.moment k (lock_on t p k) (alerts_of t p.code) pack.4.active pack.4.free
        ∙ (λ i. reply.Authentic (pack.2 i) (pack.3 i) (is_past (pack.3 i) q.moment))
        ∙ ap (reply.Authentic b x) (sym h.2)

-- the law of decommissionings
pub decommissioning-exact : (t : List Entry) (q : Put) (p : Pack) (w : Reason) → q.question ≡ OfPack (Decommission w) p → (reply_of t q ≡ reply.Decommissioned) ↔ (IsTrue (may_ask q.actor.role q.question) × ((b : Batch) × (x : Expiry) × IsGenuine t p b x))
decommissioning-exact t q p w is = (forward, backward)
  where
    forward : reply_of t q ≡ reply.Decommissioned → IsTrue (may_ask q.actor.role q.question) × ((b : Batch) × (x : Expiry) × IsGenuine t p b x)
    forward h =
        let given : IsReply t q.moment q.actor (OfPack (Decommission w) p) reply.Decommissioned = sym h ∙ reply-question t q (OfPack (Decommission w) p) is in
        let pack = decommission-tells t q.moment q.actor p w given in (
          ap (may_ask q.actor.role) is ∙ may-tells t q.moment q.actor (OfPack (Decommission w) p) _ (λ e. cc) given,
          (pack.0.batch, pack.0.expiry, known-genuine t p pack.0 pack.1 pack.2),
        )

    backward : IsTrue (may_ask q.actor.role q.question) × ((b : Batch) × (x : Expiry) × IsGenuine t p b x) → reply_of t q ≡ reply.Decommissioned
    backward h =
        let pack = genuine-known t p h.1.0 h.1.1 h.1.2 in
        reply-admitted t q (OfPack (Decommission w) p) is h.0
        ∙ ap (λ o. on_pack o (alert_unknown (alerts_of t p.code)) (λ k. decommission_reply k (lock_on t p k) (alerts_of t p.code))) pack.1
        ∙ taken pack.0 (lock_on t p pack.0) (alerts_of t p.code) pack.4.active pack.4.free
