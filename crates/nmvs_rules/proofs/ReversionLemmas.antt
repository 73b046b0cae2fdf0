-- A reversion is accepted exactly if Article 13(1) allows it.
use Rattle.std.specs.Prelude.{int_lt}
use Rattle.std.proofs.Common.{◌≡◌, ◌↔◌, ℕ, ◌≤◌, ℤ, pos, ◌≤ℤ◌, Bool, true, false, List, reverse, Some, IsTrue, nat_le, refl, sym, ap, ◌∙◌, arith}
use Rattle.std.proofs.lemmas.Int.{ints}
use Rattle.std.proofs.lemmas.Bool.Decides.{nat_tests}
use Rattle.std.specs.Cmp.{first_so, second_so}
use Rattle.std.specs.Cmp.Derive.{both_true}
use Rattle.nmvs_identifier.specs.Texts.{same_text}
use Rattle.nmvs_identifier.specs.declared.pack.Pack.{Pack}
use Rattle.nmvs_rules.specs.declared.actor.Actor.{Actor}
use Rattle.nmvs_rules.specs.declared.question.Question.{Question}
use Rattle.nmvs_rules.specs.declared.question.Question.TheVariants.{OfPack}
use Rattle.nmvs_rules.specs.declared.pack_question.PackQuestion.TheVariants.{Decommission, Handover, Revert, Theft}
use Rattle.nmvs_rules.specs.declared.batch_lock.BatchLock.{BatchLock}
use Rattle.nmvs_rules.specs.declared.entry.Entry.{Entry}
use Rattle.nmvs_rules.specs.declared.facts.Known.{Known}
use Rattle.nmvs_rules.specs.declared.reply.Reply.TheVariants as reply
use Rattle.nmvs_rules.specs.declared.refusal.Refusal.TheVariants as refusal
use Rattle.nmvs_rules.specs.declared.put.Put.{Put}
use Rattle.nmvs_rules.specs.Questions.{may_ask}
use Rattle.nmvs_rules.specs.Trail.{mark_place, mark_after, known, is_mark, own_given}
use Rattle.nmvs_rules.specs.Rules.{is_free, is_active, is_stolen, is_destroyed, is_supplied, is_past, is_same_house, is_in_time, lock_on, on_pack, revert_reply, reply_of, admitted_reply}
use Rattle.nmvs_rules.specs.Laws.{IsRevertible}
use Rattle.nmvs_rules.proofs.Accepted.{is_decommissioning, accepted_decommissioning, decommissions-is, last-operation, destroyed-by, supplied-by, stolen-by, not-destroyed_by, not-supplied_by, not-stolen_by}
use Rattle.nmvs_rules.proofs.FindLemmas.{find-passes}
use Rattle.nmvs_rules.proofs.LockLemmas.{free-unlocked, unlocked-free}
use Rattle.nmvs_rules.proofs.TextLemmas.{same_text-bytes, same_text-from_bytes}
use Rattle.nmvs_rules.proofs.ReplyLemmas.{IsReply, IsReversible, revert-tells, may-tells, reply-question, reply-admitted}
use Rattle.nmvs_rules.proofs.CourseLemmas.{decommissioned-not_active, never}
use Rattle.nmvs_rules.proofs.MarkLemmas.{KnownBy, known-by, known-made, birth-of, uploaded-with}

not_past : (d : ℤ) (n : ℕ) → int_lt d (pos n) ≡ false → pos n ≤ℤ d
not_past d n h = omega (arith, ints)

past_not : (d : ℤ) (n : ℕ) → pos n ≤ℤ d → int_lt d (pos n) ≡ false
past_not d n h = by (int_lt d (pos n)) refl
  where
    by : (b : Bool) → int_lt d (pos n) ≡ b → b ≡ false
    by true is = absurd (omega (arith, ints))
    by false is = refl

in_time : (m n : ℕ) → nat_le m n ≡ true → m ≤ n
in_time m n h = grind (arith, nat_tests)

time_in : (m n : ℕ) → m ≤ n → nat_le m n ≡ true
time_in m n h = grind (arith, nat_tests)

-- a pack that is neither active nor stolen nor supplied was decommissioned last
decommissioned-last : (q : Question) → is_active (own_given q) ≡ false → is_stolen (own_given q) ≡ false → is_supplied (own_given q) ≡ false → is_decommissioning q ≡ true
decommissioned-last (OfPack (Decommission w) p) active stolen supplied = refl
decommissioned-last (OfPack Handover p) active stolen supplied = sym supplied
decommissioned-last (OfPack Theft p) active stolen supplied = sym stolen
decommissioned-last q active stolen supplied = sym active

revertible : (t : List Entry) (p : Pack) (q : Put) (k : Known) → KnownBy t p k → IsReversible t q.moment q.actor p k → IsRevertible t p q
revertible t p q k by tells =
    let status : k.own ≡ own_given by.last.put.question = ap (λ z. z.own) by.known in
    let made : k.mark ≡ mark_after (mark_place t p) by.last = ap (λ z. z.mark) by.known in
    let house : is_same_house q.actor (mark_after (mark_place t p) by.last) ≡ true = sym (ap (is_same_house q.actor) made) ∙ tells.same_house in
    let time : is_in_time q.moment (mark_after (mark_place t p) by.last) ≡ true = sym (ap (is_in_time q.moment) made) ∙ tells.in_time in
    let marks : is_mark p by.last ≡ true = find-passes (is_mark p) (reverse t) by.last by.marked in
    record {
      batch = k.batch;
      expiry = k.expiry;
      uploaded = uploaded-with t p k by;
      last = by.last;
      latest = last-operation t p ∙ by.marked;
      decommissioned = decommissions-is p by.last
          ∙ both_true marks (decommissioned-last by.last.put.question (sym (ap is_active status) ∙ tells.not_active) (sym (ap is_stolen status) ∙ tells.not_stolen) (sym (ap is_supplied status) ∙ tells.not_supplied));
      same_authorisation = same_text-bytes q.actor.authorisation by.last.put.actor.authorisation (first_so _ _ house);
      same_premises = same_text-bytes q.actor.premises by.last.put.actor.premises (second_so (same_text q.actor.authorisation by.last.put.actor.authorisation) _ house);
      within_days = in_time _ _ time;
      not_expired = not_past _ _ tells.not_expired;
      unlocked = unlocked-free t p.code k.batch tells.free;
      not_destroyed = never _ (λ d. sym (destroyed-by p _ _ d) ∙ sym (ap is_destroyed status) ∙ tells.not_destroyed);
      not_stolen = never _ (λ d. sym (stolen-by p _ _ d) ∙ sym (ap is_stolen status) ∙ tells.not_stolen);
      not_supplied = never _ (λ d. sym (supplied-by p _ _ d) ∙ sym (ap is_supplied status) ∙ tells.not_supplied);
    }

reverted : (n : ℕ) (a : Actor) (k : Known) (l : BatchLock) → is_free l ≡ true → is_active k.own ≡ false → is_stolen k.own ≡ false → is_destroyed k.own ≡ false → is_supplied k.own ≡ false → is_same_house a k.mark ≡ true → is_in_time n k.mark ≡ true → is_past k.expiry n ≡ false → revert_reply n a k l ≡ reply.Reverted
reverted n a k l free active stolen destroyed supplied house time past = rw (free, active, stolen, destroyed, supplied, house, time, past) refl

reversion : (t : List Entry) (p : Pack) (q : Put) → IsRevertible t p q → admitted_reply t q.moment q.actor (OfPack Revert p) ≡ reply.Reverted
reversion t p q h =
    let upload = birth-of t p h.batch h.expiry h.uploaded in
    let k : Known = record { batch = h.batch; expiry = h.expiry; own = own_given h.last.put.question; mark = mark_after (mark_place t p) h.last } in
    let is : known t p ≡ Some k = known-made t p upload.2.0 upload.0 h.last h.batch h.expiry upload.1 upload.2.1 (sym (last-operation t p) ∙ h.latest) in
    let accepted : accepted_decommissioning p h.last ≡ true = sym (decommissions-is p h.last) ∙ h.decommissioned in
    let house : is_same_house q.actor k.mark ≡ true =
    both_true (same_text-from_bytes q.actor.authorisation h.last.put.actor.authorisation h.same_authorisation)
    (same_text-from_bytes q.actor.premises h.last.put.actor.premises h.same_premises) in
    ap (λ o. on_pack o (reply.Refused refusal.Unknown) (λ k. revert_reply q.moment q.actor k (lock_on t p k))) is
    ∙ reverted q.moment q.actor k (lock_on t p k)
    (free-unlocked t p.code h.batch h.unlocked)
    (decommissioned-not_active h.last.put.question (second_so (is_mark p h.last) _ accepted))
    (not-stolen_by p h.last.put.question h.last.reply h.decommissioned)
    (not-destroyed_by p h.last.put.question h.last.reply h.decommissioned h.not_destroyed)
    (not-supplied_by p h.last.put.question h.last.reply h.decommissioned h.not_supplied)
    house (time_in _ _ h.within_days) (past_not _ _ h.not_expired)

-- the law of reversions
pub reversion-exact : (t : List Entry) (q : Put) (p : Pack) → q.question ≡ OfPack Revert p → (reply_of t q ≡ reply.Reverted) ↔ (IsTrue (may_ask q.actor.role q.question) × IsRevertible t p q)
reversion-exact t q p is = (forward, backward)
  where
    forward : reply_of t q ≡ reply.Reverted → IsTrue (may_ask q.actor.role q.question) × IsRevertible t p q
    forward h =
        let given : IsReply t q.moment q.actor (OfPack Revert p) reply.Reverted = sym h ∙ reply-question t q (OfPack Revert p) is in
        let pack = revert-tells t q.moment q.actor p given in (
          ap (may_ask q.actor.role) is ∙ may-tells t q.moment q.actor (OfPack Revert p) _ (λ e. cc) given,
          revertible t p q pack.0 (known-by t p pack.0 pack.1) pack.2,
        )

    backward : IsTrue (may_ask q.actor.role q.question) × IsRevertible t p q → reply_of t q ≡ reply.Reverted
    backward h = reply-admitted t q (OfPack Revert p) is h.0 ∙ reversion t p q h.1
