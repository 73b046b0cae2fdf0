-- A trail without a handover says the same as before packs could be handed over, and is lawful exactly if it was.
use Rattle.std.proofs.Common.{◌≡◌, ◌↔◌, ℕ, ◌+◌, ◌-◌, Bool, true, false, not, ◌&&◌, ◌||◌, cond, List, [], ◌∷◌, ◌++◌, reverse, length, Option, Some, None, refl, sym, ap, ◌∙◌}
use Rattle.std.proofs.lemmas.Bool.{or_parts}
use Rattle.std.proofs.lemmas.List.Folds.{list_any-append}
use Rattle.std.specs.List.{find, list_any, count_by, prefix_len}
use Rattle.std.specs.Option.{option_map, option_map_or, unwrap_or}
use Rattle.nmvs_identifier.specs.Batch.{Batch}
use Rattle.nmvs_identifier.specs.ProductCode.{ProductCode}
use Rattle.nmvs_identifier.specs.declared.pack.Pack.{Pack}
use Rattle.nmvs_rules.specs.declared.actor.Actor.{Actor}
use Rattle.nmvs_rules.specs.declared.batch_lock.BatchLock.{BatchLock}
use Rattle.nmvs_rules.specs.declared.batch_lock.BatchLock.TheVariants as lock
use Rattle.nmvs_rules.specs.declared.entry.Entry.{Entry}
use Rattle.nmvs_rules.specs.declared.facts.Known.{Known}
use Rattle.nmvs_rules.specs.declared.own_status.OwnStatus.{OwnStatus}
use Rattle.nmvs_rules.specs.declared.own_status.OwnStatus.TheVariants as own
use Rattle.nmvs_rules.specs.declared.question.Question.{Question}
use Rattle.nmvs_rules.specs.declared.question.Question.TheVariants.{Upload, OfPack, OfBatch}
use Rattle.nmvs_rules.specs.declared.pack_question.PackQuestion.TheVariants.{Verify, Status, Decommission, Handover, Revert, Theft, Audit}
use Rattle.nmvs_rules.specs.declared.refusal.Refusal.TheVariants as refusal
use Rattle.nmvs_rules.specs.declared.reply.Reply.{Reply}
use Rattle.nmvs_rules.specs.declared.reply.Reply.TheVariants as reply
use Rattle.nmvs_rules.specs.declared.role.Role.{Role}
use Rattle.nmvs_rules.specs.declared.put.Put.{Put}
use Rattle.nmvs_rules.specs.Questions.{may_ask, pack_of}
use Rattle.nmvs_rules.specs.Trail.{accepts, own_given, is_accepted, is_upload, is_about, has_code, born, is_mark, mark, mark_place, mark_after, own_of, lock_of, lock_by, locks_batch, holder_of, alerts_of, known_at, known_from, known, is_birth_in, is_known_batch, uploads_batch, stands_at, is_own, count_of}
use Rattle.nmvs_rules.specs.Rules.{on_pack, upload_reply, verify_reply, status_reply, decommission_reply, revert_reply, lock_reply, theft_reply, admitted_reply, reply_of, IsLawfulAfter, IsLawful}
use Rattle.nmvs_rules.specs.Laws.{is_handover, asks_handover}
use Rattle.nmvs_rules.specs.before_handover.Trail as past
use Rattle.nmvs_rules.specs.before_handover.Rules as past_rules
use Rattle.nmvs_rules.proofs.FindLemmas.{find-any, is_some-find}
use Rattle.nmvs_rules.proofs.MarkLemmas.{is_some-find-reverse}
use Rattle.nmvs_rules.proofs.PushLemmas.{count_by-cons}

-- two tests that agree if a third one fails find and count alike in a list all of which fails the third
module _ {X : Type 0} (c p q : X → Bool) (alike : (x : X) → c x ≡ false → p x ≡ q x) where
  find-alike : (xs : List X) → list_any c xs ≡ false → find p xs ≡ find q xs
  find-alike [] h = refl
  find-alike (x ∷ xs) h =
      let neither = or_parts (c x) (list_any c xs) h in
      ap (λ b. cond b (Some x) (find p xs)) (alike x neither.0) ∙ ap (cond (q x) (Some x)) (find-alike xs neither.1)

  list_any-alike : (xs : List X) → list_any c xs ≡ false → list_any p xs ≡ list_any q xs
  list_any-alike [] h = refl
  list_any-alike (x ∷ xs) h =
      let neither = or_parts (c x) (list_any c xs) h in
      ap (λ b. b || list_any p xs) (alike x neither.0) ∙ ap (λ b. q x || b) (list_any-alike xs neither.1)

  count_by-alike : (xs : List X) → list_any c xs ≡ false → count_by p xs ≡ count_by q xs
  count_by-alike [] h = refl
  count_by-alike (x ∷ xs) h =
      let neither = or_parts (c x) (list_any c xs) h in
      count_by-cons p x xs
      ∙ ap (λ b. cond b 1 0 + count_by p xs) (alike x neither.0)
      ∙ ap (λ n. cond (q x) 1 0 + n) (count_by-alike xs neither.1)
      ∙ sym (count_by-cons q x xs)

  prefix_len-alike : (xs : List X) → list_any c xs ≡ false → prefix_len (λ x. not (p x)) xs ≡ prefix_len (λ x. not (q x)) xs
  prefix_len-alike [] h = refl
  prefix_len-alike (x ∷ xs) h =
      let neither = or_parts (c x) (list_any c xs) h in
      ap (λ b. cond (not b) (1 + prefix_len (λ x. not (p x)) xs) 0) (alike x neither.0)
      ∙ ap (λ n. cond (not (q x)) (1 + n) 0) (prefix_len-alike xs neither.1)

reverse-none : {X : Type 0} (c : X → Bool) (xs : List X) → list_any c xs ≡ false → list_any c (reverse xs) ≡ false
reverse-none c xs h = sym (is_some-find c (reverse xs)) ∙ is_some-find-reverse c xs ∙ h

-- an element that is found in a list fails a test that all of the list fails
found-none : {X : Type 0} (c p : X → Bool) (xs : List X) (x : X) → list_any c xs ≡ false → find p xs ≡ Some x → c x ≡ false
found-none c p xs x h found = by (c x) refl
  where
    by : (b : Bool) → c x ≡ b → b ≡ false
    by true is = sym (find-any p c xs x found is) ∙ h
    by false is = refl

-- of a question that is no handover the definitions agree
accepts-alike : (q : Question) (r : Reply) → is_handover q ≡ false → accepts q r ≡ past.accepts q r
accepts-alike (OfPack Handover p) r h = cc
accepts-alike (Upload p b x) reply.Uploaded h = refl
accepts-alike (Upload p b x) r h = refl
accepts-alike (OfPack (Decommission w) p) reply.Decommissioned h = refl
accepts-alike (OfPack (Decommission w) p) r h = refl
accepts-alike (OfPack Revert p) reply.Reverted h = refl
accepts-alike (OfPack Revert p) r h = refl
accepts-alike (OfBatch _ c b) (reply.LockedNow n) h = refl
accepts-alike (OfBatch _ c b) r h = refl
accepts-alike (OfPack Theft p) reply.MarkedStolen h = refl
accepts-alike (OfPack Theft p) r h = refl
accepts-alike q r h = refl

given-alike : (q : Question) → is_handover q ≡ false → own_given q ≡ past.own_given q
given-alike (OfPack Handover p) h = cc
given-alike (OfPack (Decommission w) p) h = refl
given-alike (OfPack Theft p) h = refl
given-alike q h = refl

may-alike : (r : Role) (q : Question) → is_handover q ≡ false → may_ask r q ≡ past_rules.may_ask r q
may-alike r (OfPack Handover p) h = cc
may-alike r (Upload p b x) h = refl
may-alike r (OfPack Verify p) h = refl
may-alike r (OfPack Status p) h = refl
may-alike r (OfPack (Decommission w) p) h = refl
may-alike r (OfPack Revert p) h = refl
may-alike r (OfBatch _ c b) h = refl
may-alike r (OfPack Theft p) h = refl
may-alike r (OfPack Audit p) h = refl

accepted-alike : (e : Entry) → asks_handover e ≡ false → is_accepted e ≡ past.is_accepted e
accepted-alike e h = accepts-alike e.put.question e.reply h

-- a trail that has no handover
module _ (t : List Entry) (none : list_any asks_handover t ≡ false) where
  born-alike : (p : Pack) → born t p ≡ past.born t p
  born-alike p = find-alike asks_handover _ _ (λ e h. ap (λ a. (is_upload e.put.question && is_about p e) && a) (accepted-alike e h)) t none

  marks-alike : (p : Pack) (e : Entry) → asks_handover e ≡ false → is_mark p e ≡ past.is_mark p e
  marks-alike p e h = ap (λ a. is_about p e && a) (accepted-alike e h)

  mark-alike : (p : Pack) → mark t p ≡ past.mark t p
  mark-alike p = find-alike asks_handover _ _ (marks-alike p) (reverse t) (reverse-none asks_handover t none)

  mark_place-alike : (p : Pack) → mark_place t p ≡ past.mark_place t p
  mark_place-alike p =
      ap (λ n. length t - n - 1) (prefix_len-alike asks_handover (is_mark p) (past.is_mark p) (marks-alike p) (reverse t) (reverse-none asks_handover t none))

  own-alike : (p : Pack) → own_of t p ≡ past.own_of t p
  own-alike p = by (mark t p) refl ∙ ap (option_map (λ m. past.own_given m.put.question)) (mark-alike p)
    where
      by : (o : Option Entry) → mark t p ≡ o → option_map (λ m. own_given m.put.question) o ≡ option_map (λ m. past.own_given m.put.question) o
      by None is = refl
      by (Some m) is = ap Some (given-alike m.put.question (found-none asks_handover (is_mark p) (reverse t) m (reverse-none asks_handover t none) is))

  lock-alike : (c : ProductCode) (b : Batch) → lock_of t c b ≡ past.lock_of t c b
  lock-alike c b =
      ap (λ o. option_map_or (λ e. lock_by e.put.question) o lock.Free) (find-alike asks_handover _ _ (λ e h. ap (λ a. locks_batch c b e.put.question && a) (accepted-alike e h)) t none)

  holder-alike : (c : ProductCode) → holder_of t c ≡ past.holder_of t c
  holder-alike c =
      ap (option_map (λ e. e.put.actor.authorisation)) (find-alike asks_handover _ _ (λ e h. ap (λ a. (is_upload e.put.question && has_code c e) && a) (accepted-alike e h)) t none)

  known_at-alike : (p : Pack) (m : Entry) (q : Question) → asks_handover m ≡ false → known_at t p m q ≡ past.known_at t p m q
  known_at-alike p m (Upload r b x) h = λ i. Some (record { batch = b; expiry = x; own = given-alike m.put.question h i; mark = mark_after (mark_place-alike p i) m })
  known_at-alike p m q h = refl

  known_from-alike : (p : Pack) (o : Option Entry) → born t p ≡ o → known_from t p o ≡ past.known_from t p o
  known_from-alike p None is = refl
  known_from-alike p (Some u) is =
      known_at-alike p (unwrap_or (mark t p) u) u.put.question (by (mark t p) refl) ∙ ap (λ o. past.known_at t p (unwrap_or o u) u.put.question) (mark-alike p)
    where
      by : (o : Option Entry) → mark t p ≡ o → asks_handover (unwrap_or o u) ≡ false
      by None marked = found-none asks_handover _ t u none is
      by (Some m) marked = found-none asks_handover (is_mark p) (reverse t) m (reverse-none asks_handover t none) marked

  known-alike : (p : Pack) → known t p ≡ past.known t p
  known-alike p = known_from-alike p (born t p) refl ∙ ap (past.known_from t p) (born-alike p)

  birth-alike : (c : ProductCode) (b : Batch) (e : Entry) → asks_handover e ≡ false → is_birth_in c b e ≡ past.is_birth_in c b e
  birth-alike c b e h = ap (λ a. uploads_batch c b e.put.question && a) (accepted-alike e h)

  known_batch-alike : (c : ProductCode) (b : Batch) → is_known_batch t c b ≡ past.is_known_batch t c b
  known_batch-alike c b = list_any-alike asks_handover (is_birth_in c b) (past.is_birth_in c b) (birth-alike c b) t none

  stands-alike : (s : OwnStatus) (o : Option Pack) → stands_at t s o ≡ past.stands_at t s o
  stands-alike s None = refl
  stands-alike s (Some p) = ap (is_own s) (own-alike p)

  count-alike : (c : ProductCode) (b : Batch) (s : OwnStatus) → count_of t c b s ≡ past.count_of t c b s
  count-alike c b s =
      count_by-alike asks_handover _ _ (λ e h. λ i. birth-alike c b e h i && stands-alike s (pack_of e.put.question) i) t none

  on_pack-alike : (p : Pack) (un : Reply) (f : Known → BatchLock → Reply) → on_pack (known t p) un (λ k. f k (lock_of t p.code k.batch)) ≡ on_pack (past.known t p) un (λ k. f k (past.lock_of t p.code k.batch))
  on_pack-alike p un f = λ i. on_pack (known-alike p i) un (λ k. f k (lock-alike p.code k.batch i))

  admitted-alike : (n : ℕ) (a : Actor) (q : Question) → is_handover q ≡ false → admitted_reply t n a q ≡ past_rules.admitted_reply t n a q
  admitted-alike n a (OfPack Handover p) h = cc
  admitted-alike n a (Upload p b x) h = λ i. upload_reply a (holder-alike p.code i) (known-alike p i)
  admitted-alike n a (OfPack Verify p) h = on_pack-alike p _ (λ k l. verify_reply n k l (alerts_of t p.code))
  admitted-alike n a (OfPack Status p) h = on_pack-alike p _ (λ k l. status_reply k l)
  admitted-alike n a (OfPack (Decommission w) p) h = on_pack-alike p _ (λ k l. decommission_reply k l (alerts_of t p.code))
  admitted-alike n a (OfPack Revert p) h = on_pack-alike p _ (λ k l. revert_reply n a k l)
  admitted-alike n a (OfBatch _ c b) h = λ i. lock_reply a (known_batch-alike c b i) (holder-alike c i) (lock-alike c b i) (count-alike c b own.Active i)
  admitted-alike n a (OfPack Theft p) h = λ i. on_pack (known-alike p i) (reply.Refused refusal.Unknown) (λ k. theft_reply a (holder-alike p.code i) k)
  admitted-alike n a (OfPack Audit p) h = refl

  -- the reply to a question that is no handover is that of the old rules
  reply-alike : (q : Put) → is_handover q.question ≡ false → reply_of t q ≡ past_rules.reply_of t q
  reply-alike q h = λ i. cond (may-alike q.actor.role q.question h i) (admitted-alike q.moment q.actor q.question h i) (reply.Refused refusal.Role)

push-none : (u : List Entry) (e : Entry) → list_any asks_handover u ≡ false → asks_handover e ≡ false → list_any asks_handover (u ++ e ∷ []) ≡ false
push-none u e none h = list_any-append asks_handover u (e ∷ []) ∙ λ i. none i || (h i || false)

after-alike : (u es : List Entry) → list_any asks_handover u ≡ false → list_any asks_handover es ≡ false → IsLawfulAfter u es ↔ past_rules.IsLawfulAfter u es
after-alike u [] none rest = (λ h. h, λ h. h)
after-alike u (e ∷ es) none rest =
    let neither = or_parts (asks_handover e) (list_any asks_handover es) rest in
    let same = reply-alike u none e.put neither.0 in
    let behind = after-alike (u ++ e ∷ []) es (push-none u e none neither.0) neither.1 in
    (λ h. (h.0 ∙ same, behind.0 h.1), λ h. (h.0 ∙ sym same, behind.1 h.1))

-- a trail without a handover is lawful exactly if it was
pub lawful-alike : (t : List Entry) → list_any asks_handover t ≡ false → IsLawful t ↔ past_rules.IsLawful t
lawful-alike t none = after-alike [] t refl none
