-- An upload, a handover, a recall or withdrawal and a theft report are accepted exactly if the laws allow it.
use Rattle.std.proofs.Common.{◌≡◌, ◌↔◌, ℕ, Bool, true, false, not, ◌&&◌, ◌||◌, cond, List, reverse, Option, Some, None, IsFalse, IsSomeAnd, ◌⊎◌, inl, inr, refl, sym, ap, subst, ◌∙◌}
use Rattle.std.proofs.Math.Bool.{and-true, and-false}
use Rattle.std.proofs.lemmas.Bool.{not-false}
use Rattle.std.specs.Cmp.{first_so, second_so}
use Rattle.std.specs.Cmp.Derive.{both_true}
use Rattle.std.specs.List.{find, list_any, count_by}
use Rattle.std.specs.Option.{is_some, option_map, option_map_or}
use Rattle.nmvs_identifier.specs.Batch.{Batch}
use Rattle.nmvs_identifier.specs.Expiry.{Expiry}
use Rattle.nmvs_identifier.specs.Name.{Name}
use Rattle.nmvs_identifier.specs.Pack.{same_pack}
use Rattle.nmvs_identifier.specs.ProductCode.{ProductCode}
use Rattle.nmvs_identifier.specs.Texts.{same_text}
use Rattle.nmvs_identifier.specs.declared.pack.Pack.{Pack}
use Rattle.nmvs_rules.specs.declared.actor.Actor.{Actor}
use Rattle.nmvs_rules.specs.declared.batch_lock.BatchLock.{BatchLock}
use Rattle.nmvs_rules.specs.declared.entry.Entry.{Entry}
use Rattle.nmvs_rules.specs.declared.facts.Known.{Known}
use Rattle.nmvs_rules.specs.declared.own_status.OwnStatus.{OwnStatus}
use Rattle.nmvs_rules.specs.declared.own_status.OwnStatus.TheVariants as own
use Rattle.nmvs_rules.specs.declared.put.Put.{Put}
use Rattle.nmvs_rules.specs.declared.question.Question.{Question}
use Rattle.nmvs_rules.specs.declared.question.Question.TheVariants.{Upload, OfPack, OfBatch}
use Rattle.nmvs_rules.specs.declared.pack_question.PackQuestion.TheVariants.{Decommission, Handover, Theft}
use Rattle.nmvs_rules.specs.declared.batch_question.BatchQuestion.TheVariants.{Recall, Withdraw}
use Rattle.nmvs_rules.specs.declared.reason.Reason.TheVariants as reason
use Rattle.nmvs_rules.specs.declared.refusal.Refusal.TheVariants as refusal
use Rattle.nmvs_rules.specs.declared.reply.Reply.{Reply}
use Rattle.nmvs_rules.specs.declared.reply.Reply.TheVariants as reply
use Rattle.nmvs_rules.specs.declared.role.Role.{Role}
use Rattle.nmvs_rules.specs.declared.role.Role.TheVariants as role
use Rattle.nmvs_rules.specs.Questions.{may_ask, is_holder, is_supplier, pack_of, names}
use Rattle.nmvs_rules.specs.Trail.{accepts, mark, mark_place, mark_after, known, holder_of, lock_of, count_of, is_mark, is_known_batch, uploads_batch, own_given, own_of, same_own, is_own, stands_at}
use Rattle.nmvs_rules.specs.Rules.{is_active, is_free, is_held, is_stolen, is_held_by, has_other_holder, is_same_house, lock_on, on_pack, handover_reply, lock_reply, theft_reply, reply_of}
use Rattle.nmvs_rules.specs.Operations.{batch_upload_done, hold_done, theft_done, uploads, uploads_code, uploads_in, reverts, steals, last_operation}
use Rattle.nmvs_rules.specs.Laws.{IsHeldBy, IsUploadable, IsSuppliable, IsLockable, IsReportable, AsksLock, uploads_circulating, circulates, circulating}
use Rattle.nmvs_rules.proofs.Accepted.{first-upload, last-operation, stolen-by}
use Rattle.nmvs_rules.proofs.FindLemmas.{find-passes, is_some-find, is-none, from-some}
use Rattle.nmvs_rules.proofs.LockLemmas.{free-unlocked, unlocked-free}
use Rattle.nmvs_rules.proofs.TextLemmas.{same_text-bytes, same_text-from_bytes}
use Rattle.nmvs_rules.proofs.MarkLemmas.{KnownBy, known-by, known-made, birth-of, uploaded-with, is-some}
use Rattle.nmvs_rules.proofs.BirthLemmas.{is_some-known}
use Rattle.nmvs_rules.proofs.ReplyLemmas.{IsReply, IsHeldHere, cond-then, cond-else, handover-tells, theft-tells, theft-holder, upload-tells, upload-holder, may-tells, reply-question, reply-admitted}
use Rattle.nmvs_rules.proofs.CourseLemmas.{never}
use Rattle.nmvs_rules.proofs.HolderLemmas.{holder-first, held, not-other}
use Rattle.nmvs_rules.proofs.VerificationLemmas.{active-last, active-by}

-- the roles that ask
a-holder : (r : Role) → is_holder r ≡ true → r ≡ role.Holder
a-holder role.Holder h = refl
a-holder r h = cc

a-pharmacy : (r : Role) → is_supplier r ≡ true → r ≡ role.Pharmacy
a-pharmacy role.Pharmacy h = refl
a-pharmacy r h = cc

-- a pack is known exactly if it was uploaded
known-uploaded : (t : List Entry) (p : Pack) → is_some (known t p) ≡ list_any (uploads p) t
known-uploaded t p = is_some-known t p ∙ ap is_some (sym (first-upload t p)) ∙ is_some-find (uploads p) t

-- the holder, by the words of the laws
is-holder : (t : List Entry) (c : ProductCode) (n : Name) → IsHeldBy t c n → is_held_by (holder_of t c) n ≡ true
is-holder t c n h =
    let first = from-some (find (uploads_code c) t) _ h in
    ap (λ o. is_held_by o n) (holder-first t c ∙ ap (option_map (λ e. e.put.actor.authorisation)) first.1)
    ∙ same_text-from_bytes first.0.put.actor.authorisation n first.2

no-other : (o : Option Name) (n : Name) → is_held_by o n ≡ true → has_other_holder o n ≡ false
no-other None n h = refl
no-other (Some m) n h = ap not h

-- nobody else holds a product code that was uploaded by nobody, or by its holder
allowed : (t : List Entry) (c : ProductCode) (n : Name) → (list_any (uploads_code c) t ≡ false) ⊎ IsHeldBy t c n → has_other_holder (holder_of t c) n ≡ false
allowed t c n (inl none) =
    ap (λ o. has_other_holder o n) (holder-first t c ∙ ap (option_map (λ e. e.put.actor.authorisation)) (is-none _ (is_some-find (uploads_code c) t ∙ none)))
allowed t c n (inr h) = no-other (holder_of t c) n (is-holder t c n h)

allowed-back : (t : List Entry) (c : ProductCode) (n : Name) → has_other_holder (holder_of t c) n ≡ false → (list_any (uploads_code c) t ≡ false) ⊎ IsHeldBy t c n
allowed-back t c n h = by (list_any (uploads_code c) t) refl
  where
    by : (b : Bool) → list_any (uploads_code c) t ≡ b → (list_any (uploads_code c) t ≡ false) ⊎ IsHeldBy t c n
    by true some = inr (not-other t c n h some)
    by false none = inl none

-- the law of uploads
pub uploading-exact : (t : List Entry) (q : Put) (p : Pack) (b : Batch) (x : Expiry) → q.question ≡ Upload p b x → (reply_of t q ≡ reply.Uploaded) ↔ ((q.actor.role ≡ role.Holder) × IsUploadable t p q.actor.authorisation)
uploading-exact t q p b x is = (forward, backward)
  where
    forward : reply_of t q ≡ reply.Uploaded → (q.actor.role ≡ role.Holder) × IsUploadable t p q.actor.authorisation
    forward h =
        let given : IsReply t q.moment q.actor (Upload p b x) reply.Uploaded = sym h ∙ reply-question t q (Upload p b x) is in (
          a-holder q.actor.role (may-tells t q.moment q.actor (Upload p b x) _ (λ e. cc) given),
          record {
            first = sym (known-uploaded t p) ∙ upload-tells t q.moment q.actor p b x given;
            allowed = allowed-back t p.code q.actor.authorisation (upload-holder t q.moment q.actor p b x given);
          },
        )

    backward : (q.actor.role ≡ role.Holder) × IsUploadable t p q.actor.authorisation → reply_of t q ≡ reply.Uploaded
    backward h =
        reply-admitted t q (Upload p b x) is (ap (may_ask q.actor.role) is ∙ ap is_holder h.0)
        ∙ ap (λ c. cond c (reply.Refused refusal.NotHolder) (cond (is_some (known t p)) (reply.Refused refusal.Duplicate) reply.Uploaded)) (allowed t p.code q.actor.authorisation h.1.allowed)
        ∙ ap (λ c. cond c (reply.Refused refusal.Duplicate) reply.Uploaded) (known-uploaded t p ∙ h.1.first)

-- a pack that is held was last decommissioned for that
held-last : (p : Pack) (q : Question) (r : Reply) → (names p (pack_of q) && accepts q r) ≡ true → is_held (own_given q) ≡ true → hold_done p q r ≡ true
held-last p (OfPack (Decommission reason.Hold) s) reply.Decommissioned h is = first_so (same_pack p s) true h
held-last p (OfPack (Decommission reason.Hold) s) r h is = let none : false ≡ true = second_so (same_pack p s) false h in cc
held-last p (OfPack (Decommission reason.Supply) s) r h is = let none : false ≡ true = is in cc
held-last p (OfPack (Decommission reason.Export) s) r h is = let none : false ≡ true = is in cc
held-last p (OfPack (Decommission reason.Sample) s) r h is = let none : false ≡ true = is in cc
held-last p (OfPack (Decommission reason.Destroy) s) r h is = let none : false ≡ true = is in cc
held-last p q r h is = let none : false ≡ true = is in cc

held-by : (p : Pack) (q : Question) (r : Reply) → hold_done p q r ≡ true → is_held (own_given q) ≡ true
held-by p (OfPack (Decommission reason.Hold) s) r h = refl
held-by p q r h = let none : false ≡ true = h in cc

suppliable : (t : List Entry) (p : Pack) (q : Put) (k : Known) → KnownBy t p k → IsHeldHere t q.actor p k → IsSuppliable t p q
suppliable t p q k by tells =
    let marks : is_mark p by.last ≡ true = find-passes (is_mark p) (reverse t) by.last by.marked in
    let house : is_same_house q.actor (mark_after (mark_place t p) by.last) ≡ true = sym (ap (λ z. is_same_house q.actor z.mark) by.known) ∙ tells.same_house in
    record {
      batch = k.batch;
      expiry = k.expiry;
      uploaded = uploaded-with t p k by;
      last = by.last;
      latest = last-operation t p ∙ by.marked;
      held = held-last p by.last.put.question by.last.reply marks (sym (ap (λ z. is_held z.own) by.known) ∙ tells.held);
      same_authorisation = same_text-bytes q.actor.authorisation by.last.put.actor.authorisation (first_so _ _ house);
      same_premises = same_text-bytes q.actor.premises by.last.put.actor.premises (second_so (same_text q.actor.authorisation by.last.put.actor.authorisation) _ house);
      unlocked = unlocked-free t p.code k.batch tells.free;
    }

handed : (a : Actor) (k : Known) (l : BatchLock) → is_free l ≡ true → is_held k.own ≡ true → is_same_house a k.mark ≡ true → handover_reply a k l ≡ reply.HandedOver
handed a k l free held house = rw (free, held, house) refl

-- the law of handovers
pub handover-exact : (t : List Entry) (q : Put) (p : Pack) → q.question ≡ OfPack Handover p → (reply_of t q ≡ reply.HandedOver) ↔ ((q.actor.role ≡ role.Pharmacy) × IsSuppliable t p q)
handover-exact t q p is = (forward, backward)
  where
    forward : reply_of t q ≡ reply.HandedOver → (q.actor.role ≡ role.Pharmacy) × IsSuppliable t p q
    forward h =
        let given : IsReply t q.moment q.actor (OfPack Handover p) reply.HandedOver = sym h ∙ reply-question t q (OfPack Handover p) is in
        let pack = handover-tells t q.moment q.actor p given in (
          a-pharmacy q.actor.role (may-tells t q.moment q.actor (OfPack Handover p) _ (λ e. cc) given),
          suppliable t p q pack.0 (known-by t p pack.0 pack.1) pack.2,
        )

    backward : (q.actor.role ≡ role.Pharmacy) × IsSuppliable t p q → reply_of t q ≡ reply.HandedOver
    backward (by, h) =
        let upload = birth-of t p h.batch h.expiry h.uploaded in
        let k : Known = record { batch = h.batch; expiry = h.expiry; own = own_given h.last.put.question; mark = mark_after (mark_place t p) h.last } in
        let made : known t p ≡ Some k = known-made t p upload.2.0 upload.0 h.last h.batch h.expiry upload.1 upload.2.1 (sym (last-operation t p) ∙ h.latest) in
        reply-admitted t q (OfPack Handover p) is (ap (may_ask q.actor.role) is ∙ ap is_supplier by)
        ∙ ap (λ o. on_pack o (reply.Refused refusal.Unknown) (λ k. handover_reply q.actor k (lock_on t p k))) made
        ∙ handed q.actor k (lock_on t p k)
        (free-unlocked t p.code h.batch h.unlocked)
        (held-by p h.last.put.question h.last.reply h.held)
        (both_true (same_text-from_bytes q.actor.authorisation h.last.put.actor.authorisation h.same_authorisation)
        (same_text-from_bytes q.actor.premises h.last.put.actor.premises h.same_premises))

-- an upload of a pack of the batch is one that the rules count
batch_upload-is : (c : ProductCode) (b : Batch) (q : Question) (r : Reply) → batch_upload_done c b q r ≡ (uploads_batch c b q && accepts q r)
batch_upload-is c b (Upload s d x) reply.Uploaded = sym (and-true (same_text c s.code && same_text b d))
batch_upload-is c b (Upload s d x) r = sym (and-false (same_text c s.code && same_text b d))
batch_upload-is c b q r = refl

known-batch : (t : List Entry) (c : ProductCode) (b : Batch) → is_known_batch t c b ≡ list_any (uploads_in c b) t
known-batch t c b = λ i. list_any (λ e. sym (batch_upload-is c b e.put.question e.reply) i) t

same-active : (o : OwnStatus) → same_own own.Active o ≡ is_active o
same-active own.Active = refl
same-active o = refl

-- two tests, each of which passes if the other does, are the same
alike : (a b : Bool) → (a ≡ true → b ≡ true) → (b ≡ true → a ≡ true) → a ≡ b
alike true b f g = sym (f refl)
alike false true f g = g refl
alike false false f g = refl

-- a pack circulates exactly if its own status is Active
active-circulates : (t : List Entry) (p : Pack) → is_own own.Active (own_of t p) ≡ circulates t p
active-circulates t p = by (mark t p) refl ∙ ap (λ o. option_map_or (λ m. uploads p m || reverts p m) o false) (sym (last-operation t p))
  where
    by : (o : Option Entry) → mark t p ≡ o → is_own own.Active (option_map (λ m. own_given m.put.question) o) ≡ option_map_or (λ m. uploads p m || reverts p m) o false
    by None found = refl
    by (Some m) found =
        same-active (own_given m.put.question)
        ∙ alike _ _ (active-last p m.put.question m.reply (find-passes (is_mark p) (reverse t) m found)) (active-by p m.put.question m.reply)

counted : (t : List Entry) (c : ProductCode) (b : Batch) (q : Question) (r : Reply) → ((uploads_batch c b q && accepts q r) && stands_at t own.Active (pack_of q)) ≡ (batch_upload_done c b q r && uploads_circulating t q)
counted t c b (Upload s d x) r =
    (λ i. sym (batch_upload-is c b (Upload s d x) r) i && active-circulates t s i)
counted t c b q r = refl

-- the active packs of a batch are those that circulate
count-circulating : (t : List Entry) (c : ProductCode) (b : Batch) → count_of t c b own.Active ≡ circulating t c b
count-circulating t c b = λ i. count_by (λ e. counted t c b e.put.question e.reply i) t

-- the facts that an accepted recall or withdrawal shows, asked by a user who may ask it or not
record IsLocked (is_known held : Bool) (l : BatchLock) (count n : ℕ) (may : Bool) : Type 0 where
  pub may_ask : may ≡ true
  pub known : is_known ≡ true
  pub holder : held ≡ true
  pub free : is_free l ≡ true
  pub counted : n ≡ count

lock-tells : (a : Actor) (is_known : Bool) (holder : Option Name) (l : BatchLock) (active n : ℕ) (may : Bool) → cond may (lock_reply a is_known holder l active) (reply.Refused refusal.Role) ≡ reply.LockedNow n → IsLocked is_known (is_held_by holder a.authorisation) l active n may
lock-tells a is_known holder l active n may h =
    let admitted = cond-then may _ _ _ (λ e. cc) h in
    let batch = cond-else (not is_known) _ _ _ (λ e. cc) admitted.1 in
    let held = cond-else (not (is_held_by holder a.authorisation)) _ _ _ (λ e. cc) batch.1 in
    let free = cond-else (not (is_free l)) _ _ _ (λ e. cc) held.1 in
    let same = free.1 in
    let count : active ≡ n = cc in
    record { may_ask = admitted.0; known = not-false _ batch.0; holder = not-false _ held.0; free = not-false _ free.0; counted = sym count }

locked : (a : Actor) (is_known : Bool) (holder : Option Name) (l : BatchLock) (n : ℕ) → is_known ≡ true → is_held_by holder a.authorisation ≡ true → is_free l ≡ true → lock_reply a is_known holder l n ≡ reply.LockedNow n
locked a is_known holder l n known held free = rw (known, held, free) refl

-- the reply to a recall or withdrawal
lock-question : (t : List Entry) (q : Put) (c : ProductCode) (b : Batch) → AsksLock c b q.question → reply_of t q ≡ cond (is_holder q.actor.role) (lock_reply q.actor (is_known_batch t c b) (holder_of t c) (lock_of t c b) (count_of t c b own.Active)) (reply.Refused refusal.Role)
lock-question t q c b (inl is) = reply-question t q (OfBatch Recall c b) is
lock-question t q c b (inr is) = reply-question t q (OfBatch Withdraw c b) is

-- the law of recalls and withdrawals
pub locking-exact : (t : List Entry) (q : Put) (c : ProductCode) (b : Batch) (active : ℕ) → AsksLock c b q.question → (reply_of t q ≡ reply.LockedNow active) ↔ ((q.actor.role ≡ role.Holder) × IsLockable t c b q.actor.authorisation × (active ≡ circulating t c b))
locking-exact t q c b active asks = (forward, backward)
  where
    forward : reply_of t q ≡ reply.LockedNow active → (q.actor.role ≡ role.Holder) × IsLockable t c b q.actor.authorisation × (active ≡ circulating t c b)
    forward h =
        let tells = lock-tells q.actor _ (holder_of t c) (lock_of t c b) _ active _ (sym (lock-question t q c b asks) ∙ h) in (
          a-holder q.actor.role tells.may_ask,
          record {
            uploaded = sym (known-batch t c b) ∙ tells.known;
            holder = held t c q.actor.authorisation tells.holder;
            unlocked = unlocked-free t c b tells.free;
          },
          tells.counted ∙ count-circulating t c b,
        )

    backward : (q.actor.role ≡ role.Holder) × IsLockable t c b q.actor.authorisation × (active ≡ circulating t c b) → reply_of t q ≡ reply.LockedNow active
    backward (by, h, count) =
        lock-question t q c b asks
        ∙ ap (λ r. cond (is_holder r) (lock_reply q.actor (is_known_batch t c b) (holder_of t c) (lock_of t c b) (count_of t c b own.Active)) (reply.Refused refusal.Role)) by
        ∙ locked q.actor (is_known_batch t c b) (holder_of t c) (lock_of t c b) (count_of t c b own.Active)
        (known-batch t c b ∙ h.uploaded) (is-holder t c q.actor.authorisation h.holder) (free-unlocked t c b h.unlocked)
        ∙ ap reply.LockedNow (count-circulating t c b ∙ sym count)

-- a pack that is stolen was last reported so
stolen-last : (p : Pack) (q : Question) (r : Reply) → (names p (pack_of q) && accepts q r) ≡ true → is_stolen (own_given q) ≡ true → theft_done p q r ≡ true
stolen-last p (OfPack Theft s) reply.MarkedStolen h is = first_so (same_pack p s) true h
stolen-last p (OfPack Theft s) r h is = let none : false ≡ true = second_so (same_pack p s) false h in cc
stolen-last p (OfPack (Decommission reason.Supply) s) r h is = let none : false ≡ true = is in cc
stolen-last p (OfPack (Decommission reason.Hold) s) r h is = let none : false ≡ true = is in cc
stolen-last p (OfPack (Decommission reason.Export) s) r h is = let none : false ≡ true = is in cc
stolen-last p (OfPack (Decommission reason.Sample) s) r h is = let none : false ≡ true = is in cc
stolen-last p (OfPack (Decommission reason.Destroy) s) r h is = let none : false ≡ true = is in cc
stolen-last p q r h is = let none : false ≡ true = is in cc

-- the law of theft reports
pub theft-exact : (t : List Entry) (q : Put) (p : Pack) → q.question ≡ OfPack Theft p → (reply_of t q ≡ reply.MarkedStolen) ↔ ((q.actor.role ≡ role.Holder) × IsReportable t p q.actor.authorisation)
theft-exact t q p is = (forward, backward)
  where
    forward : reply_of t q ≡ reply.MarkedStolen → (q.actor.role ≡ role.Holder) × IsReportable t p q.actor.authorisation
    forward h =
        let given : IsReply t q.moment q.actor (OfPack Theft p) reply.MarkedStolen = sym h ∙ reply-question t q (OfPack Theft p) is in
        let pack = theft-tells t q.moment q.actor p given in
        let by = known-by t p pack.0 pack.1 in
        let P : Option Entry → Type 0 = λ o. IsSomeAnd o (λ m. IsFalse (steals p m)) in (
          a-holder q.actor.role (may-tells t q.moment q.actor (OfPack Theft p) _ (λ e. cc) given),
          record {
            holder = held t p.code q.actor.authorisation (theft-holder t q.moment q.actor p given);
            uploaded = sym (known-uploaded t p) ∙ ap is_some pack.1;
            not_stolen = subst P (sym by.marked ∙ sym (last-operation t p))
                (never _ (λ s. sym (stolen-by p _ _ s) ∙ sym (ap (λ z. is_stolen z.own) by.known) ∙ pack.2));
          },
        )

    not_stolen : (k : Known) → KnownBy t p k → IsSomeAnd (last_operation t p) (λ m. IsFalse (steals p m)) → is_stolen k.own ≡ false
    not_stolen k by h =
        let P : Option Entry → Type 0 = λ o. IsSomeAnd o (λ m. IsFalse (steals p m)) in
        let last : steals p by.last ≡ false = subst P (last-operation t p ∙ by.marked) h in
        let marks : is_mark p by.last ≡ true = find-passes (is_mark p) (reverse t) by.last by.marked in
        ap (λ z. is_stolen z.own) by.known
        ∙ never _ (λ s. sym (stolen-last p by.last.put.question by.last.reply marks s) ∙ last)

    backward : (q.actor.role ≡ role.Holder) × IsReportable t p q.actor.authorisation → reply_of t q ≡ reply.MarkedStolen
    backward (by, h) =
        let pack = is-some (known t p) (known-uploaded t p ∙ h.uploaded) in
        reply-admitted t q (OfPack Theft p) is (ap (may_ask q.actor.role) is ∙ ap is_holder by)
        ∙ ap (λ o. on_pack o (reply.Refused refusal.Unknown) (λ k. theft_reply q.actor (holder_of t p.code) k)) pack.1
        ∙ reported q.actor (holder_of t p.code) pack.0 (is-holder t p.code q.actor.authorisation h.holder) (not_stolen pack.0 (known-by t p pack.0 pack.1) h.not_stolen)
      where
        reported : (a : Actor) (holder : Option Name) (k : Known) → is_held_by holder a.authorisation ≡ true → is_stolen k.own ≡ false → theft_reply a holder k ≡ reply.MarkedStolen
        reported a holder k held free = rw (held, free) refl
