-- The state of a product code rests on its own entries.
use Rattle.std.proofs.Common.{◌≡◌, ℕ, ◌+◌, Bool, true, false, ◌&&◌, cond, ◌||◌, zero-add, List, [], ◌∷◌, ◌++◌, reverse, Option, Some, None, refl, sym, ap, ◌∙◌}
use Rattle.std.proofs.lemmas.List.{reverse-append}
use Rattle.std.proofs.lemmas.List.Elements.{filter-append}
use Rattle.std.specs.Cmp.{first_so, second_so}
use Rattle.std.specs.List.{find, filter, list_any, count_by}
use Rattle.std.specs.Option.{option_map, option_map_or, unwrap_or, is_some}
use Rattle.nmvs_identifier.specs.ProductCode.{ProductCode}
use Rattle.nmvs_identifier.specs.Batch.{Batch}
use Rattle.nmvs_identifier.specs.Texts.{same_text}
use Rattle.nmvs_identifier.specs.declared.pack.Pack.{Pack}
use Rattle.nmvs_rules.specs.declared.actor.Actor.{Actor}
use Rattle.nmvs_rules.specs.declared.question.Question.{Question}
use Rattle.nmvs_rules.specs.declared.question.Question.TheVariants.{Upload, OfPack, OfBatch}
use Rattle.nmvs_rules.specs.declared.pack_question.PackQuestion.TheVariants.{Verify, Status, Decommission, Handover, Revert, Theft, Audit}
use Rattle.nmvs_rules.specs.declared.batch_question.BatchQuestion.TheVariants.{Recall, Withdraw}
use Rattle.nmvs_rules.specs.declared.entry.Entry.{Entry}
use Rattle.nmvs_rules.specs.declared.facts.Known.{Known}
use Rattle.nmvs_rules.specs.declared.reply.Reply.{Reply}
use Rattle.nmvs_rules.specs.declared.reply.Reply.TheVariants as reply
use Rattle.nmvs_rules.specs.declared.refusal.Refusal.TheVariants as refusal
use Rattle.nmvs_rules.specs.declared.own_status.OwnStatus.{OwnStatus}
use Rattle.nmvs_rules.specs.declared.own_status.OwnStatus.TheVariants as own
use Rattle.nmvs_rules.specs.declared.batch_lock.BatchLock.{BatchLock}
use Rattle.nmvs_rules.specs.declared.batch_lock.BatchLock.TheVariants as lock
use Rattle.nmvs_rules.specs.declared.put.Put.{Put}
use Rattle.nmvs_rules.specs.Questions.{may_ask, pack_of, code_of, names}
use Rattle.nmvs_rules.specs.Trail.{born, mark, known, known_from, known_at, is_mark, is_about, has_code, is_accepted, alerts_of, holder_of, about_of, own_given, lock_of, lock_by, locks_batch, uploads_batch, is_birth_in, is_known_batch, count_of, stands_at, is_own}
use Rattle.nmvs_rules.specs.Rules.{on_pack, lock_on, revert_reply, verify_reply, status_reply, decommission_reply, handover_reply, theft_reply, lock_reply, upload_reply, alert_unknown, has_other_holder, admitted_reply, reply_of}
use Rattle.nmvs_rules.specs.Laws.{part_of}
use Rattle.nmvs_rules.proofs.PushLemmas.{count_by-cons}
use Rattle.nmvs_rules.proofs.TextLemmas.{same_text-equal}

module _ {X : Type 0} (p c : X → Bool) (within : (x : X) → p x ≡ true → c x ≡ true) where
  find-filter : (xs : List X) → find p (filter c xs) ≡ find p xs
  find-filter [] = refl
  find-filter (x ∷ xs) = by (p x) (c x) refl refl (find-filter xs)
    where
      by : (a b : Bool) → p x ≡ a → c x ≡ b → find p (filter c xs) ≡ find p xs → find p (filter c (x ∷ xs)) ≡ find p (x ∷ xs)
      by a true h k rest = rw k (ap (cond (p x) (Some x)) rest)
      by true false h k rest = let both : true ≡ false = sym (within x h) ∙ k in cc
      by false false h k rest = rw (k, h) rest

  pub list_any-filter : (xs : List X) → list_any p (filter c xs) ≡ list_any p xs
  list_any-filter [] = refl
  list_any-filter (x ∷ xs) = by (p x) (c x) refl refl (list_any-filter xs)
    where
      by : (a b : Bool) → p x ≡ a → c x ≡ b → list_any p (filter c xs) ≡ list_any p xs → list_any p (filter c (x ∷ xs)) ≡ list_any p (x ∷ xs)
      by a true h k rest = rw k (ap (λ z. p x || z) rest)
      by true false h k rest = let both : true ≡ false = sym (within x h) ∙ k in cc
      by false false h k rest = rw (k, h) rest

  pub count_by-filter : (xs : List X) → count_by p (filter c xs) ≡ count_by p xs
  count_by-filter [] = refl
  count_by-filter (x ∷ xs) = by (p x) (c x) refl refl (count_by-filter xs)
    where
      by : (a b : Bool) → p x ≡ a → c x ≡ b → count_by p (filter c xs) ≡ count_by p xs → count_by p (filter c (x ∷ xs)) ≡ count_by p (x ∷ xs)
      by a true h k rest = rw k (count_by-cons p x (filter c xs) ∙ ap (λ n. cond (p x) 1 0 + n) rest ∙ sym (count_by-cons p x xs))
      by true false h k rest = let both : true ≡ false = sym (within x h) ∙ k in cc
      by false false h k rest = rw k (rest ∙ sym (zero-add (count_by p xs)) ∙ ap (λ b. cond b 1 0 + count_by p xs) (sym h) ∙ sym (count_by-cons p x xs))

reverse_one : {X : Type 0} (c : X → Bool) (x : X) (b : Bool) → reverse {A = X} (cond b (x ∷ []) []) ≡ cond b (x ∷ []) []
reverse_one c x true = refl
reverse_one c x false = refl

reverse-filter : {X : Type 0} (c : X → Bool) (xs : List X) → reverse (filter c xs) ≡ filter c (reverse xs)
reverse-filter c [] = refl
reverse-filter {X} c (x ∷ xs) =
    ap reverse (filter-append {X = X} c (x ∷ []) xs)
    ∙ reverse-append (filter {X = X} c (x ∷ [])) (filter c xs)
    ∙ ap (λ z. reverse (filter c xs) ++ z) (reverse_one c x (c x))
    ∙ ap (λ z. z ++ filter {X = X} c (x ∷ [])) (reverse-filter c xs)
    ∙ sym (filter-append c (reverse xs) (x ∷ []))
    ∙ ap (filter c) (sym (reverse-append {A = X} (x ∷ []) xs))

-- an entry about a pack has its code
about-code : (p : Pack) (e : Entry) → is_about p e ≡ true → has_code p.code e ≡ true
about-code p e h = by e.put.question h
  where
    by : (q : Question) → names p (pack_of q) ≡ true → same_text p.code (code_of q) ≡ true
    by (OfBatch _ c b) n = cc
    by (Upload r _ _) n = first_so _ _ n
    by (OfPack _ r) n = first_so _ _ n

born-code : (t : List Entry) (p : Pack) → born (part_of t p.code) p ≡ born t p
born-code t p = find-filter _ (has_code p.code) (λ e h. about-code p e (second_so _ _ (first_so _ _ h))) t

mark-code : (t : List Entry) (p : Pack) → mark (part_of t p.code) p ≡ mark t p
mark-code t p =
    ap (find (is_mark p)) (reverse-filter (has_code p.code) t)
    ∙ find-filter (is_mark p) (has_code p.code) (λ e h. about-code p e (first_so _ _ h)) (reverse t)

alerts-code : (t : List Entry) (c : ProductCode) → alerts_of (part_of t c) c ≡ alerts_of t c
alerts-code t c = count_by-filter _ (has_code c) (λ e h. first_so _ _ h) t

about-filter : (t : List Entry) (p : Pack) → about_of (part_of t p.code) p ≡ about_of t p
about-filter t p = count_by-filter (is_about p) (has_code p.code) (λ e h. about-code p e h) t

holder-code : (t : List Entry) (c : ProductCode) → holder_of (part_of t c) c ≡ holder_of t c
holder-code t c = ap (option_map (λ e. e.put.actor.authorisation)) (find-filter _ (has_code c) (λ e h. second_so _ _ (first_so _ _ h)) t)

-- the values known of a pack, but for the place of its mark
abbrev forget : Known → Known
forget k = record k { mark = record k.mark { place = 0 } }

forget_at : (t u : List Entry) (p : Pack) (m : Entry) (q : Question) → option_map forget (known_at u p m q) ≡ option_map forget (known_at t p m q)
forget_at t u p m (Upload _ _ _) = refl
forget_at t u p m q = refl

forget_from : (t u : List Entry) (p : Pack) (o : Option Entry) → mark u p ≡ mark t p → option_map forget (known_from u p o) ≡ option_map forget (known_from t p o)
forget_from t u p None m = refl
forget_from t u p (Some first) m =
    ap (λ k. option_map forget (known_at u p (unwrap_or k first) first.put.question)) m ∙ forget_at t u p (unwrap_or (mark t p) first) first.put.question

known-code : (t : List Entry) (p : Pack) → option_map forget (known (part_of t p.code) p) ≡ option_map forget (known t p)
known-code t p =
    ap (λ o. option_map forget (known_from (part_of t p.code) p o)) (born-code t p)
    ∙ forget_from t (part_of t p.code) p (born t p) (mark-code t p)

-- a reply that does not read the place of the mark
on_pack-forget : (o : Option Known) (u : Reply) (f : Known → Reply) → ((k : Known) → f (forget k) ≡ f k) → on_pack (option_map forget o) u f ≡ on_pack o u f
on_pack-forget None u f h = refl
on_pack-forget (Some k) u f h = h k

locks-code : (c : ProductCode) (b : Batch) (q : Question) → locks_batch c b q ≡ true → same_text c (code_of q) ≡ true
locks-code c b (OfBatch _ d e) h = first_so _ _ h
locks-code c b q h = cc

uploads-code : (c : ProductCode) (b : Batch) (q : Question) → uploads_batch c b q ≡ true → same_text c (code_of q) ≡ true
uploads-code c b (Upload p d x) h = first_so _ _ h
uploads-code c b q h = cc

lock-code : (t : List Entry) (c : ProductCode) (b : Batch) → lock_of (part_of t c) c b ≡ lock_of t c b
lock-code t c b =
    ap (λ o. option_map_or (λ e. lock_by e.put.question) o lock.Free) (find-filter (λ e. locks_batch c b e.put.question && is_accepted e) (has_code c) (λ e h. locks-code c b e.put.question (first_so _ _ h)) t)

known_batch-code : (t : List Entry) (c : ProductCode) (b : Batch) → is_known_batch (part_of t c) c b ≡ is_known_batch t c b
known_batch-code t c b = list_any-filter (is_birth_in c b) (has_code c) (λ e h. uploads-code c b e.put.question (first_so _ _ h)) t

-- an entry counts alike on the trail and on the code's part of it
stands-code : (t : List Entry) (c : ProductCode) (b : Batch) (s : OwnStatus) (q : Question) (a : Bool) → (uploads_batch c b q && a && stands_at (part_of t c) s (pack_of q)) ≡ (uploads_batch c b q && a && stands_at t s (pack_of q))
stands-code t c b s (Upload p d x) a = by (same_text c p.code) refl
  where
    by : (v : Bool) → same_text c p.code ≡ v → ((same_text c p.code && same_text b d) && a && stands_at (part_of t c) s (Some p)) ≡ ((same_text c p.code && same_text b d) && a && stands_at t s (Some p))
    by true h = ap (λ o. (same_text c p.code && same_text b d) && a && is_own s (option_map (λ m. own_given m.put.question) o)) (ap (λ f. mark (filter f t) p) (ap has_code (same_text-equal c p.code h)) ∙ mark-code t p)
    by false h = rw h refl
stands-code t c b s q a = refl

count-code : (t : List Entry) (c : ProductCode) (b : Batch) (s : OwnStatus) → count_of (part_of t c) c b s ≡ count_of t c b s
count-code t c b s =
    (λ j. count_by (λ e. stands-code t c b s e.put.question (is_accepted e) j) (part_of t c))
    ∙ count_by-filter (λ e. is_birth_in c b e && stands_at t s (pack_of e.put.question)) (has_code c) (λ e h. uploads-code c b e.put.question (first_so _ _ (first_so _ _ h))) t

on_pack-code : (t u : List Entry) (p : Pack) (un : Reply) (f : Known → BatchLock → Reply) → option_map forget (known u p) ≡ option_map forget (known t p) → ((b : Batch) → lock_of u p.code b ≡ lock_of t p.code b) → ((k : Known) (l : BatchLock) → f (forget k) l ≡ f k l) → on_pack (known u p) un (λ k. f k (lock_on u p k)) ≡ on_pack (known t p) un (λ k. f k (lock_on t p k))
on_pack-code t u p un f same locks h =
    (λ j. on_pack (known u p) un (λ k. f k (locks k.batch j)))
    ∙ sym (on_pack-forget (known u p) un (λ k. f k (lock_on t p k)) (λ k. h k (lock_on t p k)))
    ∙ ap (λ o. on_pack o un (λ k. f k (lock_on t p k))) same
    ∙ on_pack-forget (known t p) un (λ k. f k (lock_on t p k)) (λ k. h k (lock_on t p k))

is_some-forget : (o : Option Known) → is_some (option_map forget o) ≡ is_some o
is_some-forget None = refl
is_some-forget (Some k) = refl

admitted_reply-code : (t : List Entry) (n : ℕ) (a : Actor) (q : Question) → admitted_reply (part_of t (code_of q)) n a q ≡ admitted_reply t n a q
admitted_reply-code t n a (Upload p b x) =
    ap (λ h. upload_reply a h (known (part_of t p.code) p)) (holder-code t p.code)
    ∙ ap (λ s. cond (has_other_holder (holder_of t p.code) a.authorisation) (reply.Refused refusal.NotHolder) (cond s (reply.Refused refusal.Duplicate) reply.Uploaded)) (sym (is_some-forget (known (part_of t p.code) p)) ∙ ap is_some (known-code t p) ∙ is_some-forget (known t p))
admitted_reply-code t n a (OfPack Verify p) =
    ap (λ m. on_pack (known (part_of t p.code) p) (alert_unknown m) (λ k. verify_reply n k (lock_on (part_of t p.code) p k) m)) (alerts-code t p.code)
    ∙ on_pack-code t (part_of t p.code) p _ (λ k l. verify_reply n k l (alerts_of t p.code)) (known-code t p) (lock-code t p.code) (λ k l. refl)
admitted_reply-code t n a (OfPack Status p) = on_pack-code t (part_of t p.code) p _ (λ k l. status_reply k l) (known-code t p) (lock-code t p.code) (λ k l. refl)
admitted_reply-code t n a (OfPack (Decommission r) p) =
    ap (λ m. on_pack (known (part_of t p.code) p) (alert_unknown m) (λ k. decommission_reply k (lock_on (part_of t p.code) p k) m)) (alerts-code t p.code)
    ∙ on_pack-code t (part_of t p.code) p _ (λ k l. decommission_reply k l (alerts_of t p.code)) (known-code t p) (lock-code t p.code) (λ k l. refl)
admitted_reply-code t n a (OfPack Handover p) = on_pack-code t (part_of t p.code) p _ (λ k l. handover_reply a k l) (known-code t p) (lock-code t p.code) (λ k l. refl)
admitted_reply-code t n a (OfPack Revert p) = on_pack-code t (part_of t p.code) p _ (λ k l. revert_reply n a k l) (known-code t p) (lock-code t p.code) (λ k l. refl)
admitted_reply-code t n a (OfBatch Recall c b) =
    (λ j. lock_reply a (known_batch-code t c b j) (holder-code t c j) (lock-code t c b j) (count-code t c b own.Active j))
admitted_reply-code t n a (OfBatch Withdraw c b) =
    (λ j. lock_reply a (known_batch-code t c b j) (holder-code t c j) (lock-code t c b j) (count-code t c b own.Active j))
admitted_reply-code t n a (OfPack Theft p) =
    ap (λ h. on_pack (known (part_of t p.code) p) (reply.Refused refusal.Unknown) (λ k. theft_reply a h k)) (holder-code t p.code)
    ∙ on_pack-code t (part_of t p.code) p _ (λ k l. theft_reply a (holder_of t p.code) k) (known-code t p) (lock-code t p.code) (λ k l. refl)
admitted_reply-code t n a (OfPack Audit p) = ap reply.Shown (about-filter t p)

-- a reply rests on the entries of its product code
pub reply-code : (t : List Entry) (q : Put) → reply_of (part_of t (code_of q.question)) q ≡ reply_of t q
reply-code t q = ap (λ r. cond (may_ask q.actor.role q.question) r (reply.Refused refusal.Role)) (admitted_reply-code t q.moment q.actor q.question)
