-- A trail says the same without its tags.
use Rattle.std.proofs.Common.{◌≡◌, ◌∙◌, ◌↔◌, ℕ, ◌+◌, ◌-◌, Bool, true, false, not, ◌&&◌, ◌||◌, cond, List, [], ◌∷◌, ◌++◌, reverse, map, Option, Some, None, refl, sym, ap, subst, All, arith, suc}
use Rattle.std.proofs.lemmas.List.{map-append, length-map, reverse-append}
use Rattle.std.specs.List.{find, list_any, count_by, prefix_len}
use Rattle.std.specs.Option.{option_map, option_map_or, unwrap_or}
use Rattle.nmvs_identifier.specs.Batch.{Batch}
use Rattle.nmvs_identifier.specs.ProductCode.{ProductCode}
use Rattle.nmvs_identifier.specs.declared.pack.Pack.{Pack}
use Rattle.nmvs_rules.specs.declared.actor.Actor.{Actor}
use Rattle.nmvs_rules.specs.declared.batch_lock.BatchLock.TheVariants as lock
use Rattle.nmvs_rules.specs.declared.entry.Entry.{Entry}
use Rattle.nmvs_rules.specs.declared.facts.Known.{Known}
use Rattle.nmvs_rules.specs.declared.own_status.OwnStatus.{OwnStatus}
use Rattle.nmvs_rules.specs.declared.own_status.OwnStatus.TheVariants as own
use Rattle.nmvs_rules.specs.declared.put.Put.{Put}
use Rattle.nmvs_rules.specs.declared.question.Question.{Question}
use Rattle.nmvs_rules.specs.declared.question.Question.TheVariants.{Upload, OfPack, OfBatch}
use Rattle.nmvs_rules.specs.declared.pack_question.PackQuestion.TheVariants.{Verify, Status, Decommission, Handover, Revert, Theft, Audit}
use Rattle.nmvs_rules.specs.declared.batch_question.BatchQuestion.TheVariants.{Recall, Withdraw}
use Rattle.nmvs_rules.specs.declared.refusal.Refusal.TheVariants as refusal
use Rattle.nmvs_rules.specs.declared.repeat.Repeat.TheVariants as repeat
use Rattle.nmvs_rules.specs.declared.reply.Reply.TheVariants as reply
use Rattle.nmvs_rules.specs.Questions.{may_ask, pack_of}
use Rattle.nmvs_rules.specs.Trail.{is_accepted, is_upload, is_about, has_code, is_alert, born, is_mark, mark, mark_place, mark_after, own_of, own_given, lock_of, lock_by, locks_batch, holder_of, alerts_of, about_of, known_at, known_from, known, is_birth_in, is_known_batch, stands_at, is_own, count_of}
use Rattle.nmvs_rules.specs.Rules.{on_pack, alert_unknown, upload_reply, verify_reply, status_reply, decommission_reply, handover_reply, revert_reply, lock_reply, lock_on, theft_reply, admitted_reply, reply_of, IsLawfulAfter, IsLawful}
use Rattle.nmvs_rules.specs.Repeats.{untagged, without_tag, without_tags, repeat_by, AreNewAfter, AreNew}
use Rattle.nmvs_rules.proofs.PushLemmas.{count_by-cons}

-- the elements found and counted in a list whose elements were changed
module _ {X Y : Type 0} (f : X → Y) (p : Y → Bool) where
  find-changed : (xs : List X) → find p (map f xs) ≡ option_map f (find (λ x. p (f x)) xs)
  find-changed [] = refl
  find-changed (x ∷ xs) = by (p (f x)) _ _ (find-changed xs)
    where
      by : (b : Bool) (o : Option Y) (r : Option X) → o ≡ option_map f r → cond b (Some (f x)) o ≡ option_map f (cond b (Some x) r)
      by true o r h = refl
      by false o r h = h

  any-changed : (xs : List X) → list_any p (map f xs) ≡ list_any (λ x. p (f x)) xs
  any-changed [] = refl
  any-changed (x ∷ xs) = ap (λ b. p (f x) || b) (any-changed xs)

  prefix-changed : (xs : List X) → prefix_len p (map f xs) ≡ prefix_len (λ x. p (f x)) xs
  prefix-changed [] = refl
  prefix-changed (x ∷ xs) = ap (λ n. cond (p (f x)) (1 + n) 0) (prefix-changed xs)

  count-changed : (xs : List X) → count_by p (map f xs) ≡ count_by (λ x. p (f x)) xs
  count-changed [] = refl
  count-changed (x ∷ xs) =
      count_by-cons p (f x) (map f xs)
      ∙ ap (λ n. cond (p (f x)) 1 0 + n) (count-changed xs)
      ∙ sym (count_by-cons (λ y. p (f y)) x xs)

reverse-changed : {X Y : Type 0} (f : X → Y) (xs : List X) → reverse (map f xs) ≡ map f (reverse xs)
reverse-changed f [] = refl
reverse-changed f (x ∷ xs) =
    reverse-append (f x ∷ []) (map f xs)
    ∙ ap (λ l. l ++ f x ∷ []) (reverse-changed f xs)
    ∙ sym (ap (map f) (reverse-append (x ∷ []) xs) ∙ map-append f (reverse xs) (x ∷ []))

module _ (t : List Entry) where
  abbrev Bare : List Entry
  Bare = without_tags t

  born-untagged : (p : Pack) → born Bare p ≡ option_map untagged (born t p)
  born-untagged p = find-changed untagged (λ e. (is_upload e.put.question && is_about p e) && is_accepted e) t

  mark-untagged : (p : Pack) → mark Bare p ≡ option_map untagged (mark t p)
  mark-untagged p = ap (find (is_mark p)) (reverse-changed untagged t) ∙ find-changed untagged (is_mark p) (reverse t)

  place-untagged : (p : Pack) → mark_place Bare p ≡ mark_place t p
  place-untagged p =
      let run = ap (prefix_len (λ e. not (is_mark p e))) (reverse-changed untagged t) ∙ prefix-changed untagged (λ e. not (is_mark p e)) (reverse t) in
      λ i. length-map t untagged i - run i - 1

  own-untagged : (p : Pack) → own_of Bare p ≡ own_of t p
  own-untagged p = ap (option_map (λ m. own_given m.put.question)) (mark-untagged p) ∙ by (mark t p)
    where
      by : (o : Option Entry) → option_map (λ m. own_given m.put.question) (option_map untagged o) ≡ option_map (λ m. own_given m.put.question) o
      by None = refl
      by (Some m) = refl

  known_at-untagged : (p : Pack) (m : Entry) (q : Question) → known_at Bare p (untagged m) q ≡ known_at t p m q
  known_at-untagged p m (Upload r b x) =
      ap (λ n. Some (record { batch = b; expiry = x; own = own_given m.put.question; mark = mark_after n m })) (place-untagged p)
  known_at-untagged p m q = refl

  known_from-untagged : (p : Pack) (o : Option Entry) → known_from Bare p (option_map untagged o) ≡ known_from t p o
  known_from-untagged p None = refl
  known_from-untagged p (Some u) =
      ap (λ m. known_at Bare p (unwrap_or m (untagged u)) u.put.question) (mark-untagged p) ∙ by (mark t p)
    where
      by : (o : Option Entry) → known_at Bare p (unwrap_or (option_map untagged o) (untagged u)) u.put.question ≡ known_at t p (unwrap_or o u) u.put.question
      by None = known_at-untagged p u u.put.question
      by (Some m) = known_at-untagged p m u.put.question

  known-untagged : (p : Pack) → known Bare p ≡ known t p
  known-untagged p = ap (known_from Bare p) (born-untagged p) ∙ known_from-untagged p (born t p)

  lock-untagged : (c : ProductCode) (b : Batch) → lock_of Bare c b ≡ lock_of t c b
  lock-untagged c b = ap (λ o. option_map_or (λ e. lock_by e.put.question) o lock.Free) (find-changed untagged (λ e. locks_batch c b e.put.question && is_accepted e) t) ∙ by _
    where
      by : (o : Option Entry) → option_map_or (λ e. lock_by e.put.question) (option_map untagged o) lock.Free ≡ option_map_or (λ e. lock_by e.put.question) o lock.Free
      by None = refl
      by (Some e) = refl

  holder-untagged : (c : ProductCode) → holder_of Bare c ≡ holder_of t c
  holder-untagged c = ap (option_map (λ e. e.put.actor.authorisation)) (find-changed untagged (λ e. (is_upload e.put.question && has_code c e) && is_accepted e) t) ∙ by _
    where
      by : (o : Option Entry) → option_map (λ e. e.put.actor.authorisation) (option_map untagged o) ≡ option_map (λ e. e.put.actor.authorisation) o
      by None = refl
      by (Some e) = refl

  alerts-untagged : (c : ProductCode) → alerts_of Bare c ≡ alerts_of t c
  alerts-untagged c = count-changed untagged (λ e. has_code c e && is_alert e.reply) t

  about-untagged : (p : Pack) → about_of Bare p ≡ about_of t p
  about-untagged p = count-changed untagged (is_about p) t

  batch-untagged : (c : ProductCode) (b : Batch) → is_known_batch Bare c b ≡ is_known_batch t c b
  batch-untagged c b = any-changed untagged (is_birth_in c b) t

  stands-untagged : (s : OwnStatus) (o : Option Pack) → stands_at Bare s o ≡ stands_at t s o
  stands-untagged s None = refl
  stands-untagged s (Some p) = ap (is_own s) (own-untagged p)

  count-untagged : (c : ProductCode) (b : Batch) (s : OwnStatus) → count_of Bare c b s ≡ count_of t c b s
  count-untagged c b s =
      count-changed untagged (λ e. is_birth_in c b e && stands_at Bare s (pack_of e.put.question)) t
      ∙ ap (λ (f : Option Pack → Bool). count_by (λ e. is_birth_in c b e && f (pack_of e.put.question)) t) (λ i o. stands-untagged s o i)

  lock_on-untagged : (p : Pack) (k : Known) → lock_on Bare p k ≡ lock_on t p k
  lock_on-untagged p k = lock-untagged p.code k.batch

  admitted-untagged : (n : ℕ) (a : Actor) (q : Question) → admitted_reply Bare n a q ≡ admitted_reply t n a q
  admitted-untagged n a (Upload p b x) = λ i. upload_reply a (holder-untagged p.code i) (known-untagged p i)
  admitted-untagged n a (OfPack Verify p) =
      λ i. on_pack (known-untagged p i) (alert_unknown (alerts-untagged p.code i)) (λ k. verify_reply n k (lock_on-untagged p k i) (alerts-untagged p.code i))
  admitted-untagged n a (OfPack Status p) = λ i. on_pack (known-untagged p i) reply.NoPack (λ k. status_reply k (lock_on-untagged p k i))
  admitted-untagged n a (OfPack (Decommission r) p) =
      λ i. on_pack (known-untagged p i) (alert_unknown (alerts-untagged p.code i)) (λ k. decommission_reply k (lock_on-untagged p k i) (alerts-untagged p.code i))
  admitted-untagged n a (OfPack Handover p) =
      λ i. on_pack (known-untagged p i) (reply.Refused refusal.Unknown) (λ k. handover_reply a k (lock_on-untagged p k i))
  admitted-untagged n a (OfPack Revert p) =
      λ i. on_pack (known-untagged p i) (reply.Refused refusal.Unknown) (λ k. revert_reply n a k (lock_on-untagged p k i))
  admitted-untagged n a (OfBatch Recall c b) =
      λ i. lock_reply a (batch-untagged c b i) (holder-untagged c i) (lock-untagged c b i) (count-untagged c b own.Active i)
  admitted-untagged n a (OfBatch Withdraw c b) =
      λ i. lock_reply a (batch-untagged c b i) (holder-untagged c i) (lock-untagged c b i) (count-untagged c b own.Active i)
  admitted-untagged n a (OfPack Theft p) =
      λ i. on_pack (known-untagged p i) (reply.Refused refusal.Unknown) (λ k. theft_reply a (holder-untagged p.code i) k)
  admitted-untagged n a (OfPack Audit p) = ap reply.Shown (about-untagged p)

-- the reply of the rules is the same without the tags
pub reply-untagged : (t : List Entry) (q : Put) → reply_of (without_tags t) (without_tag q) ≡ reply_of t q
reply-untagged t q =
    ap (λ r. cond (may_ask q.actor.role q.question) r (reply.Refused refusal.Role)) (admitted-untagged t q.moment q.actor q.question)

lawful-bare : (u es : List Entry) → IsLawfulAfter u es → IsLawfulAfter (without_tags u) (without_tags es)
lawful-bare u [] lawful = tt
lawful-bare u (e ∷ es) lawful =
    let P : List Entry → Type 0 = λ t. IsLawfulAfter t (without_tags es) in
    (lawful.0 ∙ sym (reply-untagged u e.put), subst P (map-append untagged u (e ∷ [])) (lawful-bare (u ++ e ∷ []) es lawful.1))

bare-lawful : (u es : List Entry) → IsLawfulAfter (without_tags u) (without_tags es) → IsLawfulAfter u es
bare-lawful u [] lawful = tt
bare-lawful u (e ∷ es) lawful =
    let P : List Entry → Type 0 = λ t. IsLawfulAfter t (without_tags es) in
    (lawful.0 ∙ reply-untagged u e.put, bare-lawful (u ++ e ∷ []) es (subst P (sym (map-append untagged u (e ∷ []))) lawful.1))

-- a trail is lawful exactly if it is lawful without its tags
pub lawful-untagged : (t : List Entry) → IsLawful (without_tags t) ↔ IsLawful t
lawful-untagged t = (bare-lawful [] t, lawful-bare [] t)

no-tag : (t : List Entry) (q : Put) (o : Option Pack) → repeat_by t q o None ≡ repeat.New
no-tag t q None = refl
no-tag t q (Some p) = refl

new-untagged-after : (u es : List Entry) → All (λ e. e.put.tag ≡ None) es → AreNewAfter u es
new-untagged-after u [] all = tt
new-untagged-after u (e ∷ es) all =
    let tag : e.put.tag ≡ None = all 0 e (omega arith) in (
      ap (repeat_by u e.put (pack_of e.put.question)) tag ∙ no-tag u e.put (pack_of e.put.question),
      new-untagged-after (u ++ e ∷ []) es (λ k d within. all (suc k) d (omega (arith, within))),
    )

-- if no entry has a tag, each question was new
pub new-untagged : (t : List Entry) → All (λ e. e.put.tag ≡ None) t → AreNew t
new-untagged t all = new-untagged-after [] t all
