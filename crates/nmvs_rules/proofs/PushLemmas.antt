-- The changes by one more entry.
use Rattle.std.proofs.Common.{◌≡◌, ℕ, ◌+◌, ◌-◌, Bool, true, false, not, ◌&&◌, ◌||◌, cond, List, [], ◌∷◌, ◌++◌, length, Option, Some, None, refl, ap, ◌∙◌, arith, length-append, zero-add}
use Rattle.std.proofs.lemmas.List.{reverse-append}
use Rattle.std.proofs.lemmas.List.Folds.{find-append, list_any-append}
use Rattle.std.proofs.lemmas.List.Sums.{sum_by-append}
use Rattle.std.specs.Cmp.{first_so}
use Rattle.std.specs.List.{find, suffix_len, prefix_len, count_by}
use Rattle.std.specs.Option.{option_or, option_map, option_map_or, unwrap_or}
use Rattle.nmvs_identifier.specs.ProductCode.{ProductCode}
use Rattle.nmvs_identifier.specs.Batch.{Batch}
use Rattle.nmvs_identifier.specs.declared.pack.Pack.{Pack}
use Rattle.nmvs_rules.specs.declared.question.Question.{Question}
use Rattle.nmvs_rules.specs.declared.question.Question.TheVariants.{Upload, OfBatch}
use Rattle.nmvs_rules.specs.declared.batch_question.BatchQuestion.TheVariants.{Recall, Withdraw}
use Rattle.nmvs_rules.specs.declared.entry.Entry.{Entry}
use Rattle.nmvs_rules.specs.declared.batch_lock.BatchLock.TheVariants as lock
use Rattle.nmvs_rules.specs.Trail.{last, born, mark, mark_place, known, known_from, known_at, is_mark, is_upload, is_about, is_accepted, has_code, is_alert, alerts_of, about_of, marked_by, born_by, known_after, is_birth_in, is_known_batch, holder_of, lock_of, lock_by, locks_batch}
use Rattle.nmvs_rules.specs.Rules.{is_free}
use Rattle.nmvs_rules.proofs.FindLemmas.{find-passes}

pub find-push : {X : Type 0} (p : X → Bool) (xs : List X) (x : X) → find p (xs ++ x ∷ []) ≡ option_or (find p xs) (cond (p x) (Some x) None)
find-push p xs x = find-append p xs (x ∷ [])

pub last-push : (p : Entry → Bool) (t : List Entry) (e : Entry) → last p (t ++ e ∷ []) ≡ cond (p e) (Some e) (last p t)
last-push p t e = ap (find p) (reverse-append t (e ∷ []))

-- the run at the end of a list, after one more element
pub suffix_len-push : {X : Type 0} (p : X → Bool) (xs : List X) (x : X) → suffix_len p (xs ++ x ∷ []) ≡ cond (p x) (1 + suffix_len p xs) 0
suffix_len-push p xs x = ap (prefix_len p) (reverse-append xs (x ∷ []))

-- a count after one more element at the end
pub count_by-push : {X : Type 0} (p : X → Bool) (xs : List X) (x : X) → count_by p (xs ++ x ∷ []) ≡ count_by p xs + cond (p x) 1 0
count_by-push {X} p xs x = sum_by-append (λ y. cond (p y) 1 0) xs (x ∷ []) ∙ ap (λ n. count_by {X = X} p xs + n) (zero-add (cond (p x) 1 0))

-- and after one more at the front
pub count_by-cons : {X : Type 0} (p : X → Bool) (x : X) (xs : List X) → count_by p (x ∷ xs) ≡ cond (p x) 1 0 + count_by p xs
count_by-cons {X} p x xs = sum_by-append (λ y. cond (p y) 1 0) (x ∷ []) xs ∙ ap (λ n. n + count_by {X = X} p xs) (zero-add (cond (p x) 1 0))

-- the first accepted upload of a pack, after one more entry
pub born-push : (t : List Entry) (e : Entry) (p : Pack) → born (t ++ e ∷ []) p ≡ option_or (born t p) (cond ((is_upload e.put.question && is_about p e) && is_accepted e) (Some e) None)
born-push t e p = find-push _ t e

-- the mark of a pack, after one more entry
pub mark-push : (t : List Entry) (e : Entry) (p : Pack) → mark (t ++ e ∷ []) p ≡ cond (is_mark p e) (Some e) (mark t p)
mark-push t e p = last-push (is_mark p) t e

-- the number of entries about a pack, after one more
pub about_of-push : (t : List Entry) (e : Entry) (p : Pack) → about_of (t ++ e ∷ []) p ≡ about_of t p + cond (is_about p e) 1 0
about_of-push t e p = count_by-push (is_about p) t e

-- the number of alerts on a product code, after one more entry
pub alerts_of-push : (t : List Entry) (e : Entry) (c : ProductCode) → alerts_of (t ++ e ∷ []) c ≡ alerts_of t c + cond (has_code c e && is_alert e.reply) 1 0
alerts_of-push t e c = count_by-push (λ x. has_code c x && is_alert x.reply) t e

-- whether a batch is known, after one more entry
pub is_known_batch-push : (t : List Entry) (e : Entry) (c : ProductCode) (b : Batch) → is_known_batch (t ++ e ∷ []) c b ≡ (is_known_batch t c b || (is_birth_in c b e || false))
is_known_batch-push t e c b = list_any-append (is_birth_in c b) t (e ∷ [])

place_arith : (b : Bool) (n s s' m : ℕ) → m ≡ n + 1 → s' ≡ cond (not b) (1 + s) 0 → m - s' - 1 ≡ cond b n (n - s - 1)
place_arith true n s s' m e f = omega arith
place_arith false n s s' m e f = omega arith

pub mark_place-push : (t : List Entry) (e : Entry) (p : Pack) → mark_place (t ++ e ∷ []) p ≡ cond (is_mark p e) (length t) (mark_place t p)
mark_place-push t e p =
    place_arith (is_mark p e) (length t) (suffix_len (λ x. not (is_mark p x)) t) _ _ (length-append t (e ∷ [])) (suffix_len-push (λ x. not (is_mark p x)) t e)

-- a pack that was known stays known, with the new mark
known_at-push : (t u : List Entry) (p : Pack) (e first : Entry) (n : ℕ) (b : Bool) (q : Question) → is_upload q ≡ true → mark u p ≡ cond b (Some e) (mark t p) → mark_place u p ≡ cond b n (mark_place t p) → known_at u p (unwrap_or (mark u p) first) q ≡ cond b (marked_by n e (known_at t p (unwrap_or (mark t p) first) q)) (known_at t p (unwrap_or (mark t p) first) q)
known_at-push t u p e first n true (Upload r b x) h m k = rw (m, k) refl
known_at-push t u p e first n false (Upload r b x) h m k = rw (m, k) refl
known_at-push t u p e first n b q h m k = cc

-- a pack that was not known is known by an accepted upload
known_from-birth : (t u : List Entry) (p : Pack) (e : Entry) (n : ℕ) (a c : Bool) (q : Question) → e.put.question ≡ q → mark u p ≡ cond (a && c) (Some e) (mark t p) → mark_place u p ≡ cond (a && c) n (mark_place t p) → known_from u p (cond ((is_upload q && a) && c) (Some e) None) ≡ cond (a && c) (born_by n e q) None
known_from-birth t u p e n true true (Upload r b x) is m k = rw (is, m, k, is) refl
known_from-birth t u p e n true false (Upload r b x) is m k = refl
known_from-birth t u p e n false c (Upload r b x) is m k = refl
known_from-birth t u p e n a c q is m k = refl

known_from-push : (t : List Entry) (e : Entry) (p : Pack) (o : Option Entry) → born t p ≡ o → known_from (t ++ e ∷ []) p (option_or o (cond ((is_upload e.put.question && is_about p e) && is_accepted e) (Some e) None)) ≡ known_after p (length t) e (known_from t p o)
known_from-push t e p None b =
    known_from-birth t (t ++ e ∷ []) p e (length t) (is_about p e) (is_accepted e) e.put.question refl (mark-push t e p) (mark_place-push t e p)
known_from-push t e p (Some first) b =
    let passes : ((is_upload first.put.question && is_about p first) && is_accepted first) ≡ true = find-passes _ t first b in
    known_at-push t (t ++ e ∷ []) p e first (length t) (is_mark p e) first.put.question (first_so _ _ (first_so _ _ passes)) (mark-push t e p) (mark_place-push t e p)

-- one more entry changes the values known of a pack by its mark alone
pub known-push : (t : List Entry) (e : Entry) (p : Pack) → known (t ++ e ∷ []) p ≡ known_after p (length t) e (known t p)
known-push t e p = ap (known_from (t ++ e ∷ []) p) (born-push t e p) ∙ known_from-push t e p (born t p) refl

holder-more : (o : Option Entry) (b : Bool) (e : Entry) → option_map (λ x. x.put.actor.authorisation) (option_or o (cond b (Some e) None)) ≡ option_or (option_map (λ x. x.put.actor.authorisation) o) (cond b (Some e.put.actor.authorisation) None)
holder-more None true e = refl
holder-more None false e = refl
holder-more (Some x) b e = refl

-- the first accepted upload of a product code gives its holder
pub holder_of-push : (t : List Entry) (e : Entry) (c : ProductCode) → holder_of (t ++ e ∷ []) c ≡ option_or (holder_of t c) (cond ((is_upload e.put.question && has_code c e) && is_accepted e) (Some e.put.actor.authorisation) None)
holder_of-push t e c =
    ap (option_map (λ x. x.put.actor.authorisation)) (find-push (λ x. (is_upload x.put.question && has_code c x) && is_accepted x) t e)
    ∙ holder-more (find (λ x. (is_upload x.put.question && has_code c x) && is_accepted x) t) _ e

-- a recall or withdrawal leaves no batch free
pub locks_batch-binds : (c : ProductCode) (b : Batch) (q : Question) → locks_batch c b q ≡ true → is_free (lock_by q) ≡ false
locks_batch-binds c b (OfBatch Recall d g) locks = refl
locks_batch-binds c b (OfBatch Withdraw d g) locks = refl
locks_batch-binds c b q locks = cc

lock-more : (o : Option Entry) (a : Bool) (e : Entry) → ((x : Entry) → o ≡ Some x → is_free (lock_by x.put.question) ≡ false) → option_map_or (λ x. lock_by x.put.question) (option_or o (cond a (Some e) None)) lock.Free ≡ cond (is_free (option_map_or (λ x. lock_by x.put.question) o lock.Free)) (cond a (lock_by e.put.question) lock.Free) (option_map_or (λ x. lock_by x.put.question) o lock.Free)
lock-more None true e binds = refl
lock-more None false e binds = refl
lock-more (Some x) a e binds = rw (binds x refl) refl

-- the first accepted recall or withdrawal of a batch binds it, and stays
pub lock_of-push : (t : List Entry) (e : Entry) (c : ProductCode) (b : Batch) → lock_of (t ++ e ∷ []) c b ≡ cond (is_free (lock_of t c b)) (cond (locks_batch c b e.put.question && is_accepted e) (lock_by e.put.question) lock.Free) (lock_of t c b)
lock_of-push t e c b =
    ap (λ o. option_map_or (λ x. lock_by x.put.question) o lock.Free) (find-push (λ x. locks_batch c b x.put.question && is_accepted x) t e)
    ∙ lock-more (find (λ x. locks_batch c b x.put.question && is_accepted x) t) _ e
    (λ x found. locks_batch-binds c b x.put.question (first_so _ _ (find-passes _ t x found)))
