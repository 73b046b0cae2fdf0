-- The mark of a known pack.
use Rattle.std.proofs.Common.{◌≡◌, Bool, true, false, ◌&&◌, ◌||◌, cond, List, [], ◌∷◌, reverse, Option, Some, None, IsSomeAnd, refl, sym, ap, subst, ◌∙◌}
use Rattle.std.proofs.lemmas.List.{reverse-append}
use Rattle.std.proofs.lemmas.List.Folds.{find-append}
use Rattle.std.specs.Cmp.{first_so, second_so}
use Rattle.std.specs.Cmp.Derive.{both_true}
use Rattle.std.specs.List.{find, list_any}
use Rattle.std.specs.Option.{is_some, option_or, unwrap_or}
use Rattle.nmvs_identifier.specs.Batch.{Batch}
use Rattle.nmvs_identifier.specs.Expiry.{Expiry}
use Rattle.nmvs_identifier.specs.declared.pack.Pack.{Pack}
use Rattle.nmvs_rules.specs.declared.question.Question.{Question}
use Rattle.nmvs_rules.specs.declared.question.Question.TheVariants.{Upload}
use Rattle.nmvs_rules.specs.declared.entry.Entry.{Entry}
use Rattle.nmvs_rules.specs.declared.facts.Known.{Known}
use Rattle.nmvs_rules.specs.Trail.{born, mark, mark_place, mark_after, known, known_from, known_at, is_mark, is_about, is_upload, own_given}
use Rattle.nmvs_rules.specs.Operations.{uploads}
use Rattle.nmvs_rules.specs.Laws.{IsUploadedWith}
use Rattle.nmvs_rules.proofs.Accepted.{accepted_upload, first-upload}
use Rattle.nmvs_rules.proofs.FindLemmas.{find-passes, find-any, from-some}

some-or : {X : Type 0} (o : Option X) (b : Bool) (x : X) → is_some (option_or o (cond b (Some x) None)) ≡ (b || is_some o)
some-or None true x = refl
some-or None false x = refl
some-or (Some y) true x = refl
some-or (Some y) false x = refl

-- a list has a last element that passes exactly if some element passes
pub is_some-find-reverse : {X : Type 0} (p : X → Bool) (xs : List X) → is_some (find p (reverse xs)) ≡ list_any p xs
is_some-find-reverse p [] = refl
is_some-find-reverse {X} p (x ∷ xs) =
    ap (λ z. is_some (find p z)) (reverse-append {A = X} (x ∷ []) xs)
    ∙ ap is_some (find-append p (reverse xs) (x ∷ []))
    ∙ some-or (find p (reverse xs)) (p x) x
    ∙ ap (λ b. p x || b) (is_some-find-reverse p xs)

-- an option that is some has a value
pub is-some : {X : Type 0} (o : Option X) → is_some o ≡ true → (x : X) × (o ≡ Some x)
is-some None h = cc
is-some (Some x) h = (x, refl)

-- a pack that was uploaded has a mark
pub mark-of-born : (t : List Entry) (p : Pack) (u : Entry) → born t p ≡ Some u → (m : Entry) × (mark t p ≡ Some m)
mark-of-born t p u h =
    let passes : accepted_upload p u ≡ true = find-passes (accepted_upload p) t u h in
    let about = second_so (is_upload u.put.question) _ (first_so _ _ passes) in
    let marks : is_mark p u ≡ true = both_true about (second_so (is_upload u.put.question && is_about p u) _ passes) in
    is-some (mark t p) (is_some-find-reverse (is_mark p) t ∙ find-any (accepted_upload p) (is_mark p) t u h marks)

-- the entries that a known pack is known by
pub record KnownBy (t : List Entry) (p : Pack) (k : Known) : Type 0 where
  pub upload : Entry
  pub pack : Pack
  pub last : Entry
  pub born : born t p ≡ Some upload
  pub question : upload.put.question ≡ Upload pack k.batch k.expiry
  pub marked : mark t p ≡ Some last
  pub known : k ≡ record { batch = k.batch; expiry = k.expiry; own = own_given last.put.question; mark = mark_after (mark_place t p) last }

known_at-by : (t : List Entry) (p : Pack) (u m : Entry) (q : Question) (k : Known) → u.put.question ≡ q → born t p ≡ Some u → mark t p ≡ Some m → known_at t p m q ≡ Some k → KnownBy t p k
known_at-by t p u m (Upload r b x) k is birth marked h =
    let P : Known → Type 0 = λ k. KnownBy t p k in
    let made : Known = record { batch = b; expiry = x; own = own_given m.put.question; mark = mark_after (mark_place t p) m } in
    let same : made ≡ k = cc in
    subst P same (record { upload = u; pack = r; last = m; born = birth; question = is; marked = marked; known = refl })
known_at-by t p u m q k is birth marked h = cc

-- the values known of a pack comes from its first accepted upload and its mark
pub known-by : (t : List Entry) (p : Pack) (k : Known) → known t p ≡ Some k → KnownBy t p k
known-by t p k h = by (born t p) refl h
  where
    by : (o : Option Entry) → born t p ≡ o → known_from t p o ≡ Some k → KnownBy t p k
    by None birth is = cc
    by (Some u) birth is =
        let marked = mark-of-born t p u birth in
        known_at-by t p u marked.0 u.put.question k refl birth marked.1
        (ap (λ m. known_at t p (unwrap_or m u) u.put.question) (sym marked.1) ∙ is)

-- the values known of a pack that was uploaded and marked
pub known-made : (t : List Entry) (p r : Pack) (u m : Entry) (b : Batch) (x : Expiry) → born t p ≡ Some u → u.put.question ≡ Upload r b x → mark t p ≡ Some m → known t p ≡ Some (record { batch = b; expiry = x; own = own_given m.put.question; mark = mark_after (mark_place t p) m })
known-made t p r u m b x birth question marked =
    ap (known_from t p) birth
    ∙ ap (λ o. known_at t p (unwrap_or o u) u.put.question) marked
    ∙ ap (known_at t p m) question

-- the upload of a known pack, and of a pack that was uploaded
pub uploaded-with : (t : List Entry) (p : Pack) (k : Known) → KnownBy t p k → IsUploadedWith t p k.batch k.expiry
uploaded-with t p k by =
    let P : Option Entry → Type 0 = λ o. IsSomeAnd o (λ u. (r : Pack) × (u.put.question ≡ Upload r k.batch k.expiry)) in
    subst P (sym by.born ∙ sym (first-upload t p)) (by.pack, by.question)

-- the first upload of a pack, in the words of the laws, is the one that made it known
pub birth-of : (t : List Entry) (p : Pack) (b : Batch) (x : Expiry) → IsUploadedWith t p b x → (u : Entry) × (born t p ≡ Some u) × ((r : Pack) × (u.put.question ≡ Upload r b x))
birth-of t p b x h = let found = from-some (find (uploads p) t) _ h in (found.0, sym (first-upload t p) ∙ found.1, found.2)
