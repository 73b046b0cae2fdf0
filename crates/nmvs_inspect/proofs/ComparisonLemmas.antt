-- The places of the entries about a product code, and a walk along them.
use Rattle.std.proofs.Common.{◌≡◌, ◌⊎◌, inl, inr, ◌∙◌, refl, sym, ap, subst, arith, ℕ, zero, suc, ◌+◌, ◌≤◌, ◌<◌, Bool, true, false, not, cond, List, [], ◌∷◌, ◌++◌, length, take, drop, filter, get_or, set, slice_get, Option, Some, unwrap_or, append_assoc}
use Rattle.std.specs.List.{position_or_len}
use Rattle.std.proofs.lemmas.List.{take-append-drop, drop-drop, drop_more, drop_all, append-nil, get_or-set_same, get_or-set_other, length-set}
use Rattle.std.proofs.lemmas.List.Elements.{filter-append}
use Rattle.std.proofs.lemmas.Bool.{cases_eq}
use Rattle.std.proofs.lemmas.Option.{slice_get_within, get_or_from_slice_get}
use Rattle.nmvs_identifier.specs.ProductCode.{ProductCode}
use Rattle.nmvs_identifier.specs.Texts.{same_text}
use Rattle.nmvs_rules.specs.declared.entry.Entry.{Entry}
use Rattle.nmvs_rules.specs.Questions.{code_of}
use Rattle.nmvs_rules.specs.Trail.{has_code}
use Rattle.nmvs_rules.proofs.TextLemmas.{same_text-equal, same_text-refl, same_text-sym}
use Rattle.nmvs_tables.proofs.BoolLemmas.{not-so}
use Rattle.nmvs_inspect.specs.declared.comparison.Departure.{Departure}
use Rattle.nmvs_inspect.specs.declared.comparison.Walk.{Walk}
use Rattle.nmvs_inspect.specs.Comparison.{about, GoesOn, in_place, Departs, same_code, seek, head_of, AreNexts, StandsBefore, HasPassed}

-- before the first element that passes a test none passes
front-step : {X : Type 0} (p : X → Bool) (b : Bool) (x : X) (xs : List X) (n : ℕ) → p x ≡ b → filter p (drop n xs) ≡ filter p xs
    → filter p (drop (cond (not b) (1 + n) 0) (x ∷ xs)) ≡ filter p (x ∷ xs)
front-step p true x xs n is later = refl
front-step p false x xs n is later =
    let on : 1 + n ≡ suc n = omega arith in
    ap (λ m. filter p (drop m (x ∷ xs))) on ∙ later ∙ sym (ap (λ c. cond c (x ∷ filter p xs) (filter p xs)) is)

filter-front : {X : Type 0} (p : X → Bool) (xs : List X) → filter p (drop (position_or_len p xs) xs) ≡ filter p xs
filter-front p [] = refl
filter-front p (x ∷ xs) = front-step p (p x) x xs (position_or_len p xs) refl (filter-front p xs)

-- and it is the first from its place on
stay-step : {X : Type 0} (p : X → Bool) (b : Bool) (x : X) (xs : List X) (n : ℕ) → p x ≡ b → position_or_len p (drop n xs) ≡ 0
    → position_or_len p (drop (cond (not b) (1 + n) 0) (x ∷ xs)) ≡ 0
stay-step p true x xs n is later = ap (λ c. cond (not c) (1 + position_or_len p xs) 0) is
stay-step p false x xs n is later =
    let on : 1 + n ≡ suc n = omega arith in
    ap (λ m. position_or_len p (drop m (x ∷ xs))) on ∙ later

position-front : {X : Type 0} (p : X → Bool) (xs : List X) → position_or_len p (drop (position_or_len p xs) xs) ≡ 0
position-front p [] = refl
position-front p (x ∷ xs) = stay-step p (p x) x xs (position_or_len p xs) refl (position-front p xs)

-- if the first element passes, it is the first that passes
head-step : {X : Type 0} (p : X → Bool) (b : Bool) (x : X) (xs : List X) (n : ℕ) → cond (not b) (1 + n) 0 ≡ 0
    → slice_get (cond b (x ∷ filter p xs) (filter p xs)) 0 ≡ Some x
head-step p true x xs n none = refl
head-step p false x xs n none = absurd (omega (arith, none))

head-filter : {X : Type 0} (p : X → Bool) (xs : List X) → position_or_len p xs ≡ 0 → slice_get (filter p xs) 0 ≡ slice_get xs 0
head-filter p [] none = refl
head-filter p (x ∷ xs) none = head-step p (p x) x xs (position_or_len p xs) none

-- the element at a seam, and the first from a place on
slice_get-seam : {X : Type 0} (xs ys : List X) → slice_get (xs ++ ys) (length xs) ≡ slice_get ys 0
slice_get-seam [] ys = refl
slice_get-seam (x ∷ xs) ys = slice_get-seam xs ys

slice_get-drop : {X : Type 0} (n : ℕ) (xs : List X) → slice_get (drop n xs) 0 ≡ slice_get xs n
slice_get-drop zero xs = refl
slice_get-drop (suc n) [] = refl
slice_get-drop (suc n) (x ∷ xs) = slice_get-drop n xs

-- the first place from a place on is that place, or the first one after it
at-or-behind : (b : Bool) (n m : ℕ) → n + cond (not b) (1 + m) 0 ≡ cond b n ((n + 1) + m)
at-or-behind true n m = omega arith
at-or-behind false n m = omega arith

pub seek-step : (c : ProductCode) (t : List Entry) (n : ℕ) (d : Entry) → n < length t → seek c t n ≡ cond (has_code c (get_or t n d)) n (seek c t (n + 1))
seek-step c t n d l =
    ap (λ (xs : List Entry). n + position_or_len (has_code c) xs) (drop_more t n d l)
    ∙ at-or-behind (has_code c (get_or t n d)) n (position_or_len (has_code c) (drop (n + 1) t))

-- no place is after the end
pub seek-end : (c : ProductCode) (t : List Entry) (n : ℕ) → n ≡ length t → seek c t n ≡ length t
seek-end c t n end =
    let none : position_or_len (has_code c) (drop n t) ≡ 0 = ap (position_or_len (has_code c)) (drop_all n t (omega (arith, end))) in
    omega (arith, none, end)

-- an entry before a place is the first about its product code from there on
swap : (s t : ProductCode) → same_text s t ≡ same_text t s
swap s t = by (same_text s t) refl
  where
    by : (b : Bool) → same_text s t ≡ b → same_text s t ≡ same_text t s
    by true is = is ∙ sym (same_text-sym s t is)
    by false is = is ∙ sym (not-so (same_text t s) (λ h. sym is ∙ same_text-sym t s h))

either : (b : Bool) (n end : ℕ) (o : Option ℕ) → unwrap_or (cond b (Some n) o) end ≡ cond b n (unwrap_or o end)
either true n end o = refl
either false n end o = refl

module _ (t : List Entry) (n from : ℕ) (d : Entry) (on : from ≡ n + 1) (l : n < length t) (is : d ≡ get_or t n d) where
  pub head-back : (before after : ProductCode → Option ℕ) → ((q : ProductCode) → unwrap_or (before q) (length t) ≡ seek q t from)
      → ((q : ProductCode) → after q ≡ cond (same_code (code_of d.put.question) q) (Some n) (before q)) → (q : ProductCode) → unwrap_or (after q) (length t) ≡ seek q t n
  head-back before after heads puts q =
      ap (λ (o : Option ℕ). unwrap_or o (length t)) (puts q) ∙ either (same_text (code_of d.put.question) q) n (length t) (before q)
      ∙ ap (λ (m : ℕ). cond (same_text (code_of d.put.question) q) n m) (heads q ∙ ap (seek q t) on)
      ∙ ap (λ (b : Bool). cond b n (seek q t (n + 1))) (swap (code_of d.put.question) q ∙ ap (has_code q) is)
      ∙ sym (seek-step q t n d l)

  pub nexts-back : (nexts : List ℕ) (next : ℕ) → AreNexts from t nexts → next ≡ seek (code_of d.put.question) t from → AreNexts n t (set nexts n next)
  nexts-back nexts next are found = record {
    whole = length-set nexts n next ∙ are.whole;
    right = λ i e above stands. right i e above stands (cases_eq i n);
  }
    where
      right : (i : ℕ) (e : Entry) → n ≤ i → slice_get t i ≡ Some e → (i ≡ n) ⊎ (i ≡ n → ⊥) → get_or (set nexts n next) i 0 ≡ seek (code_of e.put.question) t (i + 1)
      right i e above stands (inl here) =
          let same : d ≡ e = is ∙ ap (λ (k : ℕ). get_or t k d) (sym here) ∙ get_or_from_slice_get t i e d stands in
          ap (λ (k : ℕ). get_or (set nexts n next) k 0) here ∙ get_or-set_same nexts n next 0 (omega (arith, are.whole)) ∙ found
          ∙ ap (λ (x : Entry). seek (code_of x.put.question) t from) same
          ∙ ap (seek (code_of e.put.question) t) (on ∙ ap (λ (k : ℕ). k + 1) (sym here))
      right i e above stands (inr other) =
          get_or-set_other nexts n i next 0 other ∙ are.right i e (omega (arith, other)) stands

-- the entries about a product code from a place on are those from the first one on
about-seek : (c : ProductCode) (t : List Entry) (n : ℕ) → about c (drop (seek c t n) t) ≡ about c (drop n t)
about-seek c t n =
    ap (filter (has_code c)) (sym (drop-drop (position_or_len (has_code c) (drop n t)) n t)) ∙ filter-front (has_code c) (drop n t)

seek-seek : (c : ProductCode) (t : List Entry) (n : ℕ) → seek c t (seek c t n) ≡ seek c t n
seek-seek c t n =
    let none : position_or_len (has_code c) (drop (seek c t n) t) ≡ 0 =
    ap (position_or_len (has_code c)) (sym (drop-drop (position_or_len (has_code c) (drop n t)) n t)) ∙ position-front (has_code c) (drop n t) in
    omega (arith, none)

-- before its first step a walk has passed nothing
pub HasPassed-start : (w : Walk) (t : List Entry) → StandsBefore w t → HasPassed w [] t
HasPassed-start w t before = record {
  nexts = before.nexts;
  left = λ c. sym (about-seek c t 0) ∙ ap (λ (n : ℕ). about c (drop n t)) (sym (before.heads c));
  first = λ c. ap (seek c t) (before.heads c) ∙ seek-seek c t 0 ∙ sym (before.heads c);
}

-- the walk stands at the entry that is in the place of this one
pub found-there : (w : Walk) (old new : List Entry) (e : Entry) → HasPassed w old new → slice_get new (head_of w (code_of e.put.question)) ≡ in_place old e new
found-there w old new e passed =
    let c = code_of e.put.question in
    let h = head_of w c in
    let none : position_or_len (has_code c) (drop h new) ≡ 0 = omega (arith, passed.first c) in
    sym (
    ap (λ (xs : List Entry). slice_get xs (length (about c old))) (passed.left c) ∙ slice_get-seam (about c old) (about c (drop h new))
    ∙ head-filter (has_code c) (drop h new) none ∙ slice_get-drop h new
    )

-- a walk passes an entry that stands there
module _ (w v : Walk) (old new : List Entry) (e : Entry) (passed : HasPassed w old new) (stands : slice_get new (head_of w (code_of e.put.question)) ≡ Some e) (heads : (q : ProductCode) → head_of v q ≡ cond (same_code (code_of e.put.question) q) (get_or w.nexts.items (head_of w (code_of e.put.question)) 0) (head_of w q)) (nexts : v.nexts.items ≡ w.nexts.items) where
  abbrev c : ProductCode
  c = code_of e.put.question

  abbrev h : ℕ
  h = head_of w c

  next : get_or w.nexts.items h 0 ≡ seek c new (h + 1)
  next = passed.nexts.right h e (omega arith) stands

  rest : about c (drop h new) ≡ e ∷ about c (drop (h + 1) new)
  rest =
      ap (about c) (drop_more new h e (slice_get_within new h e stands) ∙ ap (λ (x : Entry). x ∷ drop (h + 1) new) (get_or_from_slice_get new h e e stands))
      ∙ ap (λ (b : Bool). cond b (e ∷ about c (drop (h + 1) new)) (about c (drop (h + 1) new))) (same_text-refl c)

  own : about c (old ++ e ∷ []) ≡ about c old ++ e ∷ []
  own = filter-append (has_code c) old (e ∷ []) ∙ ap (λ (b : Bool). about c old ++ cond b (e ∷ []) []) (same_text-refl c)

  stood : head_of v c ≡ seek c new (h + 1)
  stood = heads c ∙ ap (λ (b : Bool). cond b (get_or w.nexts.items h 0) (head_of w c)) (same_text-refl c) ∙ next

  own-left : about c new ≡ about c (old ++ e ∷ []) ++ about c (drop (head_of v c) new)
  own-left =
      passed.left c ∙ ap (λ (xs : List Entry). about c old ++ xs) rest ∙ sym (append_assoc (about c old) (e ∷ []) (about c (drop (h + 1) new)))
      ∙ ap (λ (xs : List Entry). (about c old ++ e ∷ []) ++ xs) (sym (ap (λ (n : ℕ). about c (drop n new)) stood ∙ about-seek c new (h + 1)))
      ∙ ap (λ (xs : List Entry). xs ++ about c (drop (head_of v c) new)) (sym own)

  own-first : seek c new (head_of v c) ≡ head_of v c
  own-first = ap (seek c new) stood ∙ seek-seek c new (h + 1) ∙ sym stood

  kept : (q : ProductCode) → same_text q c ≡ false → head_of v q ≡ head_of w q
  kept q other =
      heads q
      ∙ ap (λ (b : Bool). cond b (get_or w.nexts.items h 0) (head_of w q)) (not-so (same_text c q) (λ t. sym other ∙ same_text-sym c q t))

  other-left : (q : ProductCode) → same_text q c ≡ false → about q new ≡ about q (old ++ e ∷ []) ++ about q (drop (head_of v q) new)
  other-left q other =
      let same : about q (old ++ e ∷ []) ≡ about q old =
      filter-append (has_code q) old (e ∷ []) ∙ ap (λ (b : Bool). about q old ++ cond b (e ∷ []) []) other ∙ append-nil (about q old) in
      passed.left q ∙ ap (λ (xs : List Entry). xs ++ about q (drop (head_of w q) new)) (sym same)
      ∙ ap (λ (n : ℕ). about q (old ++ e ∷ []) ++ about q (drop n new)) (sym (kept q other))

  pub HasPassed-step : HasPassed v (old ++ e ∷ []) new
  HasPassed-step = record {
    nexts = subst (AreNexts 0 new) (sym nexts) passed.nexts;
    left = λ q. left_by q (same_text q c) refl;
    first = λ q. first_by q (same_text q c) refl;
  }
    where
      left_by : (q : ProductCode) (b : Bool) → same_text q c ≡ b → about q new ≡ about q (old ++ e ∷ []) ++ about q (drop (head_of v q) new)
      left_by q true is = subst (λ (d : ProductCode). about d new ≡ about d (old ++ e ∷ []) ++ about d (drop (head_of v d) new)) (sym (same_text-equal q c is)) own-left
      left_by q false is = other-left q is

      first_by : (q : ProductCode) (b : Bool) → same_text q c ≡ b → seek q new (head_of v q) ≡ head_of v q
      first_by q true is = subst (λ (d : ProductCode). seek d new (head_of v d) ≡ head_of v d) (sym (same_text-equal q c is)) own-first
      first_by q false is = ap (seek q new) (kept q is) ∙ passed.first q ∙ sym (kept q is)

-- a new trail goes on from the entries that a walk has passed
pub GoesOn-passed : (w : Walk) (old new : List Entry) → HasPassed w old new → GoesOn old new
GoesOn-passed w old new passed = λ c. (about c (drop (head_of w c) new), passed.left c)

-- a trail that departs does not go on
pub Departs-not : (old new : List Entry) (d : Departure) → Departs old new d → GoesOn old new → d.found ≡ Some d.entry
Departs-not old new d departs on =
    let c = code_of d.entry.put.question in
    let front = take departs.place old in
    let whole : old ≡ front ++ d.entry ∷ drop (departs.place + 1) old =
    sym (take-append-drop departs.place old) ∙ ap (λ (xs : List Entry). front ++ xs) (drop_more old departs.place d.entry (slice_get_within old departs.place d.entry departs.stands))
    ∙ ap (λ (x : Entry). front ++ x ∷ drop (departs.place + 1) old) (get_or_from_slice_get old departs.place d.entry d.entry departs.stands) in
    let behind = about c (drop (departs.place + 1) old) in
    let own : about c old ≡ about c front ++ d.entry ∷ behind =
    ap (about c) whole ∙ filter-append (has_code c) front (d.entry ∷ drop (departs.place + 1) old)
    ∙ ap (λ (b : Bool). about c front ++ cond b (d.entry ∷ behind) behind) (same_text-refl c) in
    departs.found
    ∙ ap (λ (xs : List Entry). slice_get xs (length (about c front))) ((on c).1 ∙ ap (λ (xs : List Entry). xs ++ (on c).0) own ∙ append_assoc (about c front) (d.entry ∷ behind) (on c).0)
    ∙ slice_get-seam (about c front) (d.entry ∷ behind ++ (on c).0)
