-- The places of packs after one more entry.
use Rattle.std.proofs.Common.{◌≡◌, ◌≢◌, ◌∙◌, ◌⊎◌, inl, inr, ℕ, zero, suc, ◌+◌, ◌-◌, ◌≤◌, ◌<◌, Bool, true, false, cond, List, [], ◌∷◌, ◌++◌, length, get_or, set, slice_get, Option, Some, None, unwrap_or, refl, sym, ap, subst, arith, true≢false, length-append}
use Rattle.std.specs.List.{All, list_any}
use Rattle.std.specs.Option.{is_some}
use Rattle.std.proofs.lemmas.Bool.{cases_lt, cond_below, cond_above}
use Rattle.std.proofs.lemmas.List.{get_or-set_same, get_or-set_other, get_or_append_left, get_or_push, length-set}
use Rattle.std.proofs.lemmas.List.Elements.{All-push, All-set}
use Rattle.std.proofs.lemmas.List.Folds.{list_any_at, list_any_none}
use Rattle.std.proofs.lemmas.List.Sums.{position_or_len_is, fails_before_first, passes_at_first, prefix_len-le-length}
use Rattle.std.proofs.lemmas.Option.{unwrap_or-slice_get, slice_get_past}
use Rattle.nmvs_identifier.specs.declared.pack.Pack.{Pack}
use Rattle.nmvs_identifier.specs.Pack.{same_pack}
use Rattle.nmvs_rows.specs.Rows.{known_in, known_of, number_in, with_pack, packs_of}
use Rattle.nmvs_rows.proofs.RowLemmas.{packs_of-push}
use Rattle.nmvs_rules.specs.declared.entry.Entry.{Entry}
use Rattle.nmvs_rules.specs.declared.question.Question.{Question}
use Rattle.nmvs_rules.specs.declared.question.Question.TheVariants.{Upload}
use Rattle.nmvs_rules.specs.Questions.{pack_of, names}
use Rattle.nmvs_rules.specs.Trail.{is_about, is_accepted, is_upload, own_given, mark_after, marked_by, born_by}
use Rattle.nmvs_rules.specs.declared.facts.Known.{Known}
use Rattle.nmvs_rules.proofs.TextLemmas.{same_pack-equal, same_pack-refl}
use Rattle.nmvs_tables.specs.declared.packs.Places.{Places}
use Rattle.nmvs_tables.specs.Packs.{no_places, entry_before, known_by, row_by, places_at, places_in, row_in, IsWithin, AreWithin, ArePacksOf, places_marked, places_after, changed, row_after, pack_after}

-- an entry stays where it stands
before_stays : (t : List Entry) (e : Entry) (n : ℕ) → n ≤ length t → entry_before (t ++ e ∷ []) n ≡ entry_before t n
before_stays t e zero within = refl
before_stays [] e (suc n) within = absurd (omega arith)
before_stays (x ∷ t) e (suc zero) within = refl
before_stays (x ∷ t) e (suc (suc n)) within = before_stays t e (suc n) (omega (arith, within))

before_last : (t : List Entry) (e : Entry) → entry_before (t ++ e ∷ []) (suc (length t)) ≡ Some e
before_last [] e = refl
before_last (x ∷ t) e = before_last t e

before_next : (t : List Entry) (e : Entry) → entry_before (t ++ e ∷ []) (length t + 1) ≡ Some e
before_next t e = let next : length t + 1 ≡ suc (length t) = omega arith in ap (entry_before (t ++ e ∷ [])) next ∙ before_last t e

pub before-some : (t : List Entry) (n : ℕ) → 0 < n → slice_get t (n - 1) ≡ entry_before t n
before-some t zero some = absurd (omega (arith, some))
before-some t (suc n) some = let same : suc n - 1 ≡ n = omega arith in ap (slice_get t) same

pub no-mark : (u : Option Entry) (place : ℕ) → known_of u None place ≡ None
no-mark None place = refl
no-mark (Some u) place = refl

-- a row stays as it is while other entries come
known_stays : (t : List Entry) (e : Entry) (w : Places) → IsWithin t w → known_by (t ++ e ∷ []) w ≡ known_by t w
known_stays t e w is = λ i. known_of (before_stays t e w.upload is.upload i) (before_stays t e w.mark is.mark i) (w.mark - 1)

row_stays : (t : List Entry) (e : Entry) (w : Places) → IsWithin t w → row_by (t ++ e ∷ []) w ≡ row_by t w
row_stays t e w is = λ i. record { about = w.about; known = known_stays t e w is i; last = w.last }

-- the values known after an accepted entry about a known pack
known_marked : (u m : Option Entry) (e : Entry) (n place : ℕ) → is_some (known_of u m n) ≡ true → known_of u (Some e) place ≡ marked_by place e (known_of u m n)
known_marked None m e n place h = absurd (true≢false (sym h))
known_marked (Some u) None e n place h = absurd (true≢false (sym h))
known_marked (Some u) (Some m) e n place h = by u.put.question h
  where
    by : (q : Question) → is_some (known_in q m n) ≡ true → known_in q e place ≡ marked_by place e (known_in q m n)
    by (Upload p b x) h = refl
    by q h = absurd (let f : false ≡ true = h in cc)

-- and after one about an unknown pack
known_born : (e : Entry) (place : ℕ) → is_upload e.put.question ≡ true → known_of (Some e) (Some e) place ≡ born_by place e e.put.question
known_born e place h = by e.put.question refl h
  where
    by : (q : Question) → e.put.question ≡ q → is_upload q ≡ true → known_in q e place ≡ born_by place e q
    by (Upload p b x) is h = λ i. Some (record { batch = b; expiry = x; own = own_given (is i); mark = mark_after place e })
    by q is h = absurd (let f : false ≡ true = h in cc)

none_born : (e : Entry) (place : ℕ) (q : Question) → is_upload q ≡ false → born_by place e q ≡ None
none_born e place (Upload p b x) h = absurd (true≢false h)
none_born e place q h = refl

none_is : (o : Option Known) → is_some o ≡ false → o ≡ None
none_is None h = refl
none_is (Some k) h = absurd (true≢false h)

-- the values known after an entry about a pack, by its places
known_after : (t : List Entry) (e : Entry) (w : Places) (b : Bool) → IsWithin t w → is_some (known_by t w) ≡ b → known_by (t ++ e ∷ []) (places_after (length t + 1) e b w) ≡ cond (is_accepted e) (marked_by (length t) e (known_by t w)) (known_by t w)
known_after t e w b is known = by (is_accepted e) b (is_upload e.put.question) refl known refl
  where
    n : ℕ
    n = length t

    same : n + 1 - 1 ≡ n
    same = omega arith

    marked : Bool → Bool → Bool → Places
    marked a b c = cond a (places_marked (n + 1) b c w) w

    whole : Bool → Bool → Bool → Places
    whole a b c = record { about = w.about + 1; last = n + 1; upload = (marked a b c).upload; mark = (marked a b c).mark }

    by : (a b c : Bool) → is_accepted e ≡ a → is_some (known_by t w) ≡ b → is_upload e.put.question ≡ c → known_by (t ++ e ∷ []) (whole a b c) ≡ cond a (marked_by n e (known_by t w)) (known_by t w)
    by false b c accepted known uploads = known_stays t e w is
    by true true c accepted known uploads =
        (λ i. known_of (before_stays t e w.upload is.upload i) (before_next t e i) (same i))
        ∙ known_marked (entry_before t w.upload) (entry_before t w.mark) e (w.mark - 1) n known
    by true false true accepted known uploads =
        (λ i. known_of (before_next t e i) (before_next t e i) (same i)) ∙ known_born e n uploads
        ∙ sym (ap (marked_by n e) (none_is (known_by t w) known))
    by true false false accepted known uploads =
        known_stays t e w is ∙ none_is (known_by t w) known ∙ sym (none_born e n e.put.question uploads)
        ∙ sym (ap (marked_by n e) (none_is (known_by t w) known))

-- the row after it
pub row_after-is : (t : List Entry) (e : Entry) (w : Places) (b : Bool) → IsWithin t w → is_some (known_by t w) ≡ b → row_by (t ++ e ∷ []) (places_after (length t + 1) e b w) ≡ row_after (length t) e (row_by t w)
row_after-is t e w b is known = λ i. record { about = w.about + 1; known = known_after t e w b is known i; last = length t + 1 }

-- the places after it are within the trail
pub after-within : (t : List Entry) (e : Entry) (w : Places) (b : Bool) → IsWithin t w → IsWithin (t ++ e ∷ []) (places_after (length t + 1) e b w)
after-within t e w b is = by (is_accepted e) b (is_upload e.put.question)
  where
    long : length (t ++ e ∷ []) ≡ length t + 1
    long = length-append t (e ∷ [])

    marked : Bool → Bool → Bool → Places
    marked a b c = cond a (places_marked (length t + 1) b c w) w

    by : (a b c : Bool) → IsWithin (t ++ e ∷ []) (record { about = w.about + 1; last = length t + 1; upload = (marked a b c).upload; mark = (marked a b c).mark })
    by false b c = record { about = omega (arith, long, is.about); upload = omega (arith, long, is.upload); mark = omega (arith, long, is.mark) }
    by true true c = record { about = omega (arith, long, is.about); upload = omega (arith, long, is.upload); mark = omega (arith, long) }
    by true false true = record { about = omega (arith, long, is.about); upload = omega (arith, long); mark = omega (arith, long) }
    by true false false = record { about = omega (arith, long, is.about); upload = omega (arith, long, is.upload); mark = omega (arith, long, is.mark) }

within-longer : (t : List Entry) (e : Entry) (w : Places) → IsWithin t w → IsWithin (t ++ e ∷ []) w
within-longer t e w is =
    let long : length (t ++ e ∷ []) ≡ length t + 1 = length-append t (e ∷ []) in
    record { about = omega (arith, long, is.about); upload = omega (arith, long, is.upload); mark = omega (arith, long, is.mark) }

at-is : (ws : List Places) (n : ℕ) → places_at ws n ≡ get_or ws n no_places
at-is ws n = unwrap_or-slice_get ws n no_places

at-past : (ws : List Places) (n : ℕ) → length ws ≤ n → places_at ws n ≡ no_places
at-past ws n past = ap (λ o. unwrap_or o no_places) (slice_get_past ws n past)

at-within : (t : List Entry) (ws : List Places) (n : ℕ) → All (IsWithin t) ws → IsWithin t (places_at ws n)
at-within t ws n are = by (cases_lt n (length ws))
  where
    none : IsWithin t no_places
    none = record { about = omega arith; upload = omega arith; mark = omega arith }

    by : (n < length ws) ⊎ (length ws ≤ n) → IsWithin t (places_at ws n)
    by (inl within) = subst (IsWithin t) (sym (at-is ws n)) (are n no_places within)
    by (inr past) = subst (IsWithin t) (sym (at-past ws n past)) none

-- the numbers of packs
number-le : (ps : List Pack) (p : Pack) → number_in ps p ≤ length ps
number-le ps p = prefix_len-le-length _ ps

-- the pack at the number of a pack among them is that pack
number-at : (ps : List Pack) (p : Pack) → number_in ps p < length ps → p ≡ get_or ps (number_in ps p) p
number-at ps p within = same_pack-equal p (get_or ps (number_in ps p) p) (passes_at_first (same_pack p) ps p within)

number-same : (ps : List Pack) (p q : Pack) → number_in ps p < length ps → number_in ps p ≡ number_in ps q → p ≡ q
number-same ps p q within same =
    let there : number_in ps q < length ps = omega (arith, within, same) in
    let at_q : same_pack q (get_or ps (number_in ps q) p) ≡ true = passes_at_first (same_pack q) ps p there in
    number-at ps p within ∙ ap (λ n. get_or ps n p) same ∙ sym (same_pack-equal q (get_or ps (number_in ps q) p) at_q)

-- a pack among them is found, and no other
number-among : (ps : List Pack) (p : Pack) → number_in ps p < length ps → list_any (same_pack p) ps ≡ true
number-among ps p within = list_any_at (same_pack p) ps (number_in ps p) p within (passes_at_first (same_pack p) ps p within)

number-none : (ps : List Pack) (p : Pack) → length ps ≤ number_in ps p → list_any (same_pack p) ps ≡ false
number-none ps p past = list_any_none (same_pack p) ps (λ k d within. fails_before_first (same_pack p) ps k d (omega (arith, past, within)))

number-before : (ps : List Pack) (k p : Pack) → number_in ps p < length ps → number_in (ps ++ k ∷ []) p ≡ number_in ps p
number-before ps k p within =
    position_or_len_is (same_pack p) (ps ++ k ∷ []) (number_in ps p) p
    (omega (arith, within, length-append ps (k ∷ [])))
    (λ j h. let inside : j < length ps = omega (arith, h, within) in rw get_or_append_left (fails_before_first (same_pack p) ps j p h))
    (λ _. rw get_or_append_left (passes_at_first (same_pack p) ps p within))

number-new : (ps : List Pack) (k : Pack) → length ps ≤ number_in ps k → number_in (ps ++ k ∷ []) k ≡ length ps
number-new ps k past =
    position_or_len_is (same_pack k) (ps ++ k ∷ []) (length ps) k
    (omega (arith, length-append ps (k ∷ [])))
    (λ j h. rw get_or_append_left (fails_before_first (same_pack k) ps j k (omega (arith, past, h))))
    (λ _. ap (same_pack k) (get_or_push ps k k (length ps) refl) ∙ same_pack-refl k)

-- another pack that is none of them is not the new one
number-other : (ps : List Pack) (k p : Pack) → length ps ≤ number_in ps p → same_pack p k ≡ false → length ps + 1 ≤ number_in (ps ++ k ∷ []) p
number-other ps k p past other = by (cases_lt (number_in (ps ++ k ∷ []) p) (length ps + 1))
  where
    n : ℕ
    n = number_in (ps ++ k ∷ []) p

    passes : n < length ps + 1 → same_pack p (get_or (ps ++ k ∷ []) n p) ≡ true
    passes lt = passes_at_first (same_pack p) (ps ++ k ∷ []) p (omega (arith, lt, length-append ps (k ∷ [])))

    in_front : n < length ps → ⊥
    in_front lt =
        let fails : same_pack p (get_or ps n p) ≡ false = fails_before_first (same_pack p) ps n p (omega (arith, past, lt)) in
        true≢false (sym (passes (omega (arith, lt))) ∙ ap (same_pack p) (get_or_append_left ps (k ∷ []) p n lt) ∙ fails)

    at_end : length ps ≡ n → ⊥
    at_end is = true≢false (sym (passes (omega (arith, is))) ∙ ap (same_pack p) (get_or_push ps k p n is) ∙ other)

    by : (n < length ps + 1) ⊎ (length ps + 1 ≤ n) → length ps + 1 ≤ n
    by (inr le) = le
    by (inl lt) = elim (cases_lt n (length ps)) [
      | inl front ↦ absurd (in_front front)
      | inr le ↦ absurd (at_end (omega (arith, lt, le)))
    ]

-- the table after an entry about a pack
module _ (t : List Entry) (e : Entry) (ws : List Places) (are : AreWithin t ws) (k : Pack) (named : pack_of e.put.question ≡ Some k) where
  abbrev pub ps : List Pack
  ps = packs_of t

  abbrev pub i : ℕ
  i = number_in ps k

  abbrev pub u : List Entry
  u = t ++ e ∷ []

  abbrev pub old : Places
  old = places_in t ws k

  grown : packs_of u ≡ cond (list_any (same_pack k) ps) ps (ps ++ k ∷ [])
  grown = packs_of-push t e ∙ ap (with_pack ps) named

  module _ (b : Bool) (known : is_some (known_by t old) ≡ b) where
    abbrev pub w : Places
    w = places_after (length t + 1) e b old

    abbrev pub table : List Places
    table = changed ws (Some (i, w))

    old-within : IsWithin t old
    old-within = at-within t ws i are.within

    -- the pack is among those that were named
    there : i < length ps → (packs_of u ≡ ps) × (table ≡ set ws i w)
    there within = (
      grown ∙ ap (λ a. cond a ps (ps ++ k ∷ [])) (number-among ps k within),
      sym (cond_below i (length ws) (set ws i w) (ws ++ w ∷ []) (omega (arith, within, are.many))),
    )

    -- or it is new
    fresh : length ps ≤ i → (packs_of u ≡ ps ++ k ∷ []) × (table ≡ ws ++ w ∷ [])
    fresh past = (
      grown ∙ ap (λ a. cond a ps (ps ++ k ∷ [])) (number-none ps k past),
      sym (cond_above i (length ws) (set ws i w) (ws ++ w ∷ []) (ws ++ w ∷ []) (omega (arith, past, are.many)) refl),
    )

    new-here : places_at table (number_in (packs_of u) k) ≡ w
    new-here = by (cases_lt i (length ps))
      where
        by : (i < length ps) ⊎ (length ps ≤ i) → places_at table (number_in (packs_of u) k) ≡ w
        by (inl within) =
            let h = there within in
            let inside : i < length ws = omega (arith, within, are.many) in
            (λ j. places_at (h.1 j) (number_in (h.0 j) k)) ∙ at-is (set ws i w) i ∙ get_or-set_same ws i w no_places inside
        by (inr past) =
            let h = fresh past in
            (λ j. places_at (h.1 j) (number_in (h.0 j) k)) ∙ ap (places_at (ws ++ w ∷ [])) (number-new ps k past) ∙ at-is (ws ++ w ∷ []) (length ps)
            ∙ get_or_push ws w no_places (length ps) are.many

    others-stay : (p : Pack) → same_pack p k ≡ false → places_at table (number_in (packs_of u) p) ≡ places_at ws (number_in ps p)
    others-stay p other = by (cases_lt i (length ps)) (cases_lt (number_in ps p) (length ps))
      where
        n : ℕ
        n = number_in ps p

        apart : i < length ps → i ≢ n
        apart within same =
            let equal : k ≡ p = number-same ps k p within same in
            true≢false (sym (ap (λ (q : Pack). same_pack q k) (sym equal) ∙ same_pack-refl k) ∙ other)

        by : (i < length ps) ⊎ (length ps ≤ i) → (n < length ps) ⊎ (length ps ≤ n) → places_at table (number_in (packs_of u) p) ≡ places_at ws n
        by (inl within) h =
            let g = there within in
            (λ j. places_at (g.1 j) (number_in (g.0 j) p)) ∙ at-is (set ws i w) n ∙ get_or-set_other ws i n w no_places (λ same. apart within (sym same)) ∙ sym (at-is ws n)
        by (inr past) (inl within) =
            let g = fresh past in
            (λ j. places_at (g.1 j) (number_in (g.0 j) p)) ∙ ap (places_at (ws ++ w ∷ [])) (number-before ps k p within) ∙ at-is (ws ++ w ∷ []) n
            ∙ get_or_append_left ws (w ∷ []) no_places n (omega (arith, within, are.many)) ∙ sym (at-is ws n)
        by (inr past) (inr none) =
            let g = fresh past in
            let far : length (ws ++ w ∷ []) ≤ number_in (ps ++ k ∷ []) p = omega (arith, length-append ws (w ∷ []), are.many, number-other ps k p none other) in
            (λ j. places_at (g.1 j) (number_in (g.0 j) p)) ∙ at-past (ws ++ w ∷ []) (number_in (ps ++ k ∷ []) p) far
            ∙ sym (at-past ws n (omega (arith, none, are.many)))

    pub change-noted : (p : Pack) → row_in u table p ≡ pack_after p (length t) e (row_in t ws p)
    change-noted p = by (is_about p e) refl
      where
        by : (a : Bool) → is_about p e ≡ a → row_in u table p ≡ cond a (row_after (length t) e (row_in t ws p)) (row_in t ws p)
        by true about =
            let same : same_pack p k ≡ true = ap (names p) (sym named) ∙ about in
            let equal : p ≡ k = same_pack-equal p k same in
            ap (row_in u table) equal ∙ ap (row_by u) new-here ∙ row_after-is t e old b old-within known
            ∙ ap (λ q. row_after (length t) e (row_in t ws q)) (sym equal)
        by false about =
            let other : same_pack p k ≡ false = ap (names p) (sym named) ∙ about in
            ap (row_by u) (others-stay p other) ∙ row_stays t e (places_at ws (number_in ps p)) (at-within t ws (number_in ps p) are.within)

    pub change-within : AreWithin u table
    change-within = by (cases_lt i (length ps))
      where
        longer : All (IsWithin u) ws
        longer = λ n d h. within-longer t e (get_or ws n d) (are.within n d h)

        by : (i < length ps) ⊎ (length ps ≤ i) → AreWithin u table
        by (inl within) =
            let g = there within in
            record {
              many = ap length g.1 ∙ length-set ws i w ∙ are.many ∙ ap length (sym g.0);
              within = subst (All (IsWithin u)) (sym g.1) (All-set (IsWithin u) ws i w (after-within t e old b old-within) longer);
            }
        by (inr past) =
            let g = fresh past in
            record {
              many = ap length g.1 ∙ length-append ws (w ∷ []) ∙ ap (λ n. n + 1) are.many ∙ sym (length-append ps (k ∷ [])) ∙ ap length (sym g.0);
              within = subst (All (IsWithin u)) (sym g.1) (All-push (IsWithin u) ws w longer (after-within t e old b old-within));
            }

-- the packs of no entries
pub no-packs : ArePacksOf [] []
no-packs = record {
  within = record { many = refl; within = λ k d h. absurd (omega (arith, h)) };
  rows = λ p. refl;
}

-- an entry about no pack changes none
module _ (t : List Entry) (e : Entry) (ws : List Places) (are : AreWithin t ws) (named : pack_of e.put.question ≡ None) where
  same-packs : packs_of (t ++ e ∷ []) ≡ packs_of t
  same-packs = packs_of-push t e ∙ ap (with_pack (packs_of t)) named

  pub unnamed-noted : (p : Pack) → row_in (t ++ e ∷ []) ws p ≡ pack_after p (length t) e (row_in t ws p)
  unnamed-noted p =
      ap (λ ps. row_by (t ++ e ∷ []) (places_at ws (number_in ps p))) same-packs
      ∙ row_stays t e (places_at ws (number_in (packs_of t) p)) (at-within t ws (number_in (packs_of t) p) are.within)
      ∙ ap (λ o. cond (names p o) (row_after (length t) e (row_in t ws p)) (row_in t ws p)) (sym named)

  pub unnamed-within : AreWithin (t ++ e ∷ []) ws
  unnamed-within = record {
    many = are.many ∙ ap length (sym same-packs);
    within = λ n d h. within-longer t e (get_or ws n d) (are.within n d h);
  }
