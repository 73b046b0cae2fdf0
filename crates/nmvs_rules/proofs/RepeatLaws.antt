-- The laws of questions that are asked again.
use Rattle.std.proofs.Common.{◌≡◌, ◌∙◌, ◌≤◌, ◌+◌, ◌-◌, ℕ, zero, suc, Bool, true, false, not, ◌||◌, ◌&&◌, ◌<◌, cond, List, [], ◌∷◌, ◌++◌, length, take, drop, reverse, Option, Some, None, refl, sym, ap, subst, inl, inr, ◌⊎◌, arith, length-append, append-nil, append_assoc}
use Rattle.std.specs.Prelude.{nat_lt, slice_get}
use Rattle.std.specs.Cmp.{first_so, second_so}
use Rattle.std.specs.Cmp.Derive.{both_true}
use Rattle.std.specs.List.{suffix_len, prefix_len, count_by, list_any}
use Rattle.std.specs.Option.{option_map_or}
use Rattle.std.proofs.lemmas.Bool.Decides.{nat_tests}
use Rattle.std.proofs.lemmas.List.{reverse-append, length-reverse, drop-drop}
use Rattle.std.proofs.lemmas.List.Sums.{sum_by-take-drop}
use Rattle.nmvs_identifier.specs.Name.{Name}
use Rattle.nmvs_identifier.specs.Tag.{Tag}
use Rattle.nmvs_identifier.specs.declared.pack.Pack.{Pack}
use Rattle.nmvs_rules.specs.declared.entry.Entry.{Entry}
use Rattle.nmvs_rules.specs.declared.put.Put.{Put}
use Rattle.nmvs_rules.specs.declared.repeat.Repeat.TheVariants as repeat
use Rattle.nmvs_rules.specs.declared.reply.Reply.{Reply}
use Rattle.nmvs_rules.specs.Limits.{entries_looked_over}
use Rattle.nmvs_rules.specs.Questions.{pack_of, names}
use Rattle.nmvs_rules.specs.Trail.{is_about, about_of}
use Rattle.nmvs_rules.specs.Rules.{reply_of, IsLawfulAfter, IsLawful}
use Rattle.nmvs_rules.specs.Repeats.{same_actor, asks_same, answer_of, has_tag, is_in_day, is_tagged, last_tagged, place_up_to, place_tagged, beside, beside_same, repeat_at, repeat_by, repeat_of, reply_by, is_changed, in_day_at, was_asked, was_asked_by, tells_state, AreInDay, AreNewAfter, AreNew, IsRepeated}
use Rattle.nmvs_rules.proofs.PushLemmas.{suffix_len-push}
use Rattle.nmvs_identifier.specs.Texts.{same_text}
use Rattle.nmvs_rules.specs.declared.repeat.Repeat.{Repeat}
use Rattle.nmvs_rules.proofs.TextLemmas.{same_text-equal, same_text-refl, same_pack-equal, same_pack-refl}
use Rattle.nmvs_rules.proofs.RepeatLemmas.{same_actor-equal, same_actor-refl, same_question-equal, same_question-refl}

-- a list, taken apart at its last element that does not pass a test
pub record IsSplit {X : Type 0} (p : X → Bool) (xs : List X) : Type 0 where
  pub before : List X
  pub at : X
  pub after : List X
  pub whole : xs ≡ before ++ at ∷ after
  pub stops : p at ≡ false
  pub run : suffix_len p xs ≡ length after

module _ {X : Type 0} (p : X → Bool) where
  one-more : (a : List X) (n : ℕ) (b : Bool) → n ≤ length a → cond b (1 + n) 0 ≤ suc (length a)
  one-more a n true h = omega arith
  one-more a n false h = omega arith

  prefix-stops : (a b : List X) (e : X) → p e ≡ false → prefix_len p (a ++ e ∷ b) ≤ length a
  prefix-stops [] b e h = let at : prefix_len p (e ∷ b) ≡ 0 = ap (λ c. cond c (1 + prefix_len p b) 0) h in omega (arith, at)
  prefix-stops (x ∷ a) b e h = one-more a (prefix_len p (a ++ e ∷ b)) (p x) (prefix-stops a b e h)

  -- the run at the end of a list is no longer than the rest after an element that does not pass
  pub suffix-stops : (a b : List X) (e : X) → p e ≡ false → suffix_len p (a ++ e ∷ b) ≤ length b
  suffix-stops a b e h =
      let turned : reverse (a ++ e ∷ b) ≡ reverse b ++ e ∷ reverse a =
      reverse-append a (e ∷ b) ∙ ap (λ l. l ++ reverse a) (reverse-append (e ∷ []) b) ∙ append_assoc (reverse b) (e ∷ []) (reverse a) in
      omega (arith, ap (prefix_len p) turned, prefix-stops (reverse b) (reverse a) e h, length-reverse b)

  abbrev Ends : List X → Type 0
  Ends xs = (suffix_len p xs ≡ length xs) ⊎ IsSplit p xs

  ends-passing : (xs : List X) (x : X) → p x ≡ true → Ends xs → Ends (xs ++ x ∷ [])
  ends-passing xs x h (inl all) =
      let more : suffix_len p (xs ++ x ∷ []) ≡ 1 + suffix_len p xs = suffix_len-push p xs x ∙ ap (λ c. cond c (1 + suffix_len p xs) 0) h in
      inl (omega (arith, more, all, length-append xs (x ∷ [])))
  ends-passing xs x h (inr split) =
      let more : suffix_len p (xs ++ x ∷ []) ≡ 1 + suffix_len p xs = suffix_len-push p xs x ∙ ap (λ c. cond c (1 + suffix_len p xs) 0) h in
      inr (record {
        before = split.before;
        at = split.at;
        after = split.after ++ x ∷ [];
        whole = ap (λ l. l ++ x ∷ []) split.whole ∙ append_assoc split.before (split.at ∷ split.after) (x ∷ []);
        stops = split.stops;
        run = omega (arith, more, split.run, length-append split.after (x ∷ []));
      })

  ends-push : (xs : List X) (x : X) → Ends xs → Ends (xs ++ x ∷ [])
  ends-push xs x ends = by (p x) refl
    where
      by : (b : Bool) → p x ≡ b → Ends (xs ++ x ∷ [])
      by true h = ends-passing xs x h ends
      by false h = inr (record {
        before = xs;
        at = x;
        after = [];
        whole = refl;
        stops = h;
        run = suffix_len-push p xs x ∙ ap (λ c. cond c (1 + suffix_len p xs) 0) h;
      })

  ends-after : (xs ys : List X) → Ends xs → Ends (xs ++ ys)
  ends-after xs [] ends = subst Ends (sym (append-nil xs)) ends
  ends-after xs (y ∷ ys) ends = subst Ends (append_assoc xs (y ∷ []) ys) (ends-after (xs ++ y ∷ []) ys (ends-push xs y ends))

  -- all of a list passes, or it can be taken apart at the last element that does not
  pub split-last : (xs : List X) → (suffix_len p xs ≡ length xs) ⊎ IsSplit p xs
  split-last xs = ends-after [] xs (inl refl)

-- the rest after an element
pub rest-at : {X : Type 0} (a b : List X) (e : X) → drop (suc (length a)) (a ++ e ∷ b) ≡ b
rest-at [] b e = refl
rest-at (x ∷ a) b e = rest-at a b e

-- and the element itself
pub at-split : {X : Type 0} (a b : List X) (e : X) → slice_get (a ++ e ∷ b) (length a) ≡ Some e
at-split [] b e = refl
at-split (x ∷ a) b e = at-split a b e

-- a longer rest of a list has no fewer elements that pass
pub count-rest : {X : Type 0} (q : X → Bool) (xs : List X) (k m : ℕ) → k ≤ m → count_by q (drop m xs) ≤ count_by q (drop k xs)
count-rest q xs k m le =
    let up : k + (m - k) ≡ m = omega (arith, le) in
    let rest : drop (m - k) (drop k xs) ≡ drop m xs = drop-drop (m - k) k xs ∙ ap (λ n. drop n xs) up in
    omega (arith, sum_by-take-drop (λ x. cond (q x) 1 0) (drop k xs) (m - k), ap (count_by q) rest)

-- neither of two tests passes
neither : (a b : Bool) → (a || b) ≡ false → (a ≡ false) × (b ≡ false)
neither true b h = absurd cc
neither false b h = (refl, h)

-- the pack that is named
pub names-equal : (p : Pack) (o : Option Pack) → names p o ≡ true → o ≡ Some p
names-equal p None h = cc
names-equal p (Some q) h = ap Some (sym (same_pack-equal p q h))

-- the tag that a line has
pub has_tag-equal : (g : Tag) (o : Option Tag) → has_tag g o ≡ true → o ≡ Some g
has_tag-equal g None h = cc
has_tag-equal g (Some h) same = ap Some (sym (same_text-equal g h same))

-- an entry in which a tag was found
pub record IsFound (t : List Entry) (p : Pack) (user : Name) (g : Tag) (place : ℕ) : Type 0 where
  pub entry : Entry
  pub stands : slice_get t place ≡ Some entry
  pub tagged : is_tagged p user g entry ≡ true

some-place : (b : Bool) (n place : ℕ) → cond b (Some n) None ≡ Some place → n ≡ place
some-place true n place h = cc
some-place false n place h = cc

module _ (t : List Entry) (p : Pack) (user : Name) (g : Tag) where
  abbrev Misses : Entry → Bool
  Misses e = not (is_tagged p user g e)

  -- the place of the last entry with the tag
  pub last-at : (s : IsSplit Misses t) → last_tagged t p user g ≡ suc (length s.before)
  last-at s = omega (arith, s.run, ap length s.whole, length-append s.before (s.at ∷ s.after))

  pub entry-at : (s : IsSplit Misses t) → slice_get t (length s.before) ≡ Some s.at
  entry-at s = ap (λ l. slice_get l (length s.before)) s.whole ∙ at-split s.before s.after s.at

  tagged-at : (b : Bool) → not b ≡ false → b ≡ true
  tagged-at true h = refl
  tagged-at false h = cc

  -- a place that is found is that of an entry with the tag
  pub place-found : (place : ℕ) → place_tagged t p user g ≡ Some place → IsFound t p user g place
  place-found place h = by (split-last Misses t)
    where
      by : (suffix_len Misses t ≡ length t) ⊎ IsSplit Misses t → IsFound t p user g place
      by (inl all) =
          let none : last_tagged t p user g ≡ 0 = omega (arith, all) in
          absurd (cc (sym (ap (place_up_to t p) none) ∙ h))
      by (inr s) =
          let told = sym (ap (place_up_to t p) (last-at s)) ∙ h in
          let P : ℕ → Type 0 = λ n. slice_get t n ≡ Some s.at in
          record {
            entry = s.at;
            stands = subst P (some-place (nat_lt (about_of (drop (suc (length s.before)) t) p) entries_looked_over) (length s.before) place told) (entry-at s);
            tagged = tagged-at (is_tagged p user g s.at) s.stops;
          }

-- the entries after a beginning were new after it
AreNewAfter-rest : (w u v : List Entry) → AreNewAfter w (u ++ v) → AreNewAfter (w ++ u) v
AreNewAfter-rest w [] v new = let P : List Entry → Type 0 = λ t. AreNewAfter t v in subst P (sym (append-nil w)) new
AreNewAfter-rest w (e ∷ u) v new =
    let P : List Entry → Type 0 = λ t. AreNewAfter t v in
    subst P (append_assoc w (e ∷ []) u) (AreNewAfter-rest (w ++ e ∷ []) u v new.1)

-- a run of elements that pass, after one that does not
passes-after : {X : Type 0} (p : X → Bool) (xs ys : List X) → list_any (λ y. not (p y)) ys ≡ false → suffix_len p (xs ++ ys) ≡ suffix_len p xs + length ys
passes-after p xs [] h = omega (arith, ap (suffix_len p) (append-nil xs))
passes-after p xs (y ∷ ys) h =
    let here : p y ≡ true = passing (p y) (neither (not (p y)) (list_any (λ y. not (p y)) ys) h).0 in
    let more : suffix_len p (xs ++ y ∷ []) ≡ 1 + suffix_len p xs = suffix_len-push p xs y ∙ ap (λ c. cond c (1 + suffix_len p xs) 0) here in
    let rest = passes-after p (xs ++ y ∷ []) ys (neither (not (p y)) (list_any (λ y. not (p y)) ys) h).1 in
    omega (arith, ap (suffix_len p) (append_assoc xs (y ∷ []) ys), more, rest)
  where
    passing : (b : Bool) → not b ≡ false → b ≡ true
    passing true h = refl
    passing false h = cc

module _ (p : Pack) (user : Name) (g : Tag) where
  abbrev Missed : Entry → Bool
  Missed x = not (is_tagged p user g x)

  none-missed : (xs : List Entry) → list_any (is_tagged p user g) xs ≡ false → list_any (λ x. not (Missed x)) xs ≡ false
  none-missed [] h = refl
  none-missed (x ∷ xs) h =
      let both = neither (is_tagged p user g x) (list_any (is_tagged p user g) xs) h in
      (λ i. not (not (both.0 i)) || list_any (λ x. not (Missed x)) xs) ∙ none-missed xs both.1

  -- no entry with a tag is found if there is none
  pub found-none : (t : List Entry) → list_any (is_tagged p user g) t ≡ false → place_tagged t p user g ≡ None
  found-none t none =
      let all = passes-after Missed [] t (none-missed t none) in
      let at : last_tagged t p user g ≡ 0 = omega (arith, all) in
      ap (place_up_to t p) at

  -- and else the last one is, if fewer than 16 others after it are about the pack
  pub found-last : (u v : List Entry) (e : Entry) → is_tagged p user g e ≡ true → list_any (is_tagged p user g) v ≡ false
      → place_tagged (u ++ e ∷ v) p user g ≡ cond (nat_lt (about_of v p) entries_looked_over) (Some (length u)) None
  found-last u v e tagged last =
      let here : suffix_len Missed (u ++ e ∷ []) ≡ 0 = suffix_len-push Missed u e ∙ ap (λ c. cond (not c) (1 + suffix_len Missed u) 0) tagged in
      let run : suffix_len Missed (u ++ e ∷ v) ≡ length v =
      omega (arith, ap (suffix_len Missed) (append_assoc u (e ∷ []) v), passes-after Missed (u ++ e ∷ []) v (none-missed v last), here) in
      let at : last_tagged (u ++ e ∷ v) p user g ≡ suc (length u) = omega (arith, run, length-append u (e ∷ v)) in
      ap (place_up_to (u ++ e ∷ v) p) at
      ∙ ap (λ (t : List Entry). cond (nat_lt (about_of t p) entries_looked_over) (Some (length u)) None) (rest-at u v e)

-- a question within a day of an entry whose reply lasts is not new next to it
beside-known : (q : Put) (place : ℕ) (e : Entry) → is_in_day e.put.moment q.moment ≡ true → tells_state e.reply ≡ false → beside q place e ≡ repeat.New → ⊥
beside-known q place e day lasting h = by (asks_same q e.put) (sym is ∙ h)
  where
    is : beside q place e ≡ cond (asks_same q e.put) (repeat.Same place e.reply) repeat.Other
    is = ap (λ c. cond c (cond (asks_same q e.put) (beside_same place e) repeat.Other) repeat.New) day
        ∙ ap (λ c. cond (asks_same q e.put) (cond c repeat.New (repeat.Same place e.reply)) repeat.Other) lasting

    by : (b : Bool) → cond b (repeat.Same place e.reply) repeat.Other ≡ repeat.New → ⊥
    by true h = cc
    by false h = cc

-- the test of a day is the day
not-over : (one other : ℕ) → other ≤ one + 86400 → not (nat_lt (one + 86400) other) ≡ true
not-over one other h = grind (arith, nat_tests)

over-not : (one other : ℕ) → not (nat_lt (one + 86400) other) ≡ true → other ≤ one + 86400
over-not one other h = grind (arith, nat_tests)

in-day : (one other : ℕ) → AreInDay one other → is_in_day one other ≡ true
in-day one other h = both_true (not-over one other h.1) (not-over other one h.0)

day-in : (one other : ℕ) → is_in_day one other ≡ true → AreInDay one other
day-in one other h = (over-not other one (second_so (not (nat_lt (one + 86400) other)) _ h), over-not one other (first_so _ _ h))

-- the next entry with a tag comes a day later, or after 16 others about the pack
pub at-most-once : (u v w : List Entry) (e f : Entry) (p : Pack) (user : Name) (g : Tag) → AreNew (u ++ (e ∷ v) ++ (f ∷ w)) → is_tagged p user g e ≡ true → is_tagged p user g f ≡ true
    → list_any (is_tagged p user g) v ≡ false → tells_state e.reply ≡ false → AreInDay e.put.moment f.put.moment → 16 ≤ about_of v p
at-most-once u v w e f p user g new first second last lasting day = late (nat_lt (about_of v p) entries_looked_over) refl
  where
    t : List Entry
    t = u ++ e ∷ v

    is : repeat_of t f.put ≡ repeat_at t f.put (place_tagged t p user g)
    is =
        let by = second_so (is_about p f) _ second in
        let named = names-equal p (pack_of f.put.question) (first_so _ _ second) in
        let tag = has_tag-equal g f.put.tag (first_so _ _ by) in
        let who : user ≡ f.put.user = same_text-equal user f.put.user (second_so (has_tag g f.put.tag) _ by) in
        (λ i. repeat_by t f.put (named i) (tag i)) ∙ ap (λ n. repeat_at t f.put (place_tagged t p n g)) (sym who)

    late : (b : Bool) → nat_lt (about_of v p) entries_looked_over ≡ b → 16 ≤ about_of v p
    late true few =
        let told : repeat_at t f.put (place_tagged t p user g) ≡ beside f.put (length u) e =
        ap (repeat_at t f.put) (found-last p user g u v e first last ∙ ap (λ c. cond c (Some (length u)) None) few) ∙ ap (λ o. option_map_or (beside f.put (length u)) o repeat.New) (at-split u v e) in
        let asked = (AreNewAfter-rest [] (u ++ e ∷ v) (f ∷ w) new).0 in
        absurd (beside-known f.put (length u) e (in-day e.put.moment f.put.moment day) lasting (sym told ∙ sym is ∙ asked))
    late false many = grind (arith, nat_tests)

-- a question that is asked again is answered again
pub answered-again : (u v : List Entry) (e : Entry) (p : Pack) (g : Tag) (moment : ℕ) → pack_of e.put.question ≡ Some p → e.put.tag ≡ Some g
    → list_any (is_tagged p e.put.user g) v ≡ false → about_of v p < 16 → tells_state e.reply ≡ false → AreInDay e.put.moment moment
    → repeat_of (u ++ e ∷ v) (record e.put { moment = moment }) ≡ repeat.Same (length u) e.reply
answered-again u v e p g moment named tag last few lasting day =
    let t : List Entry = u ++ e ∷ v in
    let q : Put = record e.put { moment = moment } in
    let tagged : is_tagged p e.put.user g e ≡ true = (λ i. names p (named i) && (has_tag g (tag i) && same_text e.put.user e.put.user))
    ∙ both_true (same_pack-refl p) (both_true (same_text-refl g) (same_text-refl e.put.user)) in
    let tests : nat_lt (about_of v p) entries_looked_over ≡ true = grind (arith, nat_tests) in
    let same : asks_same q e.put ≡ true = both_true (same_actor-refl e.put.actor) (same_question-refl e.put.question) in
    (λ i. repeat_by t q (named i) (tag i))
    ∙ ap (repeat_at t q) (found-last p e.put.user g u v e tagged last ∙ ap (λ c. cond c (Some (length u)) None) tests)
    ∙ ap (λ o. option_map_or (beside q (length u)) o repeat.New) (at-split u v e)
    ∙ ap (λ c. cond c (cond (asks_same q e.put) (beside_same (length u) e) repeat.Other) repeat.New) (in-day e.put.moment moment day)
    ∙ ap (λ c. cond c (beside_same (length u) e) repeat.Other) same
    ∙ ap (λ c. cond c repeat.New (repeat.Same (length u) e.reply)) lasting

-- the reply of an entry that answers again
pub record IsBeside (q : Put) (n : ℕ) (e : Entry) (place : ℕ) (reply : Reply) : Type 0 where
  pub here : n ≡ place
  pub asks : asks_same q e.put ≡ true
  pub same : reply ≡ e.reply
  pub day : AreInDay e.put.moment q.moment
  pub lasting : tells_state reply ≡ false

beside-same : (q : Put) (n : ℕ) (e : Entry) (place : ℕ) (reply : Reply) → beside q n e ≡ repeat.Same place reply → IsBeside q n e place reply
beside-same q n e place reply h = by (is_in_day e.put.moment q.moment) refl (asks_same q e.put) refl (tells_state e.reply) refl h
  where
    by : (d : Bool) → is_in_day e.put.moment q.moment ≡ d → (s : Bool) → asks_same q e.put ≡ s → (k : Bool) → tells_state e.reply ≡ k
        → cond d (cond s (cond k repeat.New (repeat.Same n e.reply)) repeat.Other) repeat.New ≡ repeat.Same place reply → IsBeside q n e place reply
    by true day true asks false lasting h =
        let is : reply ≡ e.reply = cc in
        record { here = cc; asks = asks; same = is; day = day-in e.put.moment q.moment day; lasting = ap tells_state is ∙ lasting }
    by true day true asks true lasting h = absurd cc
    by true day false asks k lasting h = absurd cc
    by false day s asks k lasting h = absurd cc

module _ (t : List Entry) (q : Put) (place : ℕ) (reply : Reply) where
  repeated-at : (p : Pack) (g : Tag) → q.tag ≡ Some g → (n : ℕ) → IsFound t p q.user g n → repeat_at t q (Some n) ≡ repeat.Same place reply → IsRepeated t q place reply
  repeated-at p g tag n found h =
      let e : Entry = found.entry in
      let told = beside-same q n e place reply (sym (ap (λ o. option_map_or (beside q n) o repeat.New) found.stands) ∙ h) in
      let by = second_so (is_about p e) _ found.tagged in
      let P : ℕ → Type 0 = λ m. slice_get t m ≡ Some e in
      record {
        entry = e;
        stands = subst P told.here found.stands;
        user = sym (same_text-equal q.user e.put.user (second_so (has_tag g e.put.tag) _ by));
        tag = has_tag-equal g e.put.tag (first_so _ _ by) ∙ sym tag;
        actor = sym (same_actor-equal q.actor e.put.actor (first_so _ _ told.asks));
        question = sym (same_question-equal q.question e.put.question (second_so (same_actor q.actor e.put.actor) _ told.asks));
        same = told.same;
        day = told.day;
        lasting = told.lasting;
      }

  -- a reply that is answered again is that of an earlier entry
  pub repeated : repeat_of t q ≡ repeat.Same place reply → IsRepeated t q place reply
  repeated = by (pack_of q.question) q.tag refl
    where
      placed : (p : Pack) (g : Tag) → q.tag ≡ Some g → (o : Option ℕ) → place_tagged t p q.user g ≡ o → repeat_at t q o ≡ repeat.Same place reply → IsRepeated t q place reply
      placed p g tag None is h = cc
      placed p g tag (Some n) is h = repeated-at p g tag n (place-found t p q.user g n is) h

      by : (o : Option Pack) (r : Option Tag) → q.tag ≡ r → repeat_by t q o r ≡ repeat.Same place reply → IsRepeated t q place reply
      by None None tag h = cc
      by None (Some g) tag h = cc
      by (Some p) None tag h = cc
      by (Some p) (Some g) tag h = placed p g tag (place_tagged t p q.user g) refl h

-- each reply of lawful entries is that of the rules
lawful-at : (u es : List Entry) (n : ℕ) (e : Entry) → IsLawfulAfter u es → slice_get es n ≡ Some e → e.reply ≡ reply_of (u ++ take n es) e.put
lawful-at u [] n e lawful h = cc
lawful-at u (x ∷ es) zero e lawful h =
    let P : Entry → Type 0 = λ e. e.reply ≡ reply_of u e.put in
    let Q : List Entry → Type 0 = λ t. e.reply ≡ reply_of t e.put in
    let same : x ≡ e = cc in
    subst Q (sym (append-nil u)) (subst P same lawful.0)
lawful-at u (x ∷ es) (suc n) e lawful h =
    let Q : List Entry → Type 0 = λ t. e.reply ≡ reply_of t e.put in
    subst Q (append_assoc u (x ∷ []) (take n es)) (lawful-at (u ++ x ∷ []) es n e lawful.1 h)

-- a reply that is answered again is that of the rules at the place of its entry
pub repeated-by-rules : (t : List Entry) (q : Put) (place : ℕ) (reply : Reply) → IsLawful t → (again : IsRepeated t q place reply) → reply ≡ reply_of (take place t) again.entry.put
repeated-by-rules t q place reply lawful again = again.same ∙ lawful-at [] t place again.entry lawful again.stands

-- a reply that gives the state of a pack is that of the rules at its moment
pub told-now : (t : List Entry) (q : Put) (said : Reply) → tells_state said ≡ true → answer_of t q ≡ Some said → reply_of t q ≡ said
told-now t q said state = by (repeat_of t q) refl
  where
    put : (b : Bool) → cond b None (Some (reply_of t q)) ≡ Some said → reply_of t q ≡ said
    put true h = cc
    put false h = cc

    by : (r : Repeat) → repeat_of t q ≡ r → reply_by t q r ≡ Some said → reply_of t q ≡ said
    by repeat.New is h = put (is_changed t q) h
    by (repeat.Same place r) is h =
        let again = repeated t q place r is in
        let same : r ≡ said = cc in
        absurd (cc (sym again.lasting ∙ ap tells_state same ∙ state))
    by repeat.Other is h = absurd cc

-- a question whose tag has no entry within its day is new
pub new-unasked : (t : List Entry) (q : Put) → was_asked t q ≡ false → repeat_of t q ≡ repeat.New
new-unasked t q = by (pack_of q.question) q.tag
  where
    day : (place : ℕ) (e : Entry) → is_in_day e.put.moment q.moment ≡ false → beside q place e ≡ repeat.New
    day place e h = ap (λ c. cond c (cond (asks_same q e.put) (beside_same place e) repeat.Other) repeat.New) h

    found : (place : ℕ) (o : Option Entry) → option_map_or (λ e. is_in_day e.put.moment q.moment) o false ≡ false → option_map_or (beside q place) o repeat.New ≡ repeat.New
    found place None h = refl
    found place (Some e) h = day place e h

    at : (o : Option ℕ) → in_day_at t q o ≡ false → repeat_at t q o ≡ repeat.New
    at None h = refl
    at (Some place) h = found place (slice_get t place) h

    by : (o : Option Pack) (r : Option Tag) → was_asked_by t q o r ≡ false → repeat_by t q o r ≡ repeat.New
    by None r h = refl
    by (Some p) None h = refl
    by (Some p) (Some g) h = at (place_tagged t p q.user g) h
