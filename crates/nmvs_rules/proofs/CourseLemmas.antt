-- The course of a pack through its own statuses.
use Rattle.std.proofs.Common.{◌≡◌, Bool, true, false, not, ◌&&◌, ◌||◌, cond, ◌⊎◌, inl, inr, List, [], ◌∷◌, ◌++◌, length, Option, Some, None, IsSomeAnd, refl, sym, ap, subst, ◌∙◌, append-nil, append_assoc}
use Rattle.std.proofs.lemmas.Bool.{or_parts}
use Rattle.std.specs.Cmp.{first_so, second_so}
use Rattle.std.specs.Cmp.Derive.{both_true}
use Rattle.std.specs.List.{list_any}
use Rattle.std.specs.Option.{is_some}
use Rattle.nmvs_identifier.specs.declared.pack.Pack.{Pack}
use Rattle.nmvs_rules.specs.declared.reason.Reason.{Reason}
use Rattle.nmvs_rules.specs.declared.reason.Reason.TheVariants as reason
use Rattle.nmvs_rules.specs.declared.question.Question.{Question}
use Rattle.nmvs_rules.specs.declared.question.Question.TheVariants.{Upload, OfPack, OfBatch}
use Rattle.nmvs_rules.specs.declared.pack_question.PackQuestion.TheVariants.{Decommission, Handover, Revert, Theft}
use Rattle.nmvs_rules.specs.declared.own_status.OwnStatus.{OwnStatus}
use Rattle.nmvs_rules.specs.declared.own_status.OwnStatus.TheVariants as own
use Rattle.nmvs_rules.specs.declared.entry.Entry.{Entry}
use Rattle.nmvs_rules.specs.declared.facts.Known.{Known}
use Rattle.nmvs_rules.specs.Questions.{pack_of, names}
use Rattle.nmvs_rules.specs.Trail.{known, marked_by, born_by, mark_after, accepts, is_about, is_mark, is_upload, own_given, own_by_reason}
use Rattle.nmvs_rules.specs.Rules.{is_active, is_held, is_stolen, is_destroyed, is_supplied, reply_of, IsLawfulAfter, IsLawful}
use Rattle.nmvs_rules.specs.Operations.{uploads, decommissions, hands_over, supplies, reverts, confirms, goes_on, operates}
use Rattle.nmvs_rules.specs.Laws.{is_handover, may_become, IsMovedOn, IsBorn}
use Rattle.nmvs_rules.proofs.Accepted.{accepted_upload, accepted_decommissioning, accepted_supply, accepted_reversion, is_decommissioning, is_supply, is_reversion, is_theft, uploads-is, decommissions-is, hands_over-is, supplies-is, reverts-is, confirms-is, operates-is, left}
use Rattle.nmvs_rules.proofs.PushLemmas.{known-push}
use Rattle.nmvs_rules.proofs.LawfulLemmas.{IsLawful-rest, IsLawfulAfter-first, IsLawfulAfter-keeps}
use Rattle.nmvs_rules.proofs.ReplyLemmas.{KnownAnd, known-holds, accepted_upload-tells, accepted_decommissioning-tells, accepted_handover-tells, accepted_reversion-tells, authentic_answer-tells, thefts-tells}

-- a decommissioned pack is not active
pub decommissioned-not_active : (q : Question) → is_decommissioning q ≡ true → is_active (own_given q) ≡ false
decommissioned-not_active (OfPack (Decommission reason.Supply) p) h = refl
decommissioned-not_active (OfPack (Decommission reason.Hold) p) h = refl
decommissioned-not_active (OfPack (Decommission reason.Export) p) h = refl
decommissioned-not_active (OfPack (Decommission reason.Sample) p) h = refl
decommissioned-not_active (OfPack (Decommission reason.Destroy) p) h = refl
decommissioned-not_active q h = cc

decommissioned : (o : OwnStatus) (w : Reason) → is_active o ≡ true → may_become o (own_by_reason w) ≡ true
decommissioned own.Active reason.Supply h = refl
decommissioned own.Active reason.Hold h = refl
decommissioned own.Active reason.Export h = refl
decommissioned own.Active reason.Sample h = refl
decommissioned own.Active reason.Destroy h = refl
decommissioned o w h = cc

handed_over : (o : OwnStatus) → is_held o ≡ true → may_become o own.Supplied ≡ true
handed_over own.Held h = refl
handed_over o h = cc

reverted : (o : OwnStatus) → is_active o ≡ false → is_stolen o ≡ false → is_destroyed o ≡ false → is_supplied o ≡ false → may_become o own.Active ≡ true
reverted own.Active active stolen destroyed supplied = sym active
reverted own.Held active stolen destroyed supplied = refl
reverted own.Supplied active stolen destroyed supplied = sym supplied
reverted own.Exported active stolen destroyed supplied = refl
reverted own.Sampled active stolen destroyed supplied = refl
reverted own.Destroyed active stolen destroyed supplied = sym destroyed
reverted own.Stolen active stolen destroyed supplied = sym stolen

stolen : (o : OwnStatus) → is_stolen o ≡ false → may_become o own.Stolen ≡ true
stolen own.Stolen h = sym h
stolen own.Active h = refl
stolen o h = refl

-- an accepted operation on a known pack moves it on along its course
course : (t : List Entry) (e : Entry) (p : Pack) (k : Known) → e.reply ≡ reply_of t e.put → known t p ≡ Some k → is_mark p e ≡ true → may_become k.own (own_given e.put.question) ≡ true
course t e p k lawful is marks = by e.put.question refl
  where
    by : (q : Question) → e.put.question ≡ q → may_become k.own (own_given q) ≡ true
    by (Upload s b x) h =
        let born : accepted_upload p e ≡ true = both_true (both_true (ap is_upload h) (first_so _ _ marks)) (second_so (is_about p e) _ marks) in
        let none : true ≡ false = sym (ap is_some is) ∙ accepted_upload-tells t e p lawful born in cc
    by (OfPack (Decommission w) s) h =
        decommissioned k.own w (known-holds t p k _ is (accepted_decommissioning-tells t e p lawful (both_true marks (ap is_decommissioning h)))).active
    by (OfPack Handover s) h =
        handed_over k.own (known-holds t p k _ is (accepted_handover-tells t e p lawful (both_true marks (ap is_handover h)))).held
    by (OfPack Revert s) h =
        let tells = known-holds t p k _ is (accepted_reversion-tells t e p lawful (both_true marks (ap is_reversion h))) in
        reverted k.own tells.not_active tells.not_stolen tells.not_destroyed tells.not_supplied
    by (OfPack Theft s) h =
        stolen k.own (known-holds t p k _ is (thefts-tells t e p lawful (both_true marks (ap is_theft h))))
    by (OfBatch _ c b) h = let none : false ≡ true = sym (ap (λ q. names p (pack_of q) && accepts q e.reply) h) ∙ marks in cc
    by q h =
        let none : false ≡ true = second_so (names p (pack_of q)) (accepts q e.reply) (sym (ap (λ q. names p (pack_of q) && accepts q e.reply) h) ∙ marks) in cc

-- the values known of a pack after an accepted operation on it
known-after-mark : (t : List Entry) (e : Entry) (p : Pack) (k : Known) → known t p ≡ Some k → is_mark p e ≡ true → known (t ++ e ∷ []) p ≡ Some (record k { own = own_given e.put.question; mark = mark_after (length t) e })
known-after-mark t e p k is marks =
    known-push t e p
    ∙ ap (λ b. cond b (marked_by (length t) e (known t p)) (known t p)) marks
    ∙ ap (marked_by (length t) e) is

known-after-other : (t : List Entry) (e : Entry) (p : Pack) → is_mark p e ≡ false → known (t ++ e ∷ []) p ≡ known t p
known-after-other t e p other = known-push t e p ∙ ap (λ b. cond b (marked_by (length t) e (known t p)) (known t p)) other

-- an entry that is no operation on a pack leaves the values known of it
pub kept-by-other : (t : List Entry) (e : Entry) (p : Pack) → operates p e ≡ false → known (t ++ e ∷ []) p ≡ known t p
kept-by-other t e p other = known-after-other t e p (sym (operates-is p e) ∙ other)

-- an operation on a known pack moves it on
pub moved-on : (before after : List Entry) (e : Entry) (p : Pack) (k : Known) → IsLawful (before ++ e ∷ after) → known before p ≡ Some k → operates p e ≡ true → IsSomeAnd (known (before ++ e ∷ []) p) (IsMovedOn k (length before) e)
moved-on before after e p k lawful is operation =
    let marks : is_mark p e ≡ true = sym (operates-is p e) ∙ operation in
    let P : Option Known → Type 0 = λ o. IsSomeAnd o (IsMovedOn k (length before) e) in
    subst P (sym (known-after-mark before e p k is marks))
    (record {
      left = left p e.put.question e.reply marks;
      course = course before e p k (IsLawful-rest before (e ∷ after) lawful).0 is marks;
      batch = refl;
      expiry = refl;
      mark = refl;
    })

-- an unknown pack becomes known by its upload, and by nothing else
pub born-known : (t : List Entry) (e : Entry) (p : Pack) → known t p ≡ None → uploads p e ≡ true → IsSomeAnd (known (t ++ e ∷ []) p) (IsBorn (length t) e)
born-known t e p unknown uploaded = by e.put.question refl (sym (uploads-is p e) ∙ uploaded)
  where
    P : Option Known → Type 0
    P o = IsSomeAnd o (IsBorn (length t) e)

    by : (q : Question) → e.put.question ≡ q → accepted_upload p e ≡ true → P (known (t ++ e ∷ []) p)
    by (Upload s b x) is born =
        let marks : is_mark p e ≡ true = both_true (second_so (is_upload e.put.question) _ (first_so _ _ born)) (second_so (is_upload e.put.question && is_about p e) _ born) in
        let made : known (t ++ e ∷ []) p ≡ Some (record { batch = b; expiry = x; own = own.Active; mark = mark_after (length t) e }) =
        known-push t e p
        ∙ (λ i. cond (marks i) (marked_by (length t) e (unknown i)) (known t p))
        ∙ ap (born_by (length t) e) is in
        subst P (sym made) (record { pack = s; question = is; active = refl; mark = refl })
    by q is born = let none : false ≡ true = sym (ap is_upload is) ∙ first_so (is_upload e.put.question) _ (first_so _ _ born) in cc

-- an unknown pack becomes known by an upload alone
pub stays-unknown : (t : List Entry) (e : Entry) (p : Pack) → known t p ≡ None → uploads p e ≡ false → known (t ++ e ∷ []) p ≡ None
stays-unknown t e p unknown other = known-push t e p ∙ by (is_mark p e) refl
  where
    none : (q : Question) → e.put.question ≡ q → is_mark p e ≡ true → born_by (length t) e q ≡ None
    none (Upload s b x) is marks =
        let born : accepted_upload p e ≡ true = both_true (both_true (ap is_upload is) (first_so _ _ marks)) (second_so (is_about p e) _ marks) in
        let wrong : false ≡ true = sym other ∙ uploads-is p e ∙ born in cc
    none q is marks = refl

    by : (b : Bool) → is_mark p e ≡ b → cond b (marked_by (length t) e (known t p)) (known t p) ≡ None
    by true marks = ap (marked_by (length t) e) unknown ∙ none e.put.question refl marks
    by false marks = unknown

-- the pack is known, and its own status passes a test
abbrev pub Stands : (OwnStatus → Bool) → List Entry → Pack → Type 0
Stands passes t p = KnownAnd t p (λ k. passes k.own ≡ true)

-- a test on own statuses that holds along the course holds of a pack for ever
Stands-push : (passes : OwnStatus → Bool) → ((o w : OwnStatus) → passes o ≡ true → may_become o w ≡ true → passes w ≡ true) → (t : List Entry) (e : Entry) (p : Pack) → Stands passes t p → e.reply ≡ reply_of t e.put → Stands passes (t ++ e ∷ []) p
Stands-push passes keeps t e p h lawful = by (is_mark p e) refl
  where
    by : (b : Bool) → is_mark p e ≡ b → Stands passes (t ++ e ∷ []) p
    by true marks = (
      record h.0 { own = own_given e.put.question; mark = mark_after (length t) e },
      known-after-mark t e p h.0 h.1 marks,
      keeps h.0.own (own_given e.put.question) h.2 (course t e p h.0 lawful h.1 marks),
    )
    by false other = (h.0, known-after-other t e p other ∙ h.1, h.2)

-- a pack that was supplied: it is Supplied, or else Stolen
abbrev is_gone : OwnStatus → Bool
is_gone o = is_supplied o || is_stolen o

gone-keeps : (o w : OwnStatus) → is_gone o ≡ true → may_become o w ≡ true → is_gone w ≡ true
gone-keeps own.Supplied own.Active h m = m
gone-keeps own.Supplied own.Held h m = m
gone-keeps own.Supplied own.Supplied h m = refl
gone-keeps own.Supplied own.Exported h m = m
gone-keeps own.Supplied own.Sampled h m = m
gone-keeps own.Supplied own.Destroyed h m = m
gone-keeps own.Supplied own.Stolen h m = refl
gone-keeps own.Stolen w h m = let none : false ≡ true = m in cc
gone-keeps o w h m = let none : false ≡ true = h in cc

supply-gone : (q : Question) → is_supply q ≡ true → ((is_decommissioning q ≡ true) ⊎ (is_handover q ≡ true)) × (is_gone (own_given q) ≡ true)
supply-gone (OfPack (Decommission reason.Supply) s) h = (inl refl, refl)
supply-gone (OfPack Handover s) h = (inr refl, refl)
supply-gone q h = let none : false ≡ true = h in (inl cc, cc)

gone-not_active : (o : OwnStatus) → is_gone o ≡ true → is_active o ≡ true → true ≡ false
gone-not_active own.Active gone active = sym gone
gone-not_active o gone active = sym active

gone-not_held : (o : OwnStatus) → is_gone o ≡ true → is_held o ≡ true → true ≡ false
gone-not_held own.Held gone held = sym gone
gone-not_held o gone held = sym held

gone-not_reversible : (o : OwnStatus) → is_gone o ≡ true → is_supplied o ≡ false → is_stolen o ≡ false → true ≡ false
gone-not_reversible own.Supplied gone supplied robbed = supplied
gone-not_reversible own.Stolen gone supplied robbed = robbed
gone-not_reversible o gone supplied robbed = sym gone

-- a test whose passing is absurd fails
pub never : (b : Bool) → (b ≡ true → true ≡ false) → b ≡ false
never true h = h refl
never false h = refl

-- the facts that a lawful trail gives of an entry d after an entry e
pub record Behind (u v : List Entry) (e d : Entry) : Type 0 where
  pub first : e.reply ≡ reply_of u e.put
  pub between : IsLawfulAfter (u ++ e ∷ []) v
  pub later : d.reply ≡ reply_of (u ++ e ∷ v) d.put

-- an entry after another entry of a lawful trail
pub behind : (before between after : List Entry) (e later : Entry) → IsLawful (before ++ e ∷ between ++ later ∷ after) → Behind before between e later
behind before between after e later lawful =
    let at_e = IsLawful-rest before (e ∷ between) (IsLawfulAfter-first [] (before ++ e ∷ between) (later ∷ after) lawful) in
    record { first = at_e.0; between = at_e.1; later = (IsLawful-rest (before ++ e ∷ between) (later ∷ after) lawful).0 }

-- a property that an entry makes true, and that each lawful entry after it keeps, is true after it
pub behind-keeps : (P : List Entry → Type 0) → ((t : List Entry) (e : Entry) → P t → e.reply ≡ reply_of t e.put → P (t ++ e ∷ [])) → (u v : List Entry) (e : Entry) → P (u ++ e ∷ []) → IsLawfulAfter (u ++ e ∷ []) v → P (u ++ e ∷ v)
behind-keeps P step u v e h lawful = subst P (append_assoc u (e ∷ []) v) (IsLawfulAfter-keeps P step (u ++ e ∷ []) v h lawful)

-- an entry that does none of the four does not let the pack go on
pub stays-by : (p : Pack) (e : Entry) → decommissions p e ≡ false → hands_over p e ≡ false → reverts p e ≡ false → confirms p e ≡ false → goes_on p e ≡ false
stays-by p e d h r c = rw (d, h, r, c) refl

-- after the supply of a pack it does not go on
pub supplied-once : (before between after : List Entry) (supply later : Entry) (p : Pack) → IsLawful (before ++ supply ∷ between ++ later ∷ after) → supplies p supply ≡ true → goes_on p later ≡ false
supplied-once before between after supply later p lawful supplied_by =
    stays-by p later
    (decommissions-is p later ∙ never _ (λ d. let a = known-holds t p gone.0 _ gone.1 (accepted_decommissioning-tells t later p at.later d) in gone-not_active gone.0.own gone.2 a.active))
    (hands_over-is p later ∙ never _ (λ h. let a = known-holds t p gone.0 _ gone.1 (accepted_handover-tells t later p at.later h) in gone-not_held gone.0.own gone.2 a.held))
    (reverts-is p later ∙ never _ (λ r. let a = known-holds t p gone.0 _ gone.1 (accepted_reversion-tells t later p at.later r) in gone-not_reversible gone.0.own gone.2 a.not_supplied a.not_stolen))
    (confirms-is p later ∙ never _ (λ c. let a = known-holds t p gone.0 _ gone.1 (authentic_answer-tells t later p at.later c) in gone-not_active gone.0.own gone.2 a.active))
  where
    t : List Entry
    t = before ++ supply ∷ between

    h : accepted_supply p supply ≡ true
    h = sym (supplies-is p supply) ∙ supplied_by

    at : Behind before between supply later
    at = behind before between after supply later lawful

    marks : is_mark p supply ≡ true
    marks = first_so (is_mark p supply) _ h

    kind : ((is_decommissioning supply.put.question ≡ true) ⊎ (is_handover supply.put.question ≡ true)) × (is_gone (own_given supply.put.question) ≡ true)
    kind = supply-gone supply.put.question (second_so (is_mark p supply) _ h)

    pack : (is_decommissioning supply.put.question ≡ true) ⊎ (is_handover supply.put.question ≡ true) → (k : Known) × (known before p ≡ Some k)
    pack (inl d) = let k = accepted_decommissioning-tells before supply p at.first (both_true marks d) in (k.0, k.1)
    pack (inr h) = let k = accepted_handover-tells before supply p at.first (both_true marks h) in (k.0, k.1)

    supplied : Stands is_gone (before ++ supply ∷ []) p
    supplied =
        let k = pack kind.0 in
        (record k.0 { own = own_given supply.put.question; mark = mark_after (length before) supply }, known-after-mark before supply p k.0 k.1 marks, kind.1)

    gone : Stands is_gone t p
    gone = behind-keeps (λ z. Stands is_gone z p) (λ z e k l. Stands-push is_gone gone-keeps z e p k l) before between supply supplied at.between

-- an accepted operation other than a reversion leaves a known pack out of circulation
abbrev is_out : OwnStatus → Bool
is_out o = not (is_active o)

out-keeps : (t : List Entry) (e : Entry) (p : Pack) → Stands is_out t p → e.reply ≡ reply_of t e.put → accepted_reversion p e ≡ false → Stands is_out (t ++ e ∷ []) p
out-keeps t e p h lawful unreverted = by (is_mark p e) refl
  where
    out : (q : Question) → e.put.question ≡ q → is_mark p e ≡ true → is_out (own_given q) ≡ true
    out (OfPack (Decommission w) s) is marks = ap not (decommissioned-not_active (OfPack (Decommission w) s) refl)
    out (OfPack Handover s) is marks = refl
    out (OfPack Theft s) is marks = refl
    out (OfPack Revert s) is marks = let none : false ≡ true = sym unreverted ∙ both_true marks (ap is_reversion is) in cc
    out (Upload s b x) is marks =
        let born : accepted_upload p e ≡ true = both_true (both_true (ap is_upload is) (first_so _ _ marks)) (second_so (is_about p e) _ marks) in
        let none : true ≡ false = sym (ap is_some h.1) ∙ accepted_upload-tells t e p lawful born in cc
    out (OfBatch _ c b) is marks = let none : false ≡ true = sym (ap (λ q. names p (pack_of q) && accepts q e.reply) is) ∙ marks in cc
    out q is marks =
        let none : false ≡ true = second_so (names p (pack_of q)) (accepts q e.reply) (sym (ap (λ q. names p (pack_of q) && accepts q e.reply) is) ∙ marks) in cc

    by : (b : Bool) → is_mark p e ≡ b → Stands is_out (t ++ e ∷ []) p
    by true marks =
        (record h.0 { own = own_given e.put.question; mark = mark_after (length t) e }, known-after-mark t e p h.0 h.1 marks, out e.put.question refl marks)
    by false other = (h.0, known-after-other t e p other ∙ h.1, h.2)

-- a pack that is out of circulation stays out, if no entry reverts it
stays-out : (u es : List Entry) (p : Pack) → Stands is_out u p → IsLawfulAfter u es → list_any (accepted_reversion p) es ≡ false → Stands is_out (u ++ es) p
stays-out u [] p h lawful unreverted = let P : List Entry → Type 0 = λ t. Stands is_out t p in subst P (sym (append-nil u)) h
stays-out u (e ∷ es) p h lawful unreverted =
    let P : List Entry → Type 0 = λ t. Stands is_out t p in
    let neither = or_parts (accepted_reversion p e) (list_any (accepted_reversion p) es) unreverted in
    subst P (append_assoc u (e ∷ []) es)
    (stays-out (u ++ e ∷ []) es p (out-keeps u e p h lawful.0 neither.0) lawful.1 neither.1)

-- between two decommissionings of a pack stands a reversion
pub reverted-between : (before between after : List Entry) (first second : Entry) (p : Pack) → IsLawful (before ++ first ∷ between ++ second ∷ after) → decommissions p first ≡ true → decommissions p second ≡ true → list_any (reverts p) between ≡ true
reverted-between before between after first second p lawful at_first at_second =
    (λ i. list_any (λ e. reverts-is p e i) between) ∙ by (list_any (accepted_reversion p) between) refl
  where
    h : accepted_decommissioning p first ≡ true
    h = sym (decommissions-is p first) ∙ at_first

    k : accepted_decommissioning p second ≡ true
    k = sym (decommissions-is p second) ∙ at_second

    at : Behind before between first second
    at = behind before between after first second lawful

    out : Stands is_out (before ++ first ∷ []) p
    out =
        let pack = accepted_decommissioning-tells before first p at.first h in (
          record pack.0 { own = own_given first.put.question; mark = mark_after (length before) first },
          known-after-mark before first p pack.0 pack.1 (first_so (is_mark p first) _ h),
          ap not (decommissioned-not_active first.put.question (second_so (is_mark p first) _ h)),
        )

    by : (b : Bool) → list_any (accepted_reversion p) between ≡ b → b ≡ true
    by true is = refl
    by false is =
        let P : List Entry → Type 0 = λ t. Stands is_out t p in
        let pack : Stands is_out (before ++ first ∷ between) p =
        subst P (append_assoc before (first ∷ []) between) (stays-out (before ++ first ∷ []) between p out at.between is) in
        let authentic = known-holds (before ++ first ∷ between) p pack.0 _ pack.1 (accepted_decommissioning-tells (before ++ first ∷ between) second p at.later k) in
        sym (ap not authentic.active) ∙ pack.2
