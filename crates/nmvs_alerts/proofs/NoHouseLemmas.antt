-- No house is shown to a holder.
use Rattle.std.proofs.Common.{◌≡◌, ◌↔◌, ◌∙◌, ◌++◌, ◌∷◌, ◌-◌, [], ℕ, List, Bool, true, false, Option, Some, None, ap, cond, drop, length, map, refl, subst, sym, take}
use Rattle.std.specs.Prelude.{◌&&◌, ◌||◌, ◌==◌, codes, decimal, filter, find, nat_le}
use Rattle.std.specs.List.{AllZip, flat_map, list_any, slice_get}
use Rattle.std.specs.Option.{is_none, is_some, option_map, option_map_or}
use Rattle.std.specs.Str.{bytes_eq}
use Rattle.std.proofs.lemmas.Bool.{and_parts}
use Rattle.std.proofs.lemmas.List.{drop-map, length-map, map-append, take-map}
use Rattle.std.proofs.lemmas.Option.{slice_get-map}
use Rattle.nmvs_identifier.specs.Batch.{Batch}
use Rattle.nmvs_identifier.specs.Name.{Name}
use Rattle.nmvs_identifier.specs.ProductCode.{ProductCode}
use Rattle.nmvs_identifier.specs.Texts.{same_text}
use Rattle.nmvs_identifier.specs.declared.pack.Pack.{Pack}
use Rattle.nmvs_inspect.specs.Filter as filters
use Rattle.nmvs_inspect.specs.declared.filter.Filter.{Filter}
use Rattle.nmvs_reports.specs.Alerts.{is_named}
use Rattle.nmvs_reports.specs.declared.alert_name.AlertName.{AlertName}
use Rattle.nmvs_rules.specs.declared.entry.Entry.{Entry}
use Rattle.nmvs_rules.specs.declared.facts.Known.{Known}
use Rattle.nmvs_rules.specs.declared.put.Put.{Put}
use Rattle.nmvs_rules.specs.declared.question.Question.{Question}
use Rattle.nmvs_rules.specs.Facts.{pack_fact}
use Rattle.nmvs_rules.specs.Questions.{code_of, names, pack_of}
use Rattle.nmvs_rules.specs.Trail.{holder_of, is_about, known}
use Rattle.nmvs_words.specs.Kinds.{kind_of, kind_word}
use Rattle.nmvs_words.specs.Words.{cause_word, role_word}
use Rattle.nmvs_cases.specs.declared.act.Act.{Act}
use Rattle.nmvs_cases.specs.declared.act.Act.TheVariants.{Take, Leave, Note, Close, Confirm, Inform, Reopen}
use Rattle.nmvs_cases.specs.declared.act.Verdict.TheVariants.{Technical}
use Rattle.nmvs_cases.specs.declared.act.Whom.TheVariants.{Agency}
use Rattle.nmvs_cases.specs.declared.author.Author.{Author}
use Rattle.nmvs_cases.specs.declared.author.Author.TheVariants.{Officer, User}
use Rattle.nmvs_cases.specs.declared.case.Case.{Case}
use Rattle.nmvs_cases.specs.declared.case.Case.TheVariants.{Open, Taken, Closed, Confirmed}
use Rattle.nmvs_cases.specs.declared.line.CaseLine.{CaseLine}
use Rattle.nmvs_cases.specs.declared.range.Hinted.{Hinted}
use Rattle.nmvs_cases.specs.ActWords.{act_word}
use Rattle.nmvs_cases.specs.Authors.{author_user}
use Rattle.nmvs_cases.specs.Cases.{has, is_hinted as range_hinted, is_listed}
use Rattle.nmvs_alerts.specs.declared.alert.FlaggedAlert.{FlaggedAlert}
use Rattle.nmvs_alerts.specs.declared.flagged.Flagged.{Flagged}
use Rattle.nmvs_alerts.specs.declared.numbers.Counted.{Counted}
use Rattle.nmvs_alerts.specs.declared.selection.AlertFilter.{AlertFilter}
use Rattle.nmvs_alerts.specs.declared.selection.Wanted.{Wanted}
use Rattle.nmvs_alerts.specs.declared.selection.Wanted.TheVariants as wants
use Rattle.nmvs_alerts.specs.Alerts.{Investigated, ShownLine, alert_of, flagged_in, flagged_of, is_meant, is_shown, lines_of, places_about, raised}
use Rattle.nmvs_alerts.specs.Answers.{acts_text, alert_named, is_it, last_moment, may_ask, number_of, of_code, one_text, range_text, ranged, reader_text, stands_text, story_of, story_text, user_text}
use Rattle.nmvs_alerts.specs.Json.{joined, led, named, number_member, text_member}
use Rattle.nmvs_alerts.specs.Laws.{NoHouseIsShown, one_of, range_of}
use Rattle.nmvs_alerts.specs.Numbers.{IsCounted, hint_place, listed_place, seen as counted_seen, seen_as, state_place}
use Rattle.nmvs_alerts.specs.One.{alert_text, before, behind, informed_text, known_text, may, may_text, those_of, verdict_of}
use Rattle.nmvs_alerts.specs.Pages.{alerts_text, found_text, is_hinted, letter_of, next_of, place_text, row_of}
use Rattle.nmvs_alerts.specs.Renaming.{Renaming, RenamesOthers, holder, renamed, renamed_author, renamed_entry, renamed_line, renamed_put, renamed_shown}
use Rattle.nmvs_alerts.specs.Rows.{case_word, front_text, hint_text, pack_text, row_text, state_text}
use Rattle.nmvs_alerts.specs.Selection.{has_case, has_hint, is_behind, is_wanted, is_wanted_alert, selected, takes, wanted}
use Rattle.nmvs_alerts.specs.Story.{front_of, line_for, seen, shown_front, without_house}
use Rattle.nmvs_alerts.specs.Viewing.{is_holder, may_see}
use Rattle.nmvs_alerts.proofs.RenamingLemmas.{Keeps, alert-same, fact-same, find-map, flagged-same, holder-same, knows-same, other_alert, other_case, other_flagged, other_known, others, raised-same, same-one}

keeps : (r : Renaming) (u a : Name) → RenamesOthers r u a → Keeps r
keeps r u a o = record { users = o.users; authorisations = o.authorisations; premises = o.premises }

-- ---- lists

case-word : (r : Renaming) (s : Case) → case_word (other_case r s) ≡ case_word s
case-word r Open = refl
case-word r (Taken by) = refl
case-word r (Closed v) = refl
case-word r (Confirmed i) = refl

row-same : (r : Renaming) (x : FlaggedAlert) → row_text (other_alert r x) false ≡ row_text x false
unfolding row_text front_text pack_text state_text
row-same r x =
    ap (λ (w : List ℕ). front_text x ++ (pack_text x.entry.put ++ ((text_member (codes "cause") (cause_word x.cause)
    ++ (text_member (codes "hint") (hint_text x.hint) ++ text_member (codes "state") w)) ++ []))) (case-word r x.case)

whole-row : (r : Renaming) (t : List Entry) (f : Flagged) → row_of (others r t) false (other_flagged r f) ≡ row_of t false f
unfolding row_of
whole-row r t f = ap (λ (o : Option FlaggedAlert). option_map_or (λ a. row_text a false ++ codes "}") o []) (alert-same r t f) ∙ by (alert_of t f)
  where
    by : (o : Option FlaggedAlert) → option_map_or (λ a. row_text a false ++ codes "}") (option_map (other_alert r) o) [] ≡ option_map_or (λ a. row_text a false ++ codes "}") o []
    by None = refl
    by (Some x) = ap (λ (text : List ℕ). text ++ codes "}") (row-same r x)

led-map : {X : Type 0} (m : X → X) (p q : X → List ℕ) → ((x : X) → p (m x) ≡ q x) → (xs : List X) → flat_map (led p) (map m xs) ≡ flat_map (led q) xs
led-map m p q same [] = refl
led-map m p q same (x ∷ xs) = λ i. (44 ∷ same x i) ++ led-map m p q same xs i

joined-map : {X : Type 0} (m : X → X) (p q : X → List ℕ) → ((x : X) → p (m x) ≡ q x) → (xs : List X) → joined p (map m xs) ≡ joined q xs
joined-map m p q same [] = refl
joined-map m p q same (x ∷ xs) = λ i. same x i ++ led-map m p q same xs i

has_case-same : (r : Renaming) (w : Wanted) (s : Case) → has_case w (other_case r s) ≡ has_case w s
has_case-same r w Open = refl
has_case-same r w (Closed v) = refl
has_case-same r w (Confirmed i) = refl
has_case-same r wants.Listed (Taken by) = refl
has_case-same r wants.Any (Taken by) = refl
has_case-same r wants.Open (Taken by) = refl
has_case-same r wants.Taken (Taken by) = refl
has_case-same r wants.Closed (Taken by) = refl
has_case-same r wants.Confirmed (Taken by) = refl

-- a filter that asks for nobody takes the same entries
pub record AsksNobody (f : Filter) : Type 0 where
  pub user : is_none f.user ≡ true
  pub authorisation : is_none f.authorisation ≡ true
  pub premises : is_none f.premises ≡ true

wanted-none : {X : Type 0} (p q : X → Bool) (o : Option X) → is_none o ≡ true → filters.is_wanted p o ≡ filters.is_wanted q o
wanted-none p q None none = refl
wanted-none p q (Some x) none = cc

uploaded-same : (r : Renaming) (b : Batch) (k : Option Known) → filters.is_uploaded_in b (option_map (other_known r) k) ≡ filters.is_uploaded_in b k
uploaded-same r b None = refl
uploaded-same r b (Some k) = refl

locks-same : (r : Renaming) (p : Pack) (q : Question) (k : Option Known) → filters.locks_batch_of p q (option_map (other_known r) k) ≡ filters.locks_batch_of p q k
locks-same r p q None = refl
locks-same r p q (Some k) = refl

of_batch-same : (r : Renaming) (t : List Entry) (q : Question) (b : Batch) → filters.is_of_batch (others r t) q b ≡ filters.is_of_batch t q b
of_batch-same r t q b =
    ap (λ (x : Bool). filters.is_batch_named b (filters.named_batch q) || x)
    (ap (filters.is_uploaded_in b) (fact-same r t (knows-same r t) (pack_of q)) ∙ uploaded-same r b (pack_fact t (pack_of q)))

of_pack-same : (r : Renaming) (t : List Entry) (q : Question) (p : Pack) → filters.is_of_pack (others r t) q p ≡ filters.is_of_pack t q p
of_pack-same r t q p =
    ap (λ (x : Bool). names p (pack_of q) || x) (ap (filters.locks_batch_of p q) (knows-same r t p) ∙ locks-same r p q (known t p))

asked-same : (r : Renaming) (t : List Entry) (f : Filter) (q : Question) → filters.is_asked f (others r t) q ≡ filters.is_asked f t q
asked-same r t f q = λ i.
    filters.is_wanted (λ k. bytes_eq (kind_word (kind_of q)) (kind_word k)) f.question && filters.is_wanted (same_text (code_of q)) f.code
    && filters.is_wanted (λ s. filters.has_serial s (pack_of q)) f.serial && filters.is_wanted (λ b. of_batch-same r t q b i) f.batch
    && filters.is_wanted (λ p. of_pack-same r t q p i) f.pack

asked_by-same : (r : Renaming) (f : Filter) (q : Put) → AsksNobody f → filters.is_asked_by f (renamed_put r q) ≡ filters.is_asked_by f q
asked_by-same r f q none = λ i.
    wanted-none (same_text (r.user q.user)) (same_text q.user) f.user none.user i
    && filters.is_wanted (λ w. bytes_eq (role_word q.actor.role) (role_word w)) f.role
    && wanted-none (same_text (r.authorisation q.actor.authorisation)) (same_text q.actor.authorisation) f.authorisation none.authorisation i
    && wanted-none (same_text (r.premises q.actor.premises)) (same_text q.actor.premises) f.premises none.premises i

entry-taken : (r : Renaming) (t : List Entry) (f : Filter) (e : Entry) → AsksNobody f → filters.takes f (others r t) (renamed_entry r e) ≡ filters.takes f t e
entry-taken r t f e none = λ i.
    filters.is_in_days f e.put.moment && asked_by-same r f e.put none i && filters.is_answered f e.reply && filters.is_wanted (λ name. is_named name e) f.alert
    && asked-same r t f e.put.question i

alert-taken : (r : Renaming) (t : List Entry) (f : AlertFilter) (x : FlaggedAlert) → AsksNobody f.entries → takes f (others r t) (other_alert r x) ≡ takes f t x
alert-taken r t f x none = λ i.
    filters.is_wanted (λ c. bytes_eq (cause_word x.cause) (cause_word c)) f.cause && range_hinted f.hinted x.hint && has_case-same r f.wanted x.case i
    && entry-taken r t f.entries x.entry none i

-- the holder's product codes are the same
see-same : (r : Renaming) (u a p : Name) → RenamesOthers r u a → (t : List Entry) (q : Put) → may_see (others r t) (holder u a p) (renamed_put r q) ≡ may_see t (holder u a p) q
see-same r u a p o t q = ap (is_holder a) (holder-same r t (code_of q.question)) ∙ by (holder_of t (code_of q.question))
  where
    by : (h : Option Name) → is_holder a (option_map r.authorisation h) ≡ is_holder a h
    by None = refl
    by (Some h) = ap (λ (n : Name). same_text n (r.authorisation h)) (sym o.own_authorisation) ∙ same-one r.authorisation o.authorisations a h

is_wanted-same : (r : Renaming) (u a p : Name) → RenamesOthers r u a → (t : List Entry) (f : AlertFilter) → AsksNobody f.entries → (hinted : Bool) (x : Flagged)
    → is_wanted (others r t) (holder u a p) f hinted (other_flagged r x) ≡ is_wanted t (holder u a p) f hinted x
is_wanted-same r u a p o t f none hinted x =
    ap (λ (y : Option FlaggedAlert). option_map_or (is_wanted_alert (others r t) (holder u a p) f hinted (other_flagged r x)) y false) (alert-same r t x) ∙ by (alert_of t x)
  where
    by : (y : Option FlaggedAlert) → option_map_or (is_wanted_alert (others r t) (holder u a p) f hinted (other_flagged r x)) (option_map (other_alert r) y) false
        ≡ option_map_or (is_wanted_alert t (holder u a p) f hinted x) y false
    by None = refl
    by (Some y) = λ i.
        has_hint hinted y.hint && is_behind f.behind hinted x.place && alert-taken r t f y none i && see-same r u a p o t y.entry.put i

wanted-same : (r : Renaming) (u a p : Name) → RenamesOthers r u a → (t : List Entry) (f : AlertFilter) → AsksNobody f.entries → (hinted : Bool) (x : Flagged)
    → wanted (others r t) (holder u a p) f hinted (other_flagged r x) ≡ map (other_flagged r) (wanted t (holder u a p) f hinted x)
wanted-same r u a p o t f none hinted x =
    ap (λ (b : Bool). cond b (other_flagged r x ∷ []) []) (is_wanted-same r u a p o t f none hinted x) ∙ by (is_wanted t (holder u a p) f hinted x)
  where
    by : (b : Bool) → cond b (other_flagged r x ∷ []) [] ≡ map (other_flagged r) (cond b (x ∷ []) [])
    by true = refl
    by false = refl

flat-same : {X Y : Type 0} (m : X → X) (n : Y → Y) (p q : X → List Y) → ((x : X) → p (m x) ≡ map n (q x)) → (xs : List X)
    → flat_map p (map m xs) ≡ map n (flat_map q xs)
flat-same m n p q same [] = refl
flat-same m n p q same (x ∷ xs) = (λ i. same x i ++ flat-same m n p q same xs i) ∙ sym (map-append n (q x) (flat_map q xs))

selected-same : (r : Renaming) (u a p : Name) → RenamesOthers r u a → (t : List Entry) (f : AlertFilter) → AsksNobody f.entries → (fs : List Flagged)
    → selected (others r t) (holder u a p) f (map (other_flagged r) fs) ≡ map (other_flagged r) (selected t (holder u a p) f fs)
selected-same r u a p o t f none fs =
    (λ i. part false i ++ part true i)
    ∙ sym (map-append (other_flagged r) (flat_map (wanted t (holder u a p) f false) fs) (flat_map (wanted t (holder u a p) f true) fs))
  where
    part : (hinted : Bool) → flat_map (wanted (others r t) (holder u a p) f hinted) (map (other_flagged r) fs) ≡ map (other_flagged r) (flat_map (wanted t (holder u a p) f hinted) fs)
    part hinted =
        flat-same (other_flagged r) (other_flagged r) (wanted (others r t) (holder u a p) f hinted) (wanted t (holder u a p) f hinted) (wanted-same r u a p o t f none hinted) fs

hinted-same : (r : Renaming) (t : List Entry) (x : Flagged) → is_hinted (others r t) (other_flagged r x) ≡ is_hinted t x
hinted-same r t x = ap (λ (y : Option FlaggedAlert). option_map_or (λ a. is_some a.hint) y false) (alert-same r t x) ∙ by (alert_of t x)
  where
    by : (y : Option FlaggedAlert) → option_map_or (λ a. is_some a.hint) (option_map (other_alert r) y) false ≡ option_map_or (λ a. is_some a.hint) y false
    by None = refl
    by (Some y) = refl

place-same : (r : Renaming) (t : List Entry) (fs : List Flagged) → place_text (others r t) (map (other_flagged r) fs) ≡ place_text t fs
place-same r t [] = refl
place-same r t (x ∷ fs) = ap (λ (b : Bool). letter_of b ++ decimal x.place) (hinted-same r t x)

next-same : (r : Renaming) (t : List Entry) (fs : List Flagged) → next_of (others r t) (map (other_flagged r) fs) ≡ next_of t fs
unfolding next_of
next-same r t fs = λ i.
    cond (nat_le (length-map fs (other_flagged r) i) 100) [] ((ap (place_text (others r t)) (drop-map (other_flagged r) 99 fs) ∙ place-same r t (drop 99 fs)) i)

found-same : (r : Renaming) (t : List Entry) (fs : List Flagged) → found_text (others r t) false (map (other_flagged r) fs) ≡ found_text t false fs
unfolding found_text
found-same r t fs =
    let rows : joined (row_of (others r t) false) (take 100 (map (other_flagged r) fs)) ≡ joined (row_of t false) (take 100 fs) =
    ap (joined (row_of (others r t) false)) (take-map (other_flagged r) 100 fs) ∙ joined-map (other_flagged r) (row_of (others r t) false) (row_of t false) (whole-row r t) (take 100 fs) in
    λ i. codes "{\"alerts\":[" ++ (rows i ++ (codes "],\"next\":\"" ++ (next-same r t fs i ++ codes "\"}")))

lines-other : (r : Renaming) (ls : List ShownLine) → lines_of (map (renamed_shown r) ls) ≡ map (renamed_line r) (lines_of ls)
lines-other r [] = refl
lines-other r (l ∷ ls) = ap (λ (xs : List CaseLine). renamed_line r l.line ∷ xs) (lines-other r ls)

all-flagged : (r : Renaming) → Keeps r → (i : Investigated) → flagged_in (renamed r i) ≡ map (other_flagged r) (flagged_in i)
all-flagged r k i = ap (flagged_of (others r i.trail)) (lines-other r i.lines) ∙ flagged-same r k i.trail (lines_of i.lines)

nobody-asked : (u a p : Name) (f : Filter) → may_ask (holder u a p) f ≡ true → AsksNobody f
nobody-asked u a p f may =
    let three = and_parts _ (is_none f.premises) may in
    let two = and_parts _ (is_none f.authorisation) three.0 in
    let one = and_parts (is_none f.user) (is_none f.role) two.0 in
    record { user = one.0; authorisation = two.1; premises = three.1 }

alerts-same : (r : Renaming) (u a p : Name) → RenamesOthers r u a → (i : Investigated) (f : AlertFilter) → may_ask (holder u a p) f.entries ≡ true
    → alerts_text (renamed r i).trail (flagged_in (renamed r i)) (holder u a p) f ≡ alerts_text i.trail (flagged_in i) (holder u a p) f
alerts-same r u a p o i f may =
    ap (λ (fs : List Flagged). found_text (others r i.trail) false (selected (others r i.trail) (holder u a p) f fs)) (all-flagged r (keeps r u a o) i)
    ∙ ap (found_text (others r i.trail) false) (selected-same r u a p o i.trail f (nobody-asked u a p f.entries may) (flagged_in i))
    ∙ found-same r i.trail (selected i.trail (holder u a p) f (flagged_in i))

-- ---- one alert

verdict-same : (r : Renaming) (s : Case) → verdict_of (other_case r s) ≡ verdict_of s
verdict-same r Open = refl
verdict-same r (Taken by) = refl
verdict-same r (Closed v) = refl
verdict-same r (Confirmed i) = refl

informed-same : (r : Renaming) (s : Case) → informed_text (other_case r s) ≡ informed_text s
unfolding informed_text those_of
informed-same r Open = refl
informed-same r (Taken by) = refl
informed-same r (Closed v) = refl
informed-same r (Confirmed i) = refl

-- an owner takes no case
abbrev no_case : Option Case
no_case = None

none-taken : (b : Bool) → is_some (cond b no_case no_case) ≡ false
none-taken true = refl
none-taken false = refl

may-same : (r : Renaming) (u a p : Name) (d : Act) (s : Case) → may d (other_case r s) (holder u a p) ≡ may d s (holder u a p)
may-same r u a p d Open = refl
may-same r u a p d (Closed v) = refl
may-same r u a p d (Confirmed i) = refl
may-same r u a p Take (Taken by) = none-taken (same_text (r.user by) u) ∙ sym (none-taken (same_text by u))
may-same r u a p Leave (Taken by) = refl
may-same r u a p Note (Taken by) = refl
may-same r u a p (Close v) (Taken by) = refl
may-same r u a p Confirm (Taken by) = refl
may-same r u a p (Inform w) (Taken by) = refl
may-same r u a p Reopen (Taken by) = refl

before-same : (r : Renaming) (u a p : Name) (d : Act) (s : Case) → before d (other_case r s) (holder u a p) ≡ before d s (holder u a p)
unfolding before
before-same r u a p d s = ap (λ (b : Bool). cond b (codes "\"" ++ (act_word d ++ codes "\",")) []) (may-same r u a p d s)

behind-same : (r : Renaming) (u a p : Name) (d : Act) (s : Case) → behind d (other_case r s) (holder u a p) ≡ behind d s (holder u a p)
unfolding behind
behind-same r u a p d s = ap (λ (b : Bool). cond b (codes ",\"" ++ (act_word d ++ codes "\"")) []) (may-same r u a p d s)

may_text-same : (r : Renaming) (u a p : Name) (s : Case) → may_text (other_case r s) (holder u a p) ≡ may_text s (holder u a p)
unfolding may_text
may_text-same r u a p s = λ i.
    named (codes "may") ++ (codes "[" ++ (before-same r u a p Take s i ++ (before-same r u a p Leave s i ++ (codes "\"NOTE\""
    ++ (behind-same r u a p (Close Technical) s i ++ (behind-same r u a p Confirm s i ++ (behind-same r u a p (Inform Agency) s i
    ++ (behind-same r u a p Reopen s i ++ codes "]"))))))))

known_text-same : (r : Renaming) (k : Option Known) → known_text (option_map (other_known r) k) ≡ known_text k
unfolding known_text
known_text-same r None = refl
known_text-same r (Some k) = refl

alert_text-same : (r : Renaming) (u a p : Name) (t : List Entry) (x : FlaggedAlert) → alert_text (others r t) (holder u a p) (other_alert r x) ≡ alert_text t (holder u a p) x
unfolding alert_text
alert_text-same r u a p t x =
    let here = pack_of x.entry.put.question in
    let facts : known_text (pack_fact (others r t) here) ≡ known_text (pack_fact t here) = ap known_text (fact-same r t (knows-same r t) here) ∙ known_text-same r (pack_fact t here) in
    λ i. row-same r x i ++ (text_member (codes "by") [] ++ (text_member (codes "verdict") (verdict-same r x.case i)
    ++ (informed-same r x.case i ++ (may_text-same r u a p x.case i ++ facts i))))

filter-map : {X : Type 0} (m : X → X) (p q : X → Bool) → ((x : X) → p (m x) ≡ q x) → (xs : List X) → filter p (map m xs) ≡ map m (filter q xs)
filter-map m p q same [] = refl
filter-map {X} m p q same (x ∷ xs) = (λ i. cond (same x i) (m x ∷ filter-map m p q same xs i) (filter-map m p q same xs i)) ∙ by (q x)
  where
    by : (b : Bool) → cond b (m x ∷ map m (filter q xs)) (map m (filter q xs)) ≡ map m (cond b (x ∷ filter q xs) (filter q xs))
    by true = refl
    by false = refl

-- its acts
meant-same : (r : Renaming) (t : List Entry) (l : CaseLine) (f : Flagged) → is_meant (others r t) (renamed_line r l) (other_flagged r f) ≡ is_meant t l f
meant-same r t l f = ap (λ (o : Option FlaggedAlert). option_map_or (λ a. has l.range a.name.code a.name.number a.hint) o false) (alert-same r t f) ∙ by (alert_of t f)
  where
    by : (o : Option FlaggedAlert) → option_map_or (λ a. has l.range a.name.code a.name.number a.hint) (option_map (other_alert r) o) false
        ≡ option_map_or (λ a. has l.range a.name.code a.name.number a.hint) o false
    by None = refl
    by (Some x) = refl

all-places : (r : Renaming) (fs : List Flagged) → map (λ f. f.place) (map (other_flagged r) fs) ≡ map (λ f. f.place) fs
all-places r [] = refl
all-places r (f ∷ fs) = ap (λ (ns : List ℕ). f.place ∷ ns) (all-places r fs)

places-same : (r : Renaming) → Keeps r → (t : List Entry) (l : CaseLine) → places_about (others r t) (renamed_line r l) ≡ places_about t l
places-same r k t l =
    let now = take l.at t in
    ap (λ (u : List Entry). map (λ f. f.place) (filter (is_meant u (renamed_line r l)) (raised u))) (take-map (renamed_entry r) l.at t)
    ∙ ap (λ (fs : List Flagged). map (λ f. f.place) (filter (is_meant (others r now) (renamed_line r l)) fs)) (raised-same r k now)
    ∙ ap (map (λ f. f.place)) (filter-map (other_flagged r) (is_meant (others r now) (renamed_line r l)) (is_meant now l) (meant-same r now l) (raised now))
    ∙ all-places r (filter (is_meant now l) (raised now))

user-same : (r : Renaming) (u a : Name) → RenamesOthers r u a → (by : Author) → same_text (author_user (renamed_author r by)) u ≡ same_text (author_user by) u
user-same r u a o (Officer n) = ap (same_text (r.user n)) (sym o.own_user) ∙ same-one r.user o.users n u
user-same r u a o (User n c) = ap (same_text (r.user n)) (sym o.own_user) ∙ same-one r.user o.users n u

shown-same : (r : Renaming) (u a p : Name) → RenamesOthers r u a → (t : List Entry) (place : ℕ) (l : ShownLine)
    → is_shown (others r t) place (holder u a p) (renamed_shown r l) ≡ is_shown t place (holder u a p) l
shown-same r u a p o t place l = λ i. user-same r u a o l.line.author i && list_any (λ n. n == place) (places-same r (keeps r u a o) t l.line i)

text-one : (r : Renaming) (u a p : Name) → RenamesOthers r u a → (t : List Entry) (place : ℕ) (l : ShownLine) (there here : List ShownLine)
    → map (λ l. l.text) there ≡ map (λ l. l.text) here → (b : Bool) → is_shown t place (holder u a p) l ≡ b
    → map (λ l. l.text) (cond b (renamed_shown r l ∷ there) there) ≡ map (λ l. l.text) (cond b (l ∷ here) here)
text-one r u a p o t place l there here same false is = same
text-one r u a p o t place l there here same true is = λ i. o.own_texts l (and_parts (same_text (author_user l.line.author) u) _ is).0 i ∷ same i

texts-same : (r : Renaming) (u a p : Name) → RenamesOthers r u a → (t : List Entry) (place : ℕ) (ls : List ShownLine)
    → map (λ l. l.text) (filter (is_shown (others r t) place (holder u a p)) (map (renamed_shown r) ls)) ≡ map (λ l. l.text) (filter (is_shown t place (holder u a p)) ls)
texts-same r u a p o t place [] = refl
texts-same r u a p o t place (l ∷ ls) =
    let there = filter (is_shown (others r t) place (holder u a p)) (map (renamed_shown r) ls) in
    ap (λ (b : Bool). map (λ (l : ShownLine). l.text) (cond b (renamed_shown r l ∷ there) there)) (shown-same r u a p o t place l)
    ∙ text-one r u a p o t place l there (filter (is_shown t place (holder u a p)) ls) (texts-same r u a p o t place ls) (is_shown t place (holder u a p) l) refl

-- the story of its pack
line-same : (r : Renaming) (u a p : Name) (e : Entry) → line_for (holder u a p) (renamed_entry r e) ≡ line_for (holder u a p) e
unfolding without_house shown_front front_of
line-same r u a p e = refl

seen-same : (r : Renaming) (u a p : Name) (es : List Entry) → flat_map (seen (holder u a p)) (map (renamed_entry r) es) ≡ map (renamed_entry r) (flat_map (seen (holder u a p)) es)
seen-same r u a p [] = refl
seen-same r u a p (e ∷ es) = ap (λ (xs : List Entry). renamed_entry r e ∷ xs) (seen-same r u a p es)

story_of-same : (r : Renaming) (t : List Entry) (p : Option Pack) → story_of (others r t) p ≡ map (renamed_entry r) (story_of t p)
story_of-same r t None = refl
story_of-same r t (Some p) = filter-map (renamed_entry r) (is_about p) (is_about p) (λ e. refl) t

story-same : (r : Renaming) (u a p : Name) (t : List Entry) (here : Option Pack) → story_text (others r t) (holder u a p) here ≡ story_text t (holder u a p) here
unfolding story_text
story-same r u a p t here =
    let lines : joined (line_for (holder u a p)) (flat_map (seen (holder u a p)) (story_of (others r t) here)) ≡ joined (line_for (holder u a p)) (flat_map (seen (holder u a p)) (story_of t here)) =
    ap (λ (es : List Entry). joined (line_for (holder u a p)) (flat_map (seen (holder u a p)) es)) (story_of-same r t here)
    ∙ ap (joined (line_for (holder u a p))) (seen-same r u a p (story_of t here))
    ∙ joined-map (renamed_entry r) (line_for (holder u a p)) (line_for (holder u a p)) (line-same r u a p) (flat_map (seen (holder u a p)) (story_of t here)) in
    λ i. named (codes "story") ++ (codes "[" ++ (lines i ++ codes "]"))

one-same : (r : Renaming) (u a p : Name) → RenamesOthers r u a → (i : Investigated) (f : Flagged) (x : FlaggedAlert)
    → one_text (renamed r i) (holder u a p) (other_flagged r f) (other_alert r x) ≡ one_text i (holder u a p) f x
unfolding one_text
one-same r u a p o i f x = λ j.
    alert_text-same r u a p i.trail x j ++ (acts_text (texts-same r u a p o i.trail f.place i.lines j) ++ (story-same r u a p i.trail (pack_of x.entry.put.question) j ++ codes "}"))

stands-same : (r : Renaming) (u a p : Name) → RenamesOthers r u a → (i : Investigated) (f : Flagged)
    → stands_text (renamed r i) (holder u a p) (other_flagged r f) ≡ stands_text i (holder u a p) f
stands-same r u a p o i f =
    ap (λ (y : Option FlaggedAlert). option_map_or (one_text (renamed r i) (holder u a p) (other_flagged r f)) y []) (alert-same r i.trail f) ∙ by (alert_of i.trail f)
  where
    by : (y : Option FlaggedAlert) → option_map_or (one_text (renamed r i) (holder u a p) (other_flagged r f)) (option_map (other_alert r) y) [] ≡ option_map_or (one_text i (holder u a p) f) y []
    by None = refl
    by (Some x) = one-same r u a p o i f x

it-same : (r : Renaming) (u a p : Name) → RenamesOthers r u a → (t : List Entry) (name : AlertName) (f : Flagged) → is_it (others r t) (holder u a p) name (other_flagged r f) ≡ is_it t (holder u a p) name f
it-same r u a p o t name f =
    ap (λ (e : Option Entry). option_map_or (λ e. is_named name e && may_see (others r t) (holder u a p) e.put) e false) (slice_get-map (renamed_entry r) t f.place) ∙ by (slice_get t f.place)
  where
    by : (e : Option Entry) → option_map_or (λ e. is_named name e && may_see (others r t) (holder u a p) e.put) (option_map (renamed_entry r) e) false
        ≡ option_map_or (λ e. is_named name e && may_see t (holder u a p) e.put) e false
    by None = refl
    by (Some e) = ap (λ (b : Bool). is_named name e && b) (see-same r u a p o t e.put)

alert_of-same : (r : Renaming) (u a p : Name) → RenamesOthers r u a → (i : Investigated) (name : AlertName) → one_of (renamed r i) (holder u a p) name ≡ one_of i (holder u a p) name
alert_of-same r u a p o i name =
    ap (λ (fs : List Flagged). option_map_or (stands_text (renamed r i) (holder u a p)) (find (is_it (others r i.trail) (holder u a p) name) fs) []) (all-flagged r (keeps r u a o) i)
    ∙ ap (λ (f : Option Flagged). option_map_or (stands_text (renamed r i) (holder u a p)) f [])
    (find-map (other_flagged r) (is_it (others r i.trail) (holder u a p) name) (is_it i.trail (holder u a p) name) (it-same r u a p o i.trail name) (flagged_in i))
    ∙ by (alert_named i (holder u a p) name)
  where
    by : (f : Option Flagged) → option_map_or (stands_text (renamed r i) (holder u a p)) (option_map (other_flagged r) f) [] ≡ option_map_or (stands_text i (holder u a p)) f []
    by None = refl
    by (Some f) = stands-same r u a p o i f

-- ---- numbers

seen-one : (r : Renaming) (u a p : Name) → RenamesOthers r u a → (t : List Entry) (f : Flagged)
    → counted_seen (others r t) (holder u a p) (other_flagged r f) ≡ map (other_alert r) (counted_seen t (holder u a p) f)
seen-one r u a p o t f = ap (seen_as (others r t) (holder u a p)) (alert-same r t f) ∙ by (alert_of t f)
  where
    one : (x : FlaggedAlert) (b : Bool) → cond b (other_alert r x ∷ []) [] ≡ map (other_alert r) (cond b (x ∷ []) [])
    one x true = refl
    one x false = refl

    by : (x : Option FlaggedAlert) → seen_as (others r t) (holder u a p) (option_map (other_alert r) x) ≡ map (other_alert r) (seen_as t (holder u a p) x)
    by None = refl
    by (Some x) = ap (λ (b : Bool). cond b (other_alert r x ∷ []) []) (see-same r u a p o t x.entry.put) ∙ one x (may_see t (holder u a p) x.entry.put)

state-same : (r : Renaming) (s : Case) → state_place (other_case r s) ≡ state_place s
state-same r Open = refl
state-same r (Taken by) = refl
state-same r (Closed v) = refl
state-same r (Confirmed i) = refl

listed-same : (r : Renaming) (s : Case) → is_listed (other_case r s) ≡ is_listed s
listed-same r Open = refl
listed-same r (Taken by) = refl
listed-same r (Closed v) = refl
listed-same r (Confirmed i) = refl

counted-same : (r : Renaming) (x : FlaggedAlert) (c : Counted) → IsCounted (other_alert r x) c ↔ IsCounted x c
counted-same r x c =
    let place : listed_place (other_alert r x) ≡ listed_place x = ap (λ (b : Bool). cond b (hint_place x.hint) 7) (listed-same r x.case) in (
      λ h. record { state = h.state ∙ state-same r x.case; hint = h.hint ∙ place; moment = h.moment; week = h.week; monday = h.monday },
      λ h. record { state = h.state ∙ sym (state-same r x.case); hint = h.hint ∙ sym place; moment = h.moment; week = h.week; monday = h.monday },
    )

zip-same : (r : Renaming) (xs : List FlaggedAlert) (cs : List Counted) → AllZip IsCounted (map (other_alert r) xs) cs ↔ AllZip IsCounted xs cs
zip-same r [] [] = (λ h. h, λ h. h)
zip-same r [] (c ∷ cs) = (λ h. h, λ h. h)
zip-same r (x ∷ xs) [] = (λ h. h, λ h. h)
zip-same r (x ∷ xs) (c ∷ cs) =
    (λ h. ((counted-same r x c).0 h.0, (zip-same r xs cs).0 h.1), λ h. ((counted-same r x c).1 h.0, (zip-same r xs cs).1 h.1))

numbers-same : (r : Renaming) (u a p : Name) → RenamesOthers r u a → (i : Investigated) (cs : List Counted)
    → AllZip IsCounted (flat_map (counted_seen (others r i.trail) (holder u a p)) (flagged_in (renamed r i))) cs
    ↔ AllZip IsCounted (flat_map (counted_seen i.trail (holder u a p)) (flagged_in i)) cs
numbers-same r u a p o i cs =
    let same : flat_map (counted_seen (others r i.trail) (holder u a p)) (flagged_in (renamed r i)) ≡ map (other_alert r) (flat_map (counted_seen i.trail (holder u a p)) (flagged_in i)) =
    ap (flat_map (counted_seen (others r i.trail) (holder u a p))) (all-flagged r (keeps r u a o) i)
    ∙ flat-same (other_flagged r) (other_alert r) (counted_seen (others r i.trail) (holder u a p)) (counted_seen i.trail (holder u a p)) (seen-one r u a p o i.trail) (flagged_in i) in
    let these : AllZip IsCounted (map (other_alert r) (flat_map (counted_seen i.trail (holder u a p)) (flagged_in i))) cs ↔ AllZip IsCounted (flat_map (counted_seen i.trail (holder u a p)) (flagged_in i)) cs =
    zip-same r (flat_map (counted_seen i.trail (holder u a p)) (flagged_in i)) cs in (
      λ h. these.0 (subst (λ (xs : List FlaggedAlert). AllZip IsCounted xs cs) same h),
      λ h. subst (λ (xs : List FlaggedAlert). AllZip IsCounted xs cs) (sym same) (these.1 h),
    )

-- ---- ranges

number-same : (r : Renaming) (t : List Entry) (f : Option Flagged) → number_of (others r t) (option_map (other_flagged r) f) ≡ number_of t f
number-same r t None = refl
number-same r t (Some f) = ap (λ (o : Option FlaggedAlert). option_map_or (λ a. a.name.number) o 0) (alert-same r t f) ∙ by (alert_of t f)
  where
    by : (o : Option FlaggedAlert) → option_map_or (λ a. a.name.number) (option_map (other_alert r) o) 0 ≡ option_map_or (λ a. a.name.number) o 0
    by None = refl
    by (Some x) = refl

ranged-same : (r : Renaming) (u a p : Name) → RenamesOthers r u a → (t : List Entry) (c : ProductCode) (h : Hinted) (fs : List Flagged)
    → ranged (others r t) (holder u a p) c h (map (other_flagged r) fs) ≡ map (other_flagged r) (ranged t (holder u a p) c h fs)
ranged-same r u a p o t c h fs =
    let none : AsksNobody (of_code c h).entries = record { user = refl; authorisation = refl; premises = refl } in
    flat-same (other_flagged r) (other_flagged r)
    (λ x. wanted (others r t) (holder u a p) (of_code c h) false x ++ wanted (others r t) (holder u a p) (of_code c h) true x)
    (λ x. wanted t (holder u a p) (of_code c h) false x ++ wanted t (holder u a p) (of_code c h) true x)
    (λ x. (λ i. wanted-same r u a p o t (of_code c h) none false x i ++ wanted-same r u a p o t (of_code c h) none true x i)
    ∙ sym (map-append (other_flagged r) (wanted t (holder u a p) (of_code c h) false x) (wanted t (holder u a p) (of_code c h) true x))) fs

range_text-same : (r : Renaming) (t : List Entry) (found : List Flagged) → range_text (others r t) (map (other_flagged r) found) ≡ range_text t found
unfolding range_text
range_text-same r t found =
    let many : length (map (other_flagged r) found) ≡ length found = length-map found (other_flagged r) in
    let first : number_of (others r t) (slice_get (map (other_flagged r) found) 0) ≡ number_of t (slice_get found 0) =
    ap (number_of (others r t)) (slice_get-map (other_flagged r) found 0) ∙ number-same r t (slice_get found 0) in
    let last : number_of (others r t) (slice_get (map (other_flagged r) found) (length (map (other_flagged r) found) - 1)) ≡ number_of t (slice_get found (length found - 1)) =
    ap (λ (n : ℕ). number_of (others r t) (slice_get (map (other_flagged r) found) (n - 1))) many
    ∙ ap (number_of (others r t)) (slice_get-map (other_flagged r) found (length found - 1)) ∙ number-same r t (slice_get found (length found - 1)) in
    λ i. codes "{\"first\":" ++ (decimal (first i) ++ (number_member (codes "last") (last i) ++ (number_member (codes "alerts") (many i) ++ codes "}")))

range-same : (r : Renaming) (u a p : Name) → RenamesOthers r u a → (i : Investigated) (c : ProductCode) (h : Hinted) → range_of (renamed r i) (holder u a p) c h ≡ range_of i (holder u a p) c h
range-same r u a p o i c h =
    ap (λ (fs : List Flagged). range_text (others r i.trail) (ranged (others r i.trail) (holder u a p) c h fs)) (all-flagged r (keeps r u a o) i)
    ∙ ap (range_text (others r i.trail)) (ranged-same r u a p o i.trail c h (flagged_in i))
    ∙ range_text-same r i.trail (ranged i.trail (holder u a p) c h (flagged_in i))

-- ---- the reader

moment-same : (r : Renaming) (t : List Entry) → last_moment (others r t) ≡ last_moment t
moment-same r t =
    ap (λ (n : ℕ). option_map_or (λ e. e.put.moment) (slice_get (others r t) (n - 1)) 0) (length-map t (renamed_entry r))
    ∙ ap (λ (e : Option Entry). option_map_or (λ e. e.put.moment) e 0) (slice_get-map (renamed_entry r) t (length t - 1)) ∙ by (slice_get t (length t - 1))
  where
    by : (e : Option Entry) → option_map_or (λ e. e.put.moment) (option_map (renamed_entry r) e) 0 ≡ option_map_or (λ e. e.put.moment) e 0
    by None = refl
    by (Some e) = refl

reader-same : (r : Renaming) (u a p : Name) (t : List Entry) (fault : List ℕ) → reader_text (others r t) (holder u a p) fault ≡ reader_text t (holder u a p) fault
unfolding reader_text
reader-same r u a p t fault = λ i.
    user_text (holder u a p) ++ (number_member (codes "entries") (length-map t (renamed_entry r) i)
    ++ (number_member (codes "moment") (moment-same r t i) ++ (text_member (codes "fault") fault ++ codes "}")))

pub no-house : NoHouseIsShown
no-house r u a p o i = record {
  reader = λ fault. reader-same r u a p i.trail fault;
  alerts = λ f may. alerts-same r u a p o i f may;
  alert = λ name. alert_of-same r u a p o i name;
  numbers = λ cs. numbers-same r u a p o i cs;
  range = λ c h. range-same r u a p o i c h;
}
