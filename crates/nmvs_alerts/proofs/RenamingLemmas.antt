-- Other names of users, authorisations and premises, one to one, leave what is known of packs, the hints, the alerts and their cases.
use Rattle.std.proofs.Common.{◌≡◌, ◌∙◌, ◌++◌, ◌∷◌, [], ℕ, List, Bool, true, false, Option, Some, None, ap, cond, length, map, not, refl, sym, take, append_assoc, append-nil}
use Rattle.std.specs.Prelude.{◌&&◌, find, unwrap_or}
use Rattle.std.specs.List.{slice_get}
use Rattle.std.specs.Option.{is_none, is_some, option_and_then, option_map, option_map_or}
use Rattle.std.proofs.lemmas.List.{length-map, map-append, map_push, take-map}
use Rattle.std.proofs.lemmas.Option.{slice_get-map}
use Rattle.nmvs_identifier.specs.Name.{Name}
use Rattle.nmvs_identifier.specs.ProductCode.{ProductCode}
use Rattle.nmvs_identifier.specs.Texts.{same_text}
use Rattle.nmvs_identifier.specs.declared.pack.Pack.{Pack}
use Rattle.nmvs_rules.specs.declared.cause.Cause.{Cause}
use Rattle.nmvs_rules.specs.declared.cause.Cause.TheVariants as causes
use Rattle.nmvs_rules.specs.declared.entry.Entry.{Entry}
use Rattle.nmvs_rules.specs.declared.facts.Known.{Known}
use Rattle.nmvs_rules.specs.declared.facts.Mark.{Mark}
use Rattle.nmvs_rules.specs.declared.put.Put.{Put}
use Rattle.nmvs_rules.specs.declared.question.Question.{Question}
use Rattle.nmvs_rules.specs.declared.question.Question.TheVariants.{Upload, OfPack, OfBatch}
use Rattle.nmvs_rules.specs.declared.reply.Reply.{Reply}
use Rattle.nmvs_rules.specs.declared.reply.Reply.TheVariants.{Alert}
use Rattle.nmvs_rules.specs.Facts.{pack_fact}
use Rattle.nmvs_rules.specs.Questions.{code_of, pack_of}
use Rattle.nmvs_rules.specs.Trail.{born_by, has_code, holder_of, is_accepted, is_mark, is_upload, known, known_after, marked_by}
use Rattle.nmvs_rules.proofs.PushLemmas.{known-push}
use Rattle.nmvs_rules.proofs.TextLemmas.{same_text-equal, same_text-refl}
use Rattle.nmvs_cases.specs.declared.act.Act.{Act}
use Rattle.nmvs_cases.specs.declared.act.Act.TheVariants.{Take, Leave, Note, Close, Confirm, Inform, Reopen}
use Rattle.nmvs_cases.specs.declared.act.Reader.{Reader}
use Rattle.nmvs_cases.specs.declared.act.Reader.TheVariants.{Officer, Authority, Owner}
use Rattle.nmvs_cases.specs.declared.author.Author.{Author}
use Rattle.nmvs_cases.specs.declared.author.Author.TheVariants as author
use Rattle.nmvs_cases.specs.declared.case.Case.{Case}
use Rattle.nmvs_cases.specs.declared.case.Case.TheVariants.{Open, Taken, Closed, Confirmed}
use Rattle.nmvs_cases.specs.declared.hint.Hint.{Hint}
use Rattle.nmvs_cases.specs.declared.hint.Hint.TheVariants.{Late, Caps, Layout, NoCode, Own, House}
use Rattle.nmvs_cases.specs.declared.line.CaseLine.{CaseLine}
use Rattle.nmvs_cases.specs.Authors.{author_reader, author_user}
use Rattle.nmvs_cases.specs.Cases.{after, has, on, taken_by}
use Rattle.nmvs_cases.specs.Hints.{all_hints, hint_by, holds_behind, holds_of_unknown, is_in_a_day, is_own_cause, repeated_hint}
use Rattle.nmvs_alerts.specs.declared.alert.FlaggedAlert.{FlaggedAlert}
use Rattle.nmvs_alerts.specs.declared.flagged.Flagged.{Flagged}
use Rattle.nmvs_alerts.specs.Alerts.{acted, after_line, after_lines, alert_of, flagged_of, hint_over, raised, raised_as, raised_from, stands_as, with_case}
use Rattle.nmvs_alerts.specs.Renaming.{IsOneToOne, Renaming, renamed_author, renamed_entry, renamed_line, renamed_put}

-- ---- names

-- names that are given one to one are the same exactly if those in their place are
pub same-one : (f : Name → Name) → IsOneToOne f → (a b : Name) → same_text (f a) (f b) ≡ same_text a b
same-one f one a b = both (same_text (f a) (f b)) (same_text a b) refl refl
  where
    both : (x y : Bool) → same_text (f a) (f b) ≡ x → same_text a b ≡ y → x ≡ y
    both true true there here = refl
    both false false there here = refl
    both true false there here =
        sym (ap (same_text a) (sym (one a b (same_text-equal (f a) (f b) there))) ∙ same_text-refl a) ∙ here
    both false true there here =
        sym there ∙ ap (λ (n : Name). same_text (f a) (f n)) (sym (same_text-equal a b here)) ∙ same_text-refl (f a)

-- the renaming is one to one
pub record Keeps (r : Renaming) : Type 0 where
  pub users : IsOneToOne r.user
  pub authorisations : IsOneToOne r.authorisation
  pub premises : IsOneToOne r.premises

-- ---- trails

abbrev pub others : Renaming → List Entry → List Entry
others r t = map (renamed_entry r) t

abbrev pub other_known : Renaming → Known → Known
other_known r k = record k { mark = record k.mark { authorisation = r.authorisation k.mark.authorisation; premises = r.premises k.mark.premises } }

-- the same values are known of each pack
abbrev pub KnowsSame : Renaming → List Entry → Type 0
KnowsSame r t = (p : Pack) → known (others r t) p ≡ option_map (other_known r) (known t p)

one-known : (r : Renaming) (p : Pack) (place : ℕ) (e : Entry) (k : Option Known)
    → known_after p place (renamed_entry r e) (option_map (other_known r) k) ≡ option_map (other_known r) (known_after p place e k)
one-known r p place e k = by (is_mark p e) k e.put.question
  where
    born : (q : Question) → born_by place (renamed_entry r e) q ≡ option_map (other_known r) (born_by place e q)
    born (Upload p b x) = refl
    born (OfPack asked p) = refl
    born (OfBatch asked c b) = refl

    by : (b : Bool) (k : Option Known) (q : Question) → cond b (marked_by place (renamed_entry r e) (option_map (other_known r) k)) (option_map (other_known r) k)
        ≡ option_map (other_known r) (cond b (marked_by place e k) k)
    by false k q = refl
    by true None q = born e.put.question
    by true (Some k) q = refl

pub one-more : (r : Renaming) (t : List Entry) (e : Entry) → KnowsSame r t → KnowsSame r (t ++ e ∷ [])
one-more r t e same p =
    ap (λ (u : List Entry). known u p) (map_push (renamed_entry r) t e)
    ∙ known-push (others r t) (renamed_entry r e) p
    ∙ (λ i. known_after p (length-map t (renamed_entry r) i) (renamed_entry r e) (same p i))
    ∙ one-known r p (length t) e (known t p)
    ∙ ap (option_map (other_known r)) (sym (known-push t e p))

all-known : (r : Renaming) (before t : List Entry) → KnowsSame r before → KnowsSame r (before ++ t)
all-known r before [] same p = ap (λ (u : List Entry). known (others r u) p) (append-nil before) ∙ same p ∙ ap (λ (u : List Entry). option_map (other_known r) (known u p)) (sym (append-nil before))
all-known r before (e ∷ t) same p =
    ap (λ (u : List Entry). known (others r u) p) (sym (append_assoc before (e ∷ []) t))
    ∙ all-known r (before ++ e ∷ []) t (one-more r before e same) p
    ∙ ap (λ (u : List Entry). option_map (other_known r) (known u p)) (append_assoc before (e ∷ []) t)

pub knows-same : (r : Renaming) (t : List Entry) → KnowsSame r t
knows-same r t = all-known r [] t (λ p. refl)

pub fact-same : (r : Renaming) (t : List Entry) → KnowsSame r t → (p : Option Pack) → pack_fact (others r t) p ≡ option_map (other_known r) (pack_fact t p)
fact-same r t same None = refl
fact-same r t same (Some p) = same p

-- the first that passes, of these with other names
pub find-map : {X : Type 0} (m : X → X) (p q : X → Bool) → ((x : X) → p (m x) ≡ q x) → (xs : List X) → find p (map m xs) ≡ option_map m (find q xs)
find-map m p q same [] = refl
find-map {X} m p q same (x ∷ xs) = (λ i. cond (same x i) (Some (m x)) (find-map m p q same xs i)) ∙ by (q x) (find q xs)
  where
    by : (b : Bool) (o : Option X) → cond b (Some (m x)) (option_map m o) ≡ option_map m (cond b (Some x) o)
    by true o = refl
    by false o = refl

abbrev uploads : ProductCode → Entry → Bool
uploads c e = (is_upload e.put.question && has_code c e) && is_accepted e

pub holder-same : (r : Renaming) (t : List Entry) (c : ProductCode) → holder_of (others r t) c ≡ option_map r.authorisation (holder_of t c)
holder-same r t c =
    ap (option_map (λ (e : Entry). e.put.actor.authorisation)) (find-map (renamed_entry r) (uploads c) (uploads c) (λ e. refl) t)
    ∙ by (find (uploads c) t)
  where
    by : (o : Option Entry) → option_map (λ (e : Entry). e.put.actor.authorisation) (option_map (renamed_entry r) o) ≡ option_map r.authorisation (option_map (λ (e : Entry). e.put.actor.authorisation) o)
    by None = refl
    by (Some e) = refl

-- ---- hints

behind-same : (r : Renaming) → Keeps r → (m : Mark) (q : Put) (h : Hint)
    → holds_behind (record m { authorisation = r.authorisation m.authorisation; premises = r.premises m.premises }) (renamed_put r q) h ≡ holds_behind m q h
behind-same r k m q Late = refl
behind-same r k m q Caps = refl
behind-same r k m q Layout = refl
behind-same r k m q NoCode = refl
behind-same r k m q Own =
    λ i. is_in_a_day m q && same-one r.authorisation k.authorisations m.authorisation q.actor.authorisation i && same-one r.premises k.premises m.premises q.actor.premises i
behind-same r k m q House =
    λ i. is_in_a_day m q && same-one r.authorisation k.authorisations m.authorisation q.actor.authorisation i && not (same-one r.premises k.premises m.premises q.actor.premises i)

pub repeated-same : (r : Renaming) → Keeps r → (c : Cause) (q : Put) (k : Option Known)
    → repeated_hint c (renamed_put r q) (option_map (other_known r) k) ≡ repeated_hint c q k
repeated-same r keeps c q None = refl
repeated-same r keeps c q (Some k) = λ i. cond (is_own_cause c) (find (λ h. behind-same r keeps k.mark q h i) all_hints) None

known-some : (r : Renaming) (k : Option Known) → is_some (option_map (other_known r) k) ≡ is_some k
known-some r None = refl
known-some r (Some k) = refl

holder-none : (r : Renaming) (h : Option Name) → is_none (option_map r.authorisation h) ≡ is_none h
holder-none r None = refl
holder-none r (Some h) = refl

unknown-same : (r : Renaming) (t : List Entry) (p : Pack) (h : Hint) → holds_of_unknown (others r t) p h ≡ holds_of_unknown t p h
unknown-same r t p Late = ap is_some (knows-same r t _) ∙ known-some r _
unknown-same r t p Caps = ap is_some (knows-same r t _) ∙ known-some r _
unknown-same r t p Layout = ap is_some (knows-same r t _) ∙ known-some r _
unknown-same r t p NoCode = ap is_none (holder-same r t p.code) ∙ holder-none r (holder_of t p.code)
unknown-same r t p Own = refl
unknown-same r t p House = refl

hint_by-same : (r : Renaming) (t : List Entry) (p : Pack) (c : Cause) (h : Option Hint) → hint_by (others r t) p c h ≡ hint_by t p c h
hint_by-same r t p causes.Unknown h = λ i. find (λ x. unknown-same r t p x i) all_hints
hint_by-same r t p _ h = refl

hint-same : (r : Renaming) (t : List Entry) (p : Option Pack) (c : Cause) (h : Option Hint) → hint_over (others r t) p c h ≡ hint_over t p c h
hint-same r t None c h = refl
hint-same r t (Some p) c h = hint_by-same r t p c h

-- ---- cases

abbrev pub other_case : Renaming → Case → Case
other_case r (Taken u) = Taken (r.user u)
other_case r s = s

abbrev pub other_flagged : Renaming → Flagged → Flagged
other_flagged r f = record f { case = other_case r f.case }

abbrev pub other_alert : Renaming → FlaggedAlert → FlaggedAlert
other_alert r a = record a { entry = renamed_entry r a.entry; case = other_case r a.case }

other-taken : (r : Renaming) (b : Bool) (d : Reader) (u : Name) → cond b None (taken_by d (r.user u)) ≡ option_map (other_case r) (cond b None (taken_by d u))
other-taken r true d u = refl
other-taken r false Officer u = refl
other-taken r false Authority u = refl
other-taken r false Owner u = refl

other-left : (r : Renaming) (b : Bool) → cond b (Some Open) None ≡ option_map (other_case r) (cond b (Some Open) None)
other-left r true = refl
other-left r false = refl

after-same : (r : Renaming) → Keeps r → (s : Case) (a : Act) (d : Reader) (u : Name) → after (other_case r s) a d (r.user u) ≡ option_map (other_case r) (after s a d u)
after-same r k Open Take Officer u = refl
after-same r k Open Take Authority u = refl
after-same r k Open Take Owner u = refl
after-same r k (Taken by) Take d u =
    ap (λ (b : Bool). cond b None (taken_by d (r.user u))) (same-one r.user k.users by u) ∙ other-taken r (same_text by u) d u
after-same r k (Closed v) Take d u = refl
after-same r k (Confirmed i) Take d u = refl
after-same r k Open Leave d u = refl
after-same r k (Taken by) Leave Authority u = refl
after-same r k (Taken by) Leave Officer u = ap (λ (b : Bool). cond b (Some Open) None) (same-one r.user k.users by u) ∙ other-left r (same_text by u)
after-same r k (Taken by) Leave Owner u = refl
after-same r k (Closed v) Leave d u = refl
after-same r k (Confirmed i) Leave d u = refl
after-same r k s Note d u = refl
after-same r k Open (Close v) Officer u = refl
after-same r k Open (Close v) Authority u = refl
after-same r k Open (Close v) Owner u = refl
after-same r k (Taken by) (Close v) Officer u = refl
after-same r k (Taken by) (Close v) Authority u = refl
after-same r k (Taken by) (Close v) Owner u = refl
after-same r k (Closed w) (Close v) d u = refl
after-same r k (Confirmed i) (Close v) d u = refl
after-same r k (Confirmed i) Confirm d u = refl
after-same r k Open Confirm Officer u = refl
after-same r k Open Confirm Authority u = refl
after-same r k Open Confirm Owner u = refl
after-same r k (Taken by) Confirm Officer u = refl
after-same r k (Taken by) Confirm Authority u = refl
after-same r k (Taken by) Confirm Owner u = refl
after-same r k (Closed v) Confirm Officer u = refl
after-same r k (Closed v) Confirm Authority u = refl
after-same r k (Closed v) Confirm Owner u = refl
after-same r k (Confirmed i) (Inform w) Officer u = refl
after-same r k (Confirmed i) (Inform w) Authority u = refl
after-same r k (Confirmed i) (Inform w) Owner u = refl
after-same r k Open (Inform w) d u = refl
after-same r k (Taken by) (Inform w) d u = refl
after-same r k (Closed v) (Inform w) d u = refl
after-same r k (Closed v) Reopen Officer u = refl
after-same r k (Closed v) Reopen Authority u = refl
after-same r k (Closed v) Reopen Owner u = refl
after-same r k (Confirmed i) Reopen Officer u = refl
after-same r k (Confirmed i) Reopen Authority u = refl
after-same r k (Confirmed i) Reopen Owner u = refl
after-same r k Open Reopen d u = refl
after-same r k (Taken by) Reopen d u = refl

kept-same : (r : Renaming) (o : Option Case) (s : Case) → unwrap_or (option_map (other_case r) o) (other_case r s) ≡ other_case r (unwrap_or o s)
kept-same r None s = refl
kept-same r (Some t) s = refl

on-same : (r : Renaming) → Keeps r → (l : CaseLine) (s : Case) (c : ProductCode) (n : ℕ) (h : Option Hint)
    → on (renamed_line r l) (other_case r s) c n h ≡ other_case r (on l s c n h)
on-same r k l s c n h = by (has l.range c n h) l.author
  where
    by : (b : Bool) (a : Author)
        → cond b (unwrap_or (after (other_case r s) l.act (author_reader (renamed_author r a)) (author_user (renamed_author r a))) (other_case r s)) (other_case r s)
        ≡ other_case r (cond b (unwrap_or (after s l.act (author_reader a) (author_user a)) s) s)
    by false a = refl
    by true (author.Officer u) =
        ap (λ (o : Option Case). unwrap_or o (other_case r s)) (after-same r k s l.act Officer u) ∙ kept-same r (after s l.act Officer u) s
    by true (author.User u a) =
        ap (λ (o : Option Case). unwrap_or o (other_case r s)) (after-same r k s l.act (author_reader (author.User u a)) u)
        ∙ kept-same r (after s l.act (author_reader (author.User u a)) u) s

acted-same : (r : Renaming) → Keeps r → (l : CaseLine) (a : FlaggedAlert) → acted (renamed_line r l) (other_alert r a) ≡ other_case r (acted l a)
acted-same r k l a = on-same r k l a.case a.name.code a.name.number a.hint

-- ---- alerts

stands-same : (r : Renaming) (t : List Entry) (f : Flagged) (e : Entry) (a : Reply)
    → stands_as (others r t) (other_flagged r f) (renamed_entry r e) a ≡ option_map (other_alert r) (stands_as t f e a)
stands-same r t f e (Alert c flagged n) =
    ap (λ (h : Option Hint). Some (record { name = record { code = code_of e.put.question; number = n }; cause = c; entry = renamed_entry r e; hint = h; case = other_case r f.case }))
    (hint-same r t (pack_of e.put.question) c f.repeated)
stands-same r t f e _ = refl

pub alert-same : (r : Renaming) (t : List Entry) (f : Flagged) → alert_of (others r t) (other_flagged r f) ≡ option_map (other_alert r) (alert_of t f)
alert-same r t f =
    ap (option_and_then (λ (e : Entry). stands_as (others r t) (other_flagged r f) e e.reply)) (slice_get-map (renamed_entry r) t f.place)
    ∙ by (slice_get t f.place)
  where
    by : (o : Option Entry) → option_and_then (λ (e : Entry). stands_as (others r t) (other_flagged r f) e e.reply) (option_map (renamed_entry r) o)
        ≡ option_map (other_alert r) (option_and_then (λ (e : Entry). stands_as t f e e.reply) o)
    by None = refl
    by (Some e) = stands-same r t f e e.reply

line-same : (r : Renaming) → Keeps r → (t : List Entry) (f : Flagged) (l : CaseLine)
    → after_line (others r t) (other_flagged r f) (renamed_line r l) ≡ other_case r (after_line t f l)
line-same r k t f l =
    ap (λ (u : List Entry). option_map_or (acted (renamed_line r l)) (alert_of u (other_flagged r f)) (other_case r f.case)) (take-map (renamed_entry r) l.at t)
    ∙ ap (λ (o : Option FlaggedAlert). option_map_or (acted (renamed_line r l)) o (other_case r f.case)) (alert-same r (take l.at t) f)
    ∙ by (alert_of (take l.at t) f)
  where
    by : (o : Option FlaggedAlert) → option_map_or (acted (renamed_line r l)) (option_map (other_alert r) o) (other_case r f.case) ≡ other_case r (option_map_or (acted l) o f.case)
    by None = refl
    by (Some a) = acted-same r k l a

lines-same : (r : Renaming) → Keeps r → (t : List Entry) (f : Flagged) (ls : List CaseLine)
    → after_lines (others r t) (other_flagged r f) (map (renamed_line r) ls) ≡ other_flagged r (after_lines t f ls)
unfolding after_lines
lines-same r k t f [] = refl
lines-same r k t f (l ∷ ls) =
    ap (λ (s : Case). after_lines (others r t) (record f { case = s }) (map (renamed_line r) ls)) (line-same r k t f l)
    ∙ lines-same r k t (with_case t l f) ls

raised_as-same : (r : Renaming) → Keeps r → (place : ℕ) (e : Entry) (k : Option Known) (a : Reply)
    → raised_as place (renamed_entry r e) (option_map (other_known r) k) a ≡ map (other_flagged r) (raised_as place e k a)
raised_as-same r keeps place e k (Alert c true n) =
    ap (λ (h : Option Hint). record { place = place; repeated = h; case = Open } ∷ []) (repeated-same r keeps c e.put k)
raised_as-same r keeps place e k (Alert c false n) = refl
raised_as-same r keeps place e k _ = refl

raised_from-same : (r : Renaming) → Keeps r → (before t : List Entry) → KnowsSame r before
    → raised_from (others r before) (others r t) ≡ map (other_flagged r) (raised_from before t)
unfolding raised_from
raised_from-same r k before [] same = refl
raised_from-same r k before (e ∷ t) same =
    (λ i. raised_as (length-map before (renamed_entry r) i) (renamed_entry r e) (fact-same r before same (pack_of e.put.question) i) e.reply
    ++ raised_from (sym (map_push (renamed_entry r) before e) i) (others r t))
    ∙ (λ i. raised_as-same r k (length before) e (pack_fact before (pack_of e.put.question)) e.reply i
    ++ raised_from-same r k (before ++ e ∷ []) t (one-more r before e same) i)
    ∙ sym (map-append (other_flagged r) (raised_as (length before) e (pack_fact before (pack_of e.put.question)) e.reply) (raised_from (before ++ e ∷ []) t))

pub raised-same : (r : Renaming) → Keeps r → (t : List Entry) → raised (others r t) ≡ map (other_flagged r) (raised t)
raised-same r k t = raised_from-same r k [] t (λ p. refl)

-- the flagged alerts are the same, but for the names of those who took them
pub flagged-same : (r : Renaming) → Keeps r → (t : List Entry) (ls : List CaseLine)
    → flagged_of (others r t) (map (renamed_line r) ls) ≡ map (other_flagged r) (flagged_of t ls)
flagged-same r k t ls =
    ap (map (λ f. after_lines (others r t) f (map (renamed_line r) ls))) (raised-same r k t) ∙ each (raised t)
  where
    each : (fs : List Flagged) → map (λ f. after_lines (others r t) f (map (renamed_line r) ls)) (map (other_flagged r) fs)
        ≡ map (other_flagged r) (map (λ f. after_lines t f ls) fs)
    each [] = refl
    each (f ∷ fs) = λ i. lines-same r k t f ls i ∷ each fs i
