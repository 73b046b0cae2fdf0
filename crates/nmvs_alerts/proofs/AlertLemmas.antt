-- The flagged alerts of a trail that grows, and their cases after one more line.
use Rattle.std.proofs.Common.{◌≡◌, ◌≤◌, ◌+◌, ◌++◌, ◌∷◌, ◌∙◌, [], ℕ, List, Bool, true, false, Option, Some, None, length, map, take, ap, sym, refl, arith, append_assoc, append-nil}
use Rattle.std.specs.Prelude.{◌&&◌, ◌==◌, cond, filter, string_bytes}
use Rattle.std.specs.List.{flat_map, list_any, slice_get}
use Rattle.std.specs.Option.{option_map_or, option_and_then}
use Rattle.std.proofs.lemmas.List.{length-append, map-append, take-append-le, take_all, length-take-le}
use Rattle.std.proofs.lemmas.Option.{slice_get_past}
use Rattle.nmvs_identifier.specs.declared.pack.Pack.{Pack}
use Rattle.nmvs_rules.specs.declared.cause.Cause.{Cause}
use Rattle.nmvs_rules.specs.declared.entry.Entry.{Entry}
use Rattle.nmvs_rules.specs.declared.facts.Known.{Known}
use Rattle.nmvs_rules.specs.declared.pack_question.PackQuestion.TheVariants.{Decommission, Handover, Revert, Theft}
use Rattle.nmvs_rules.specs.declared.question.Question.{Question}
use Rattle.nmvs_rules.specs.declared.question.Question.TheVariants.{Upload, OfPack, OfBatch}
use Rattle.nmvs_rules.specs.declared.reply.Reply.{Reply}
use Rattle.nmvs_rules.specs.declared.reply.Reply.TheVariants.{Alert}
use Rattle.nmvs_rules.specs.Facts.{pack_fact}
use Rattle.nmvs_rules.specs.Questions.{pack_of}
use Rattle.nmvs_rules.specs.Trail.{accepts, is_about, is_accepted, known, marked_by}
use Rattle.nmvs_rules.proofs.PushLemmas.{known-push}
use Rattle.nmvs_cases.specs.declared.author.Author.{Author}
use Rattle.nmvs_cases.specs.declared.case.Case.{Case}
use Rattle.nmvs_cases.specs.declared.line.CaseLine.{CaseLine}
use Rattle.nmvs_cases.specs.Cases.{has}
use Rattle.nmvs_alerts.specs.declared.flagged.Flagged.{Flagged}
use Rattle.nmvs_alerts.specs.declared.investigation.KeptLine.{KeptLine}
use Rattle.nmvs_alerts.specs.Alerts.{acted, after_line, after_lines, alert_of, flagged_of, is_meant, is_shown, kept_text, lines_in, lines_of, places_about, raised, raised_as, raised_by, raised_from, shown_line, stands_as, with_case, ArePast, ArePlaced, ShownLine}
use Rattle.nmvs_alerts.specs.Viewing.{sees_act}

-- the flagged alert that the entry behind others is, if it is one
abbrev pub last_raised : List Entry → Entry → List Flagged
last_raised t e = raised_by (length t) e (pack_fact t (pack_of e.put.question))

raised_from-push : (before t : List Entry) (e : Entry) → raised_from before (t ++ e ∷ []) ≡ raised_from before t ++ last_raised (before ++ t) e
unfolding raised_from
raised_from-push before [] e = append-nil (last_raised before e) ∙ ap (λ (b : List Entry). last_raised b e) (sym (append-nil before))
raised_from-push before (x ∷ t) e =
    ap (λ (fs : List Flagged). last_raised before x ++ fs) (raised_from-push (before ++ x ∷ []) t e)
    ∙ sym (append_assoc (last_raised before x) (raised_from (before ++ x ∷ []) t) (last_raised ((before ++ x ∷ []) ++ t) e))
    ∙ ap (λ (b : List Entry). (last_raised before x ++ raised_from (before ++ x ∷ []) t) ++ last_raised b e) (append_assoc before (x ∷ []) t)

pub raised-push : (t : List Entry) (e : Entry) → raised (t ++ e ∷ []) ≡ raised t ++ last_raised t e
raised-push t e = raised_from-push [] t e

-- a line is about the entries that it was written over, and no later one
after_line-push : (t : List Entry) (e : Entry) (f : Flagged) (l : CaseLine) → l.at ≤ length t → after_line (t ++ e ∷ []) f l ≡ after_line t f l
after_line-push t e f l past = ap (λ (u : List Entry). option_map_or (acted l) (alert_of u f) f.case) (take-append-le l.at t (e ∷ []) past)

pub after_lines-push : (t : List Entry) (e : Entry) (f : Flagged) (ls : List CaseLine) → ArePast t ls → after_lines (t ++ e ∷ []) f ls ≡ after_lines t f ls
unfolding after_lines
after_lines-push t e f [] past = refl
after_lines-push t e f (l ∷ ls) past =
    after_lines-push t e (record f { case = after_line (t ++ e ∷ []) f l }) ls past.1
    ∙ ap (λ (s : Case). after_lines t (record f { case = s }) ls) (after_line-push t e f l past.0)

-- no line has been about a later alert
later : (t : List Entry) (f : Flagged) (l : CaseLine) → l.at ≤ length t → length t ≤ f.place → after_line t f l ≡ f.case
later t f l past behind =
    ap (λ (o : Option Entry). option_map_or (acted l) (option_and_then (λ e. stands_as (take l.at t) f e e.reply) o) f.case)
    (slice_get_past (take l.at t) f.place (omega (arith, length-take-le l.at t past, past, behind)))

pub after_lines-later : (t : List Entry) (f : Flagged) (ls : List CaseLine) → ArePast t ls → length t ≤ f.place → after_lines t f ls ≡ f
unfolding after_lines
after_lines-later t f [] past behind = refl
after_lines-later t f (l ∷ ls) past behind =
    ap (λ (s : Case). after_lines t (record f { case = s }) ls) (later t f l past.0 behind) ∙ after_lines-later t f ls past.1 behind

-- of the trail that is one entry longer, the earlier alerts have their cases, and the new one is open
earlier-all : (t : List Entry) (e : Entry) (ls : List CaseLine) (fs : List Flagged) → ArePast t ls
    → map (λ f. after_lines (t ++ e ∷ []) f ls) fs ≡ map (λ f. after_lines t f ls) fs
earlier-all t e ls [] past = refl
earlier-all t e ls (f ∷ fs) past = ap (λ (g : Flagged). g ∷ map (λ f. after_lines (t ++ e ∷ []) f ls) fs) (after_lines-push t e f ls past)
    ∙ ap (λ (gs : List Flagged). after_lines t f ls ∷ gs) (earlier-all t e ls fs past)

new-open : (t : List Entry) (e : Entry) (ls : List CaseLine) (k : Option Known) (r : Reply) → ArePast t ls
    → map (λ f. after_lines (t ++ e ∷ []) f ls) (raised_as (length t) e k r) ≡ raised_as (length t) e k r
new-open t e ls k (Alert c true n) past =
    ap (λ (g : Flagged). g ∷ []) (after_lines-push t e _ ls past ∙ after_lines-later t _ ls past (omega arith))
new-open t e ls k (Alert c false n) past = refl
new-open t e ls k r past = refl

pub flagged-push : (t : List Entry) (e : Entry) (ls : List CaseLine) → ArePast t ls → flagged_of (t ++ e ∷ []) ls ≡ flagged_of t ls ++ last_raised t e
flagged-push t e ls past =
    ap (map (λ f. after_lines (t ++ e ∷ []) f ls)) (raised-push t e)
    ∙ map-append (λ f. after_lines (t ++ e ∷ []) f ls) (raised t) (last_raised t e)
    ∙ ap (λ (fs : List Flagged). fs ++ map (λ f. after_lines (t ++ e ∷ []) f ls) (last_raised t e)) (earlier-all t e ls (raised t) past)
    ∙ ap (λ (fs : List Flagged). flagged_of t ls ++ fs) (new-open t e ls (pack_fact t (pack_of e.put.question)) e.reply past)

-- one more line
after_lines-line : (t : List Entry) (f : Flagged) (ls : List CaseLine) (l : CaseLine)
    → after_lines t f (ls ++ l ∷ []) ≡ with_case t l (after_lines t f ls)
unfolding after_lines
after_lines-line t f [] l = refl
after_lines-line t f (x ∷ ls) l = after_lines-line t (record f { case = after_line t f x }) ls l

all-lines : (t : List Entry) (ls : List CaseLine) (l : CaseLine) (fs : List Flagged)
    → map (λ f. after_lines t f (ls ++ l ∷ [])) fs ≡ map (with_case t l) (map (λ f. after_lines t f ls) fs)
all-lines t ls l [] = refl
all-lines t ls l (f ∷ fs) = ap (λ (g : Flagged). g ∷ map (λ f. after_lines t f (ls ++ l ∷ [])) fs) (after_lines-line t f ls l)
    ∙ ap (λ (gs : List Flagged). with_case t l (after_lines t f ls) ∷ gs) (all-lines t ls l fs)

pub flagged-line : (t : List Entry) (ls : List CaseLine) (l : CaseLine) → flagged_of t (ls ++ l ∷ []) ≡ map (with_case t l) (flagged_of t ls)
flagged-line t ls l = all-lines t ls l (raised t)

-- lines of entries stay so
pub past-push : (t : List Entry) (e : Entry) (ls : List CaseLine) → ArePast t ls → ArePast (t ++ e ∷ []) ls
past-push t e [] past = tt
past-push t e (l ∷ ls) past = (omega (arith, past.0, length-push), past-push t e ls past.1)
  where
    length-push : length (t ++ e ∷ []) ≡ length t + 1
    length-push = length-append t (e ∷ [])

pub past-line : (t : List Entry) (l : CaseLine) (ls : List CaseLine) → ArePast t ls → l.at ≡ length t → ArePast t (ls ++ l ∷ [])
past-line t l [] past now = (omega (arith, now), tt)
past-line t l (x ∷ ls) past now = (past.0, past-line t l ls past.1 now)

-- a line that is written over the trail as it is
pub over-now : (t : List Entry) (f : Flagged) (l : CaseLine) → l.at ≡ length t → after_line t f l ≡ option_map_or (acted l) (alert_of t f) f.case
over-now t f l now = ap (λ (u : List Entry). option_map_or (acted l) (alert_of u f) f.case) (take_all l.at t (omega (arith, now)))

-- nothing has no alert
pub flagged-none : flagged_of [] [] ≡ []
unfolding raised_from
flagged-none = refl

-- an alert changes nothing of its pack
accepts-alert : (q : Question) (c : Cause) (flagged : Bool) (n : ℕ) → accepts q (Alert c flagged n) ≡ false
accepts-alert (Upload p b x) c flagged n = refl
accepts-alert (OfPack (Decommission r) p) c flagged n = refl
accepts-alert (OfPack Handover p) c flagged n = refl
accepts-alert (OfPack Revert p) c flagged n = refl
accepts-alert (OfPack Theft p) c flagged n = refl
accepts-alert (OfPack asked p) c flagged n = refl
accepts-alert (OfBatch asked d b) c flagged n = refl

no-mark : (a b : Bool) (k j : Option Known) → b ≡ false → cond (a && b) k j ≡ j
no-mark false b k j not = refl
no-mark true b k j not = ap (λ (x : Bool). cond x k j) not

kept : (t : List Entry) (e : Entry) (p : Pack) → is_accepted e ≡ false → known (t ++ e ∷ []) p ≡ known t p
kept t e p not = known-push t e p ∙ no-mark (is_about p e) (is_accepted e) (marked_by (length t) e (known t p)) (known t p) not

kept-of : (t : List Entry) (e : Entry) (p : Option Pack) → is_accepted e ≡ false → pack_fact (t ++ e ∷ []) p ≡ pack_fact t p
kept-of t e None not = refl
kept-of t e (Some p) not = kept t e p not

raised-before : (t : List Entry) (e : Entry) (place : ℕ) (r : Reply) → e.reply ≡ r
    → raised_as place e (pack_fact (t ++ e ∷ []) (pack_of e.put.question)) r ≡ raised_as place e (pack_fact t (pack_of e.put.question)) r
raised-before t e place (Alert c true n) is =
    ap (λ (k : Option Known). raised_as place e k (Alert c true n))
    (kept-of t e (pack_of e.put.question) (ap (accepts e.put.question) is ∙ accepts-alert e.put.question c true n))
raised-before t e place (Alert c false n) is = refl
raised-before t e place r is = refl

at-end : (t : List Entry) (e : Entry) → slice_get (t ++ e ∷ []) (length t) ≡ Some e
at-end [] e = refl
at-end (x ∷ t) e = at-end t e

-- what is found at the last place of a trail is what its last entry is raised as
pub last-is : (t u : List Entry) (e d : Entry) (place : ℕ) (k : Option Known) → u ≡ t ++ e ∷ [] → place + 1 ≡ length u → slice_get u place ≡ Some d
    → k ≡ pack_fact u (pack_of d.put.question) → raised_by place d k ≡ last_raised t e
last-is t u e d place k is last there known-is =
    let at : place ≡ length t = omega (arith, last, ap length is, length-append t (e ∷ [])) in
    let same : d ≡ e = some-inj (sym there ∙ (λ i. slice_get (is i) (at i)) ∙ at-end t e) in
    (λ i. raised_by (at i) (same i) (known-as same i)) ∙ raised-before t e (length t) e.reply refl
  where
    some-inj : {a b : Entry} → Some a ≡ Some b → a ≡ b
    some-inj s = cc

    known-as : (d ≡ e) → k ≡ pack_fact (t ++ e ∷ []) (pack_of e.put.question)
    known-as same = known-is ∙ (λ i. pack_fact (is i) (pack_of (same i).put.question))

-- a case names no alert: the lines are about the same alerts, whatever their cases
meant-as : (t : List Entry) (l : CaseLine) (f : Flagged) (s : Case) → is_meant t l (record f { case = s }) ≡ is_meant t l f
meant-as t l f s = by (slice_get t f.place)
  where
    stands : (e : Entry) (r : Reply)
        → option_map_or (λ a. has l.range a.name.code a.name.number a.hint) (stands_as t (record f { case = s }) e r) false
        ≡ option_map_or (λ a. has l.range a.name.code a.name.number a.hint) (stands_as t f e r) false
    stands e (Alert c flagged n) = refl
    stands e _ = refl

    by : (o : Option Entry)
        → option_map_or (λ a. has l.range a.name.code a.name.number a.hint) (option_and_then (λ e. stands_as t (record f { case = s }) e e.reply) o) false
        ≡ option_map_or (λ a. has l.range a.name.code a.name.number a.hint) (option_and_then (λ e. stands_as t f e e.reply) o) false
    by None = refl
    by (Some e) = stands e e.reply

meant-after : (t : List Entry) (l : CaseLine) (f : Flagged) (ls : List CaseLine) → is_meant t l (after_lines t f ls) ≡ is_meant t l f
unfolding after_lines
meant-after t l f [] = refl
meant-after t l f (x ∷ ls) = meant-after t l (with_case t x f) ls ∙ meant-as t l f (after_line t f x)

place-after : (t : List Entry) (f : Flagged) (ls : List CaseLine) → (after_lines t f ls).place ≡ f.place
unfolding after_lines
place-after t f [] = refl
place-after t f (x ∷ ls) = place-after t (with_case t x f) ls

pub places-after : (t : List Entry) (l : CaseLine) (ls : List CaseLine) (fs : List Flagged)
    → map (λ f. f.place) (filter (is_meant t l) (map (λ f. after_lines t f ls) fs)) ≡ map (λ f. f.place) (filter (is_meant t l) fs)
places-after t l ls [] = refl
places-after t l ls (f ∷ fs) =
    (λ i. map (λ (f : Flagged). f.place) (cond (meant-after t l f ls i) (after_lines t f ls ∷ filter (is_meant t l) (map (λ f. after_lines t f ls) fs)) (filter (is_meant t l) (map (λ f. after_lines t f ls) fs))))
    ∙ first t l ls f fs (is_meant t l f) (places-after t l ls fs)
  where
    first : (t : List Entry) (l : CaseLine) (ls : List CaseLine) (f : Flagged) (fs : List Flagged) (b : Bool)
        → map (λ (f : Flagged). f.place) (filter (is_meant t l) (map (λ f. after_lines t f ls) fs)) ≡ map (λ (f : Flagged). f.place) (filter (is_meant t l) fs)
        → map (λ (f : Flagged). f.place) (cond b (after_lines t f ls ∷ filter (is_meant t l) (map (λ f. after_lines t f ls) fs)) (filter (is_meant t l) (map (λ f. after_lines t f ls) fs)))
        ≡ map (λ (f : Flagged). f.place) (cond b (f ∷ filter (is_meant t l) fs) (filter (is_meant t l) fs))
    first t l ls f fs true same = λ i. place-after t f ls i ∷ same i
    first t l ls f fs false same = same

-- the places of the alerts that a line is about, over the trail as it is
pub places-now : (t : List Entry) (ls : List CaseLine) (l : CaseLine) → l.at ≡ length t
    → map (λ f. f.place) (filter (is_meant t l) (flagged_of t ls)) ≡ places_about t l
places-now t ls l now =
    places-after t l ls (raised t)
    ∙ ap (λ (u : List Entry). map (λ (f : Flagged). f.place) (filter (is_meant u l) (raised u))) (sym (take_all l.at t (omega (arith, now))))

-- and over a longer one
pub placed-push : (t : List Entry) (e : Entry) (ks : List KeptLine) → ArePast t (lines_of (lines_in ks)) → ArePlaced t ks → ArePlaced (t ++ e ∷ []) ks
placed-push t e [] past placed = tt
placed-push t e (k ∷ ks) past placed = (
  placed.0 ∙ ap (λ (u : List Entry). map (λ (f : Flagged). f.place) (filter (is_meant u k.line) (raised u))) (sym (take-append-le k.line.at t (e ∷ []) past.0)),
  placed-push t e ks past.1 placed.1,
)

pub placed-line : (t : List Entry) (ks : List KeptLine) (k : KeptLine) → ArePlaced t ks → k.places.items ≡ places_about t k.line → ArePlaced t (ks ++ k ∷ [])
placed-line t [] k placed here = (here, tt)
placed-line t (x ∷ ks) k placed here = (placed.0, placed-line t ks k placed.1 here)

-- the texts of acts by the places that are kept
pub texts-kept : (t : List Entry) (place : ℕ) (u : Author) (ks : List KeptLine) → ArePlaced t ks
    → flat_map (kept_text place u) ks ≡ map (λ l. l.text) (filter (is_shown t place u) (lines_in ks))
texts-kept t place u [] placed = refl
texts-kept t place u (k ∷ ks) placed =
    (λ j. cond (sees_act u k.line.author && list_any (λ n. n == place) (placed.0 j)) (string_bytes k.text ∷ []) [] ++ texts-kept t place u ks placed.1 j)
    ∙ by (is_shown t place u (shown_line k)) (filter (is_shown t place u) (lines_in ks))
  where
    by : (b : Bool) (ls : List ShownLine) → cond b (string_bytes k.text ∷ []) [] ++ map (λ (l : ShownLine). l.text) ls ≡ map (λ (l : ShownLine). l.text) (cond b (shown_line k ∷ ls) ls)
    by true ls = refl
    by false ls = refl

-- one more line that is kept
pub lines-push : (ks : List KeptLine) (k : KeptLine) → lines_of (lines_in (ks ++ k ∷ [])) ≡ lines_of (lines_in ks) ++ k.line ∷ []
lines-push [] k = refl
lines-push (x ∷ ks) k = ap (λ (ls : List CaseLine). x.line ∷ ls) (lines-push ks k)
