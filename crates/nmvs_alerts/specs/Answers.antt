-- What readers get, as JSON (own, for Articles 38 and 39).
use Rattle.std.specs.Prelude.{ℕ, ◌-◌, Bool, true, false, not, ◌&&◌, ◌||◌, List, [], ◌++◌, Option, Some, None, codes, decimal, filter, find, length, if◌then◌else◌}
use Rattle.std.specs.List.{flat_map, slice_get}
use Rattle.std.specs.Option.{is_none, option_map_or}
use Rattle.nmvs_identifier.specs.Name.{Name}
use Rattle.nmvs_identifier.specs.ProductCode.{ProductCode}
use Rattle.nmvs_identifier.specs.Texts.{same_text}
use Rattle.nmvs_identifier.specs.declared.pack.Pack.{Pack}
use Rattle.nmvs_inspect.specs.Filter.{every}
use Rattle.nmvs_inspect.specs.declared.filter.Filter.{Filter}
use Rattle.nmvs_reports.specs.Alerts.{is_named}
use Rattle.nmvs_reports.specs.declared.alert_name.AlertName.{AlertName}
use Rattle.nmvs_rules.specs.declared.actor.Actor.{Actor}
use Rattle.nmvs_rules.specs.declared.entry.Entry.{Entry}
use Rattle.nmvs_rules.specs.declared.role.Role.{Role}
use Rattle.nmvs_rules.specs.declared.role.Role.TheVariants as roles
use Rattle.nmvs_rules.specs.Questions.{pack_of}
use Rattle.nmvs_rules.specs.Trail.{is_about}
use Rattle.nmvs_cases.specs.declared.author.Author.{Author}
use Rattle.nmvs_cases.specs.declared.author.Author.TheVariants.{Officer, User}
use Rattle.nmvs_cases.specs.declared.range.Hinted.{Hinted}
use Rattle.nmvs_cases.specs.Authors.{author_user}
use Rattle.nmvs_alerts.specs.declared.alert.FlaggedAlert.{FlaggedAlert}
use Rattle.nmvs_alerts.specs.declared.flagged.Flagged.{Flagged}
use Rattle.nmvs_alerts.specs.declared.selection.AlertFilter.{AlertFilter}
use Rattle.nmvs_alerts.specs.declared.selection.Wanted.TheVariants.{Listed}
use Rattle.nmvs_alerts.specs.Alerts.{Investigated, alert_of, flagged_in, texts_on}
use Rattle.nmvs_alerts.specs.Json.{joined, named, number_member, text_member}
use Rattle.nmvs_alerts.specs.One.{alert_text}
use Rattle.nmvs_alerts.specs.Selection.{wanted}
use Rattle.nmvs_alerts.specs.Story.{line_for, seen}
use Rattle.nmvs_alerts.specs.Viewing.{may_see, sees_houses}

-- whether a reader may ask for alerts by who raised them: who does not see that may not
abbrev pub may_ask : Author → Filter → Bool
may_ask u f = sees_houses u || (is_none f.user && is_none f.role && is_none f.authorisation && is_none f.premises)

-- the entries that a reader sees: an authority all, a house its own, others none
abbrev pub is_other : Option Name → Name → Bool
is_other None own = false
is_other (Some n) own = not (same_text n own)

abbrev pub own_entries : Actor → Filter → Option Filter
own_entries a f =
    if is_other f.authorisation a.authorisation || is_other f.premises a.premises then None else Some (record f { authorisation = Some a.authorisation; premises = Some a.premises })

abbrev pub entries_as : Actor → Filter → Role → Option Filter
entries_as a f roles.Authority = Some f
entries_as a f roles.Holder = None
entries_as a f r = own_entries a f

abbrev pub entries_of : Author → Filter → Option Filter
entries_of (Officer u) f = None
entries_of (User u a) f = entries_as a f a.role

-- who reads, as who, and how far the trail was judged
abbrev pub reads_in : Role → List ℕ
reads_in roles.Authority = codes "AUTHORITY"
reads_in roles.Holder = codes "HOLDER"
reads_in r = codes "HOUSE"

abbrev pub reads_as : Author → List ℕ
reads_as (Officer u) = codes "OFFICER"
reads_as (User u a) = reads_in a.role

abbrev pub last_moment : List Entry → ℕ
last_moment t = option_map_or (λ e. e.put.moment) (slice_get t (length t - 1)) 0

unfoldable pub user_text : Author → List ℕ
user_text u = codes "{\"user\":\"" ++ ((author_user u).bytes ++ (codes "\"" ++ text_member (codes "reads") (reads_as u)))

unfoldable pub reader_text : List Entry → Author → List ℕ → List ℕ
reader_text t u fault =
    user_text u ++ (number_member (codes "entries") (length t) ++ (number_member (codes "moment") (last_moment t) ++ (text_member (codes "fault") fault ++ codes "}")))

-- the flagged alert of a name, if the reader sees it
abbrev pub is_it : List Entry → Author → AlertName → Flagged → Bool
is_it t u name f = option_map_or (λ e. is_named name e && may_see t u e.put) (slice_get t f.place) false

abbrev pub alert_named : Investigated → Author → AlertName → Option Flagged
alert_named i u name = find (is_it i.trail u name) (flagged_in i)

-- the acts on it that the reader sees
unfoldable pub acts_text : List (List ℕ) → List ℕ
acts_text texts = named (codes "acts") ++ (codes "[" ++ (joined (λ text. text) texts ++ codes "]"))

-- the story of its pack
abbrev pub story_of : List Entry → Option Pack → List Entry
story_of t None = []
story_of t (Some p) = filter (is_about p) t

unfoldable pub story_text : List Entry → Author → Option Pack → List ℕ
story_text t u p = named (codes "story") ++ (codes "[" ++ (joined (line_for u) (flat_map (seen u) (story_of t p)) ++ codes "]"))

unfoldable pub one_text : Investigated → Author → Flagged → FlaggedAlert → List ℕ
one_text i u f a =
    alert_text i.trail u a ++ (acts_text (texts_on i f.place u) ++ (story_text i.trail u (pack_of a.entry.put.question) ++ codes "}"))

abbrev pub stands_text : Investigated → Author → Flagged → List ℕ
stands_text i u f = option_map_or (one_text i u f) (alert_of i.trail f) []

-- the listed alerts on a product code with these hints that a reader sees, oldest first
abbrev pub of_code : ProductCode → Hinted → AlertFilter
of_code c h = record { entries = record every { code = Some c }; cause = None; hinted = h; wanted = Listed; behind = None }

abbrev pub ranged : List Entry → Author → ProductCode → Hinted → List Flagged → List Flagged
ranged t u c h fs = flat_map (λ f. wanted t u (of_code c h) false f ++ wanted t u (of_code c h) true f) fs

-- the smallest range that has them, and their number
abbrev pub number_of : List Entry → Option Flagged → ℕ
number_of t f = option_map_or (λ f. option_map_or (λ a. a.name.number) (alert_of t f) 0) f 0

unfoldable pub range_text : List Entry → List Flagged → List ℕ
range_text t found =
    codes "{\"first\":" ++ (decimal (number_of t (slice_get found 0)) ++ (number_member (codes "last") (number_of t (slice_get found (length found - 1)))
    ++ (number_member (codes "alerts") (length found) ++ codes "}")))
