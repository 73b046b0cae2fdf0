-- The flagged alerts of a trail (Article 36(b)), and the case of each by the lines of a list of cases (own, for Article 37(d)).
use Rattle.std.specs.Prelude.{ℕ, ◌≡◌, ◌≤◌, ◌==◌, ◌&&◌, Bool, true, false, List, [], ◌∷◌, ◌++◌, filter, length, map, string_bytes, take, Option, Some, None, if◌then◌else◌}
use Rattle.std.specs.List.{AllByRecursion, list_any, slice_get}
use Rattle.std.specs.Option.{option_map_or, option_and_then}
use Rattle.nmvs_identifier.specs.declared.pack.Pack.{Pack}
use Rattle.nmvs_rules.specs.declared.cause.Cause.{Cause}
use Rattle.nmvs_rules.specs.declared.entry.Entry.{Entry}
use Rattle.nmvs_rules.specs.declared.facts.Known.{Known}
use Rattle.nmvs_rules.specs.declared.reply.Reply.{Reply}
use Rattle.nmvs_rules.specs.declared.reply.Reply.TheVariants.{Alert}
use Rattle.nmvs_rules.specs.Facts.{pack_fact}
use Rattle.nmvs_rules.specs.Questions.{code_of, pack_of}
use Rattle.nmvs_cases.specs.declared.author.Author.{Author}
use Rattle.nmvs_cases.specs.declared.case.Case.{Case}
use Rattle.nmvs_cases.specs.declared.case.Case.TheVariants.{Open}
use Rattle.nmvs_cases.specs.declared.hint.Hint.{Hint}
use Rattle.nmvs_cases.specs.declared.line.CaseLine.{CaseLine}
use Rattle.nmvs_cases.specs.Cases.{has, on}
use Rattle.nmvs_cases.specs.Hints.{hint_by, repeated_hint}
use Rattle.nmvs_alerts.specs.declared.alert.FlaggedAlert.{FlaggedAlert}
use Rattle.nmvs_alerts.specs.declared.flagged.Flagged.{Flagged}
use Rattle.nmvs_alerts.specs.declared.investigation.KeptLine.{KeptLine}
use Rattle.nmvs_alerts.specs.Viewing.{sees_act}

-- a line of cases, and the text that is shown of it
pub record ShownLine : Type 0 where
  pub line : CaseLine
  pub text : List ℕ

-- a trail of which lines of cases speak
pub record Investigated : Type 0 where
  pub trail : List Entry
  pub lines : List ShownLine

abbrev pub listed : {A : Type 0} → Option A → List A
listed None = []
listed (Some a) = a ∷ []

-- the flagged alert that an entry is at a place, behind entries by which this is known of its pack; its case is open
abbrev pub raised_as : ℕ → Entry → Option Known → Reply → List Flagged
raised_as place e k (Alert c true n) = record { place = place; repeated = repeated_hint c e.put k; case = Open } ∷ []
raised_as place e k _ = []

abbrev pub raised_by : ℕ → Entry → Option Known → List Flagged
raised_by place e k = raised_as place e k e.reply

-- the flagged alerts of entries behind others, in their order
unfoldable pub raised_from : List Entry → List Entry → List Flagged
raised_from before [] = []
raised_from before (e ∷ es) = raised_by (length before) e (pack_fact before (pack_of e.put.question)) ++ raised_from (before ++ e ∷ []) es

-- the flagged alerts of a trail, each with an open case
abbrev pub raised : List Entry → List Flagged
raised t = raised_from [] t

-- the hint at an alert of this cause to a question about a pack, over a trail
abbrev pub hint_over : List Entry → Option Pack → Cause → Option Hint → Option Hint
hint_over t None c repeated = repeated
hint_over t (Some p) c repeated = hint_by t p c repeated

-- a flagged alert as it stands over a trail: its name, its question, and the hint at it
abbrev pub stands_as : List Entry → Flagged → Entry → Reply → Option FlaggedAlert
stands_as t f e (Alert c flagged n) =
    Some (record {
      name = record { code = code_of e.put.question; number = n };
      cause = c;
      entry = e;
      hint = hint_over t (pack_of e.put.question) c f.repeated;
      case = f.case;
    })
stands_as t f e _ = None

abbrev pub alert_of : List Entry → Flagged → Option FlaggedAlert
alert_of t f = option_and_then (λ e. stands_as t f e e.reply) (slice_get t f.place)

-- the case of an alert after a line
abbrev pub acted : CaseLine → FlaggedAlert → Case
acted l a = on l a.case a.name.code a.name.number a.hint

-- the same over the trail that the line was written over: its first entries. A line is about no later alert.
abbrev pub after_line : List Entry → Flagged → CaseLine → Case
after_line t f l = option_map_or (acted l) (alert_of (take l.at t) f) f.case

abbrev pub with_case : List Entry → CaseLine → Flagged → Flagged
with_case t l f = record f { case = after_line t f l }

-- a flagged alert after these lines, in their order
unfoldable pub after_lines : List Entry → Flagged → List CaseLine → Flagged
after_lines t f [] = f
after_lines t f (l ∷ ls) = after_lines t (with_case t l f) ls

-- the flagged alerts of a trail, with their cases
abbrev pub flagged_of : List Entry → List CaseLine → List Flagged
flagged_of t ls = map (λ f. after_lines t f ls) (raised t)

-- each line was written over entries of the trail
abbrev pub ArePast : List Entry → List CaseLine → Type 0
ArePast t ls = AllByRecursion (λ l. l.at ≤ length t) ls

abbrev pub lines_of : List ShownLine → List CaseLine
lines_of ls = map (λ l. l.line) ls

abbrev pub flagged_in : Investigated → List Flagged
flagged_in i = flagged_of i.trail (lines_of i.lines)

-- whether a line is about a flagged alert, by its name and the hint at it
abbrev pub is_meant : List Entry → CaseLine → Flagged → Bool
is_meant t l f = option_map_or (λ a. has l.range a.name.code a.name.number a.hint) (alert_of t f) false

-- the places of the alerts that a line is about, over the trail that it was written over
abbrev pub places_about : List Entry → CaseLine → List ℕ
places_about t l = map (λ f. f.place) (filter (is_meant (take l.at t) l) (raised (take l.at t)))

-- the lines that are kept
abbrev pub shown_line : KeptLine → ShownLine
shown_line k = record { line = k.line; text = string_bytes k.text }

abbrev pub lines_in : List KeptLine → List ShownLine
lines_in ks = map shown_line ks

-- each has the places of the alerts that it is about
abbrev pub ArePlaced : List Entry → List KeptLine → Type 0
ArePlaced t ks = AllByRecursion (λ k. k.places.items ≡ places_about t k.line) ks

-- the text of a line, if it is about the flagged alert at a place, and its author's act is seen
abbrev pub kept_text : ℕ → Author → KeptLine → List (List ℕ)
kept_text place u k = if sees_act u k.line.author && list_any (λ n. n == place) k.places.items then string_bytes k.text ∷ [] else []

-- whether a line is about the flagged alert at a place, and its author's act is seen
abbrev pub is_shown : List Entry → ℕ → Author → ShownLine → Bool
is_shown t place u l = sees_act u l.line.author && list_any (λ n. n == place) (places_about t l.line)

-- the texts of the acts on the flagged alert at a place that a reader sees
abbrev pub texts_on : Investigated → ℕ → Author → List (List ℕ)
texts_on i place u = map (λ l. l.text) (filter (is_shown i.trail place u) i.lines)
