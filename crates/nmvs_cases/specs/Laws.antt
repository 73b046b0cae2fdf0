-- The laws of hints and cases, in the words of operations (own, for Article 37(d)).
use Rattle.std.specs.Prelude.{ℕ, ◌≡◌, ◌≢◌, ◌≤◌, ◌<◌, ◌+◌, ◌⊎◌, ◌==◌, not, Bool, true, false, List, [], ◌∷◌, ◌++◌, find, Option, Some, None}
use Rattle.std.specs.List.{list_all, list_any}
use Rattle.std.specs.Option.{is_some, option_and_then}
use Rattle.std.specs.Str.{bytes_eq}
use Rattle.nmvs_identifier.specs.Name.{Name}
use Rattle.nmvs_identifier.specs.ProductCode.{ProductCode}
use Rattle.nmvs_identifier.specs.Texts.{same_text}
use Rattle.nmvs_identifier.specs.declared.pack.Pack.{Pack}
use Rattle.nmvs_rules.specs.declared.cause.Cause.{Cause}
use Rattle.nmvs_rules.specs.declared.cause.Cause.TheVariants as causes
use Rattle.nmvs_rules.specs.declared.entry.Entry.{Entry}
use Rattle.nmvs_rules.specs.declared.put.Put.{Put}
use Rattle.nmvs_rules.specs.Operations.{last_operation, uploads}
use Rattle.nmvs_cases.specs.declared.act.Act.{Act}
use Rattle.nmvs_cases.specs.declared.act.Act.TheVariants.{Close, Confirm}
use Rattle.nmvs_cases.specs.declared.act.Reader.{Reader}
use Rattle.nmvs_cases.specs.declared.act.Reader.TheVariants.{Officer, Authority}
use Rattle.nmvs_cases.specs.declared.case.Case.{Case}
use Rattle.nmvs_cases.specs.declared.case.Case.TheVariants.{Open, Confirmed}
use Rattle.nmvs_cases.specs.declared.case.Informed.{Informed}
use Rattle.nmvs_cases.specs.declared.hint.Hint.{Hint}
use Rattle.nmvs_cases.specs.declared.hint.Hint.TheVariants.{Late, Own, House}
use Rattle.nmvs_cases.specs.declared.line.CaseLine.{CaseLine}
use Rattle.nmvs_cases.specs.declared.range.Hinted.TheVariants.{Only}
use Rattle.nmvs_cases.specs.declared.written_line.WrittenLine.{WrittenLine}
use Rattle.nmvs_cases.specs.CaseLines.{IsRanged, case_text}
use Rattle.nmvs_cases.specs.Cases.{after, are_all, is_listed, on}
use Rattle.nmvs_cases.specs.Hints.{hint_at, hint_word}

-- the last operation on the pack, among the entries before, was of the question's authorisation, at most a day earlier
pub record IsRepeated (before : List Entry) (p : Pack) (q : Put) : Type 0 where
  pub last : Entry
  pub latest : last_operation before p ≡ Some last
  pub authorisation : last.put.actor.authorisation.bytes ≡ q.actor.authorisation.bytes
  pub soon : q.moment ≤ last.put.moment + 86400

-- a hint says what the trail has: that the unknown pack was uploaded, or that the house repeats its last operation, at the same premises
-- or at others
pub record HintsAreTrue : Type 0 where
  pub late : (t before : List Entry) (q : Put) (p : Pack) (c : Cause) → hint_at t before q p c ≡ Some Late → (c ≡ causes.Unknown) × (is_some (find (uploads p) t) ≡ true)
  pub own : (t before : List Entry) (q : Put) (p : Pack) (c : Cause) → hint_at t before q p c ≡ Some Own → (r : IsRepeated before p q) × (r.last.put.actor.premises.bytes ≡ q.actor.premises.bytes)
  pub house : (t before : List Entry) (q : Put) (p : Pack) (c : Cause) → hint_at t before q p c ≡ Some House → (r : IsRepeated before p q) × (r.last.put.actor.premises.bytes ≢ q.actor.premises.bytes)

-- an act on an alert: what, as which reader, by whom
pub record Done : Type 0 where
  pub act : Act
  pub reader : Reader
  pub user : Name

-- the case after these acts, the latest of which is the first; none if an author could not do one of them
abbrev pub case_after : List Done → Option Case
case_after [] = Some Open
case_after (d ∷ ds) = option_and_then (λ s. after s d.act d.reader d.user) (case_after ds)

-- whether an act closes an alert without a falsification, by one who may
abbrev pub is_closing : Act → Reader → Bool
is_closing (Close v) Officer = true
is_closing (Close v) Authority = true
is_closing _ r = false

abbrev pub closes : Done → Bool
closes d = is_closing d.act d.reader

-- whether an act confirms a falsification, by the authority
abbrev pub is_confirming : Act → Reader → Bool
is_confirming Confirm Authority = true
is_confirming _ r = false

abbrev pub confirms : Done → Bool
confirms d = is_confirming d.act d.reader

-- no flagged alert leaves the list of work by itself: one who may closed it, or the authority confirmed it and all three are informed
abbrev pub NoneIsForgotten : Type 0
NoneIsForgotten =
    (ds : List Done) (s : Case) → case_after ds ≡ Some s → is_listed s ≡ false
    → (list_any closes ds ≡ true) ⊎ ((list_any confirms ds ≡ true) × ((i : Informed) × (s ≡ Confirmed i) × (are_all i ≡ true)))

-- a line changes the case of no alert on another product code, with another number, or with another hint
pub record RangesHaveTheirOwn : Type 0 where
  pub code : (line : CaseLine) (s : Case) (c : ProductCode) (n : ℕ) (h : Option Hint) → same_text line.range.code c ≡ false → on line s c n h ≡ s
  pub earlier : (line : CaseLine) (s : Case) (c : ProductCode) (n : ℕ) (h : Option Hint) → n < line.range.first → on line s c n h ≡ s
  pub later : (line : CaseLine) (s : Case) (c : ProductCode) (n : ℕ) (h : Option Hint) → line.range.last < n → on line s c n h ≡ s
  pub hint : (line : CaseLine) (s : Case) (c : ProductCode) (n : ℕ) (wanted h : Hint) → line.range.hinted ≡ Only (Some wanted) → bytes_eq (hint_word wanted) (hint_word h) ≡ false → on line s c n (Some h) ≡ s
  pub unhinted : (line : CaseLine) (s : Case) (c : ProductCode) (n : ℕ) (wanted : Hint) → line.range.hinted ≡ Only (Some wanted) → on line s c n None ≡ s

-- a line over an alert, and the hint of the alert at the line
pub record Over : Type 0 where
  pub line : CaseLine
  pub hint : Option Hint

-- the case of an alert after these lines, the earliest of which is the first
abbrev pub case_over : ProductCode → ℕ → List Over → Case → Case
case_over c n [] s = s
case_over c n (l ∷ ls) s = case_over c n ls (on l.line s c n l.hint)

-- what lines made of a case stays: later lines change that case, and none of the earlier ones
abbrev pub CasesStay : Type 0
CasesStay =
    (c : ProductCode) (n : ℕ) (earlier later : List Over) (s : Case) → case_over c n (earlier ++ later) s ≡ case_over c n later (case_over c n earlier s)

-- no line of an act has an LF, so an LF ends it
abbrev pub LinesHaveNoLf : Type 0
LinesHaveNoLf = (w : WrittenLine) → IsRanged w → list_all (λ b. not (b == 10)) (case_text w) ≡ true
