-- Cases: what becomes of a flagged alert (own, for Article 37(d)).
use Rattle.std.specs.Prelude.{ℕ, Bool, true, false, not, ◌&&◌, nat_le, Option, Some, None, unwrap_or, if◌then◌else◌}
use Rattle.std.specs.Str.{bytes_eq}
use Rattle.nmvs_identifier.specs.Name.{Name}
use Rattle.nmvs_identifier.specs.ProductCode.{ProductCode}
use Rattle.nmvs_identifier.specs.Texts.{same_text}
use Rattle.nmvs_cases.specs.declared.act.Act.{Act}
use Rattle.nmvs_cases.specs.declared.act.Act.TheVariants.{Take, Leave, Note, Close, Confirm, Inform, Reopen}
use Rattle.nmvs_cases.specs.declared.act.Reader.{Reader}
use Rattle.nmvs_cases.specs.declared.act.Reader.TheVariants.{Officer, Authority, Owner}
use Rattle.nmvs_cases.specs.declared.act.Verdict.{Verdict}
use Rattle.nmvs_cases.specs.declared.act.Whom.{Whom}
use Rattle.nmvs_cases.specs.declared.act.Whom.TheVariants as whom
use Rattle.nmvs_cases.specs.declared.case.Case.{Case}
use Rattle.nmvs_cases.specs.declared.case.Case.TheVariants.{Open, Taken, Closed, Confirmed}
use Rattle.nmvs_cases.specs.declared.case.Informed.{Informed}
use Rattle.nmvs_cases.specs.declared.hint.Hint.{Hint}
use Rattle.nmvs_cases.specs.declared.line.CaseLine.{CaseLine}
use Rattle.nmvs_cases.specs.declared.range.Hinted.{Hinted}
use Rattle.nmvs_cases.specs.declared.range.Hinted.TheVariants.{Any, Only}
use Rattle.nmvs_cases.specs.declared.range.Range.{Range}
use Rattle.nmvs_cases.specs.Authors.{author_reader, author_user}
use Rattle.nmvs_cases.specs.Hints.{hint_word}

-- who of a confirmed falsification is informed: nobody at first
abbrev pub nobody : Informed
nobody = record { authority = false; agency = false; commission = false }

abbrev pub with_one_more : Informed → Whom → Informed
with_one_more i whom.Authority = record i { authority = true }
with_one_more i whom.Agency = record i { agency = true }
with_one_more i whom.Commission = record i { commission = true }
with_one_more i whom.Holder = i

-- whether those whom the Article names are all informed
abbrev pub are_all : Informed → Bool
are_all i = i.authority && i.agency && i.commission

-- an officer or the authority takes a case that is open, or that another has taken
abbrev pub taken_by : Reader → Name → Option Case
taken_by Officer u = Some (Taken u)
taken_by Authority u = Some (Taken u)
taken_by Owner u = None

abbrev pub taken : Case → Reader → Name → Option Case
taken Open r u = taken_by r u
taken (Taken by) r u = if same_text by u then None else taken_by r u
taken _ r u = None

-- who took it leaves it, or the authority does
abbrev pub left : Case → Reader → Name → Option Case
left (Taken by) Authority u = Some Open
left (Taken by) Officer u = if same_text by u then Some Open else None
left _ r u = None

-- an officer or the authority closes a case that is open or taken
abbrev pub closed_by : Reader → Verdict → Option Case
closed_by Officer v = Some (Closed v)
closed_by Authority v = Some (Closed v)
closed_by Owner v = None

abbrev pub closed : Case → Verdict → Reader → Option Case
closed Open v r = closed_by r v
closed (Taken by) v r = closed_by r v
closed _ v r = None

-- the authority alone confirms a falsification, also in a closed case
abbrev pub confirmed : Case → Reader → Option Case
confirmed (Confirmed i) r = None
confirmed _ Authority = Some (Confirmed nobody)
confirmed _ r = None

-- of a confirmed one an officer or the authority informs
abbrev pub informed : Case → Whom → Reader → Option Case
informed (Confirmed i) w Owner = None
informed (Confirmed i) w r = Some (Confirmed (with_one_more i w))
informed _ w r = None

-- an officer or the authority opens a closed case again, and the authority alone a confirmed one
abbrev pub reopened : Case → Reader → Option Case
reopened (Closed v) Officer = Some Open
reopened (Closed v) Authority = Some Open
reopened (Confirmed i) Authority = Some Open
reopened _ r = None

-- the case after an act of a user who reads as this; none if the user may not do it, or not in this state
abbrev pub after : Case → Act → Reader → Name → Option Case
after s Take r u = taken s r u
after s Leave r u = left s r u
after s Note r u = Some s
after s (Close v) r u = closed s v r
after s Confirm r u = confirmed s r
after s (Inform w) r u = informed s w r
after s Reopen r u = reopened s r

-- whether the case stands in the list of work
abbrev pub is_listed : Case → Bool
is_listed Open = true
is_listed (Taken by) = true
is_listed (Closed v) = false
is_listed (Confirmed i) = not (are_all i)

-- whether an alert's hint is one of these
abbrev pub is_hinted : Hinted → Option Hint → Bool
is_hinted Any h = true
is_hinted (Only None) None = true
is_hinted (Only None) (Some h) = false
is_hinted (Only (Some wanted)) None = false
is_hinted (Only (Some wanted)) (Some h) = bytes_eq (hint_word wanted) (hint_word h)

-- whether an act on the range is about the flagged alert on this product code with this number and hint
abbrev pub has : Range → ProductCode → ℕ → Option Hint → Bool
has range c n h = same_text range.code c && nat_le range.first n && nat_le n range.last && is_hinted range.hinted h

-- the case of such an alert after a line: as it was if the alert is not of the range, or the author may not do the act in this state
abbrev pub on : CaseLine → Case → ProductCode → ℕ → Option Hint → Case
on line s c n h = if has line.range c n h then unwrap_or (after s line.act (author_reader line.author) (author_user line.author)) s else s
