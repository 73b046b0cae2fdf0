-- The program's desk: the lines that it admits, the answers that it may give, and the entries that it then records (own).
use Rattle.std.specs.Prelude.{◌≡◌, ◌≢◌, ◌+◌, ◌⊎◌, ℕ, ℤ, pos, ◌≤ℤ◌, Bool, true, false, if◌then◌else◌, List, [], Option, Some, None, length}
use mathlib.Core.List.{IsPrefix}
use Rattle.nmvs_identifier.specs.Moment.{last_moment}
use Rattle.nmvs_identifier.specs.Name.{Name}
use Rattle.nmvs_identifier.specs.ProductCode.{ProductCode}
use Rattle.nmvs_identifier.specs.Tag.{Tag}
use Rattle.nmvs_identifier.specs.Texts.{same_text}
use Rattle.nmvs_directory.specs.Window.{Reads}
use Rattle.nmvs_line.specs.Export.{export_text}
use Rattle.nmvs_directory.specs.declared.change.Change.{Change}
use Rattle.nmvs_directory.specs.declared.look.Look.{Look}
use Rattle.nmvs_directory.specs.declared.look.Look.TheVariants as looks
use Rattle.nmvs_rules.specs.declared.actor.Actor.{Actor}
use Rattle.nmvs_rules.specs.declared.enrolment.Enrolment.{Enrolment}
use Rattle.nmvs_rules.specs.declared.entry.Entry.{Entry}
use Rattle.nmvs_rules.specs.declared.printed.Printed.{Printed}
use Rattle.nmvs_rules.specs.declared.put.Put.{Put}
use Rattle.nmvs_rules.specs.declared.question.Question.TheVariants.{Upload, OfPack}
use Rattle.nmvs_rules.specs.declared.role.Role.{Role}
use Rattle.nmvs_rules.specs.Enrolments.{has_ended, may_upload}
use Rattle.nmvs_rules.specs.Questions.{code_of, may_report}
use Rattle.nmvs_shard.specs.declared.shard.NotPut.{NotPut}
use Rattle.nmvs_shard.specs.declared.shard.NotPut.TheVariants as not_put
use Rattle.nmvs_shard.specs.declared.shard.Outcome.{Outcome}
use Rattle.nmvs_shard.specs.declared.shard.Outcome.TheVariants as outcomes
use Rattle.nmvs_desk.specs.Answers.{Answers, IsShown}
use Rattle.nmvs_desk.specs.Placing.{shard_of}
use Rattle.nmvs_desk.specs.Settlement.{row}
use Rattle.nmvs_desk.specs.Views.{ClerkView}
use Rattle.nmvs_messages.specs.Asks.{user_of}
use Rattle.nmvs_messages.specs.Peers.{speaks_for}
use Rattle.nmvs_messages.specs.declared.ask.Ask.{Ask}
use Rattle.nmvs_messages.specs.declared.ask.Asked.{Asked}
use Rattle.nmvs_messages.specs.declared.ask.Asked.TheVariants as asked
use Rattle.nmvs_messages.specs.declared.answer.Content.{Content}
use Rattle.nmvs_messages.specs.declared.answer.Content.TheVariants as contents
use Rattle.nmvs_messages.specs.declared.answer.Turn.{Turn}
use Rattle.nmvs_messages.specs.declared.answer.Turn.TheVariants as turns
use Rattle.nmvs_messages.specs.declared.peer.Peer.{Peer}
use Rattle.nmvs_messages.specs.declared.peer.Peer.TheVariants as peers
use Rattle.nmvs_messages.specs.declared.withheld.Basis.{Basis}
use Rattle.nmvs_messages.specs.declared.withheld.Withheld.{Withheld}
use Rattle.nmvs_messages.specs.Tags.{tag_text}
use Rattle.nmvs_reports.specs.Report.{product_line, report_lines}

-- a desk: its clerk, the number of its repository's shards, and whether its users have a rate. `asked` and `gave` are
-- the number of calls of its clock, and the seconds of the last one. `reads` and `notice` are the number of reads of
-- the directory's latest notice, and the last one.
pub record DeskView : Type 0 where
  pub clerk : ClerkView
  pub shards : ℕ
  pub rated : Bool
  pub asked : ℕ
  pub gave : ℤ
  pub reads : ℕ
  pub notice : List Change

-- the seconds are those of a moment
abbrev pub IsMoment : ℤ → Type 0
IsMoment seconds = pos 0 ≤ℤ seconds × seconds ≤ℤ pos last_moment

-- the same desk, after its clerk has seen these changes of the directory
abbrev pub with_seen : List Change → DeskView → DeskView
with_seen seen desk = record desk { clerk = record desk.clerk { seen = seen } }

-- the clock was asked once, and gives no moment; nothing else changes
pub record StopsAtClock (old new : DeskView) : Type 0 where
  pub same : new ≡ record old { asked = old.asked + 1; gave = new.gave }
  pub none : IsMoment new.gave → ⊥

-- the clock was asked once, and gives a moment. Then the latest notice was read once, and the clerk learns it; nothing
-- else changes. So no line is judged by an older list of changes than an earlier line of this desk, nor than this
-- notice.
pub record IsTold (old new : DeskView) : Type 0 where
  pub same : new ≡ record (with_seen new.clerk.seen old) { asked = old.asked + 1; gave = new.gave; reads = old.reads + 1; notice = new.notice }
  pub moment : IsMoment new.gave
  pub seen : IsPrefix old.clerk.seen new.clerk.seen
  pub latest : IsPrefix new.notice new.clerk.seen

-- the directory's answer at a moment: a user whose enrolment has ended stands as one who is suspended
abbrev pub at_moment : ℕ → Look → Look
at_moment moment (looks.Known enrolment) = if has_ended enrolment.until moment then looks.Suspended else looks.Known enrolment
at_moment moment said = said

-- the directory then says this of the user at the moment that the clock gave; nothing else changes
pub record LooksUp (old : DeskView) (user : Name) (look : Look) (new : DeskView) : Type 0 where
  pub told : DeskView
  pub is : IsTold old told
  pub said : Look
  pub reads : Reads told.clerk.seen new.clerk.seen user said
  pub moment : ℕ
  pub at : pos moment ≡ new.gave
  pub stands : at_moment moment said ≡ look
  pub same : new ≡ with_seen new.clerk.seen told

-- the directory knows the user of the line, by this enrolment, and the peer may speak for the user, or may not
pub record Knows (old : DeskView) (from : Peer) (ask : Ask) (may : Bool) (enrolment : Enrolment) (new : DeskView) : Type 0 where
  pub looks : LooksUp old (user_of ask) (looks.Known enrolment) new
  pub speaks : speaks_for from (user_of ask) enrolment.actor.authorisation ≡ may

-- the reason to turn away a line of a peer that names a suspended user. It is the suspension, unless the peer is a
-- certificate that may be another's. One that names an authorisation may be, since the directory gives none of a
-- suspended user.
abbrev pub suspended_turn : Peer → Name → Turn
suspended_turn peers.Anyone user = turns.Suspended
suspended_turn (peers.User own) user = if same_text user own then turns.Suspended else turns.Nobody
suspended_turn (peers.Authorisation own) user = turns.Nobody

-- the directory says that the user of the line is suspended, and this is the reason for the peer
abbrev pub FindsSuspended : DeskView → Peer → Ask → Turn → DeskView → Type 0
FindsSuspended old from ask turn new = LooksUp old (user_of ask) looks.Suspended new × (suspended_turn from (user_of ask) ≡ turn)

-- whether a line asks for a report
abbrev pub is_report : Asked → Bool
is_report (asked.Report user code) = true
is_report _ = false

-- whether a user with this role may ask this: each may put a question, since a refusal is a reply
abbrev pub may_ask_this : Asked → Role → Bool
may_ask_this (asked.Question user q) r = true
may_ask_this (asked.Conditional user kind p printed) r = true
may_ask_this (asked.Report user c) r = may_report r

-- whether a user with this enrolment may ask this, since it uploads no product that the enrolment does not name
abbrev pub may_upload_this : Asked → Enrolment → Bool
may_upload_this (asked.Question user (Upload p b x)) enrolment = may_upload enrolment.codes p.code
may_upload_this _ enrolment = true

-- a line is admitted, at the moment that the clock gave, in the capacity that the directory gives its user
pub record Admits (old : DeskView) (from : Peer) (ask : Ask) (moment : ℕ) (actor : Actor) (new : DeskView) : Type 0 where
  pub enrolment : Enrolment
  pub knows : Knows old from ask true enrolment new
  pub capacity : actor ≡ enrolment.actor
  pub at : pos moment ≡ new.gave
  pub may : may_ask_this ask.asked enrolment.actor.role ≡ true
  pub product : may_upload_this ask.asked enrolment ≡ true

-- the reason to turn a line away, the first that holds. The clock gives no moment. The directory does not know the
-- user, or is closed. The peer may not speak for the user. The user is suspended, or its last day is over. The user's
-- lines are over the rate, or there is no memory to count them. The role gets no report. The product is none that the
-- user may upload.
abbrev pub Refuses : DeskView → Peer → Ask → Turn → DeskView → Type 0
Refuses old from ask turns.Clock new = StopsAtClock old new
Refuses old from ask turns.Nobody new =
    LooksUp old (user_of ask) looks.Nobody new
    ⊎ (((enrolment : Enrolment) × Knows old from ask false enrolment new) ⊎ FindsSuspended old from ask turns.Nobody new)
Refuses old from ask turns.Suspended new = FindsSuspended old from ask turns.Suspended new
Refuses old from ask turns.Closed new = LooksUp old (user_of ask) looks.Closed new
Refuses old from ask turns.Rate new = (old.rated ≡ true) × (enrolment : Enrolment) × Knows old from ask true enrolment new
Refuses old from ask turns.Memory new = (old.rated ≡ true) × (enrolment : Enrolment) × Knows old from ask true enrolment new
Refuses old from ask turns.Role new =
    (enrolment : Enrolment) × Knows old from ask true enrolment new × (may_ask_this ask.asked enrolment.actor.role ≡ false)
Refuses old from ask turns.Product new =
    (enrolment : Enrolment) × Knows old from ask true enrolment new × (may_upload_this ask.asked enrolment ≡ false)
Refuses old from ask turns.Journal new = ⊥
Refuses old from ask turns.Tag new = ⊥
Refuses old from ask turns.Differs new = ⊥
Refuses old from ask turns.Changed new = ⊥

-- the same desk, whose clerk has seen these trails of the shards
abbrev pub with_sights : List (List Entry) → DeskView → DeskView
with_sights sights desk = record desk { clerk = record desk.clerk { sights = sights } }

-- the basis of an answer that rests on the first entries of a shard's trail, this number of them
abbrev pub RestsOn : ℕ → ℕ → Option Basis → Type 0
RestsOn shard entries None = entries ≡ 0
RestsOn shard entries (Some basis) = (basis.shard ≡ shard) × (basis.place + 1 ≡ entries)

-- the reason to turn away a question that was not put. The tag is another question's, the pack was uploaded with other
-- values than those printed on it, or a late copy would raise an alert.
abbrev pub not_put_turn : NotPut → Turn
not_put_turn not_put.Other = turns.Tag
not_put_turn not_put.Differs = turns.Differs
not_put_turn not_put.Changed = turns.Changed

-- the answer to an outcome in the shard of this number, and its basis. It is the reply of the entry that answers the
-- question, with the text of the shown entries, on the entries up to that one. Or it is a turn, on all entries that
-- were there.
abbrev pub Says : ℕ → Outcome → List Entry → Content → Option Basis → Type 0
Says shard (outcomes.New a) shown said basis = (said ≡ contents.Replied a.reply (export_text shown)) × (basis ≡ Some (record { shard = shard; place = a.place }))
Says shard (outcomes.Again a) shown said basis = (said ≡ contents.Replied a.reply (export_text shown)) × (basis ≡ Some (record { shard = shard; place = a.place }))
Says shard (outcomes.NotPut why entries) shown said basis = (said ≡ contents.Turned (not_put_turn why)) × RestsOn shard entries basis

-- the clerk asks the question in the shard of this number, once. The desk gives the outcome, with the entries that the
-- rules show; nothing else changes.
pub record Replies (old : DeskView) (shard : ℕ) (put : Put) (printed : Option Printed) (said : Content) (basis : Option Basis) (new : DeskView) : Type 0 where
  pub outcome : Outcome
  pub shown : List Entry
  pub answers : Answers old.shards shard put printed old.clerk new.clerk outcome shown
  pub says : Says shard outcome shown said basis
  pub same : new ≡ record old { clerk = new.clerk }

-- an admitted line is turned away for want of memory
abbrev pub WantsMemory : Content → Option Basis → Type 0
WantsMemory said basis = (said ≡ contents.Turned turns.Memory) × (basis ≡ None)

-- the clerk has seen more of one shard alone: a lawful trail of it, which begins with its earlier sight; nothing else changes
pub record SeesShard (old : DeskView) (shard : ℕ) (new : DeskView) : Type 0 where
  pub shown : IsShown old.shards shard (row old.clerk.sights shard) (row new.clerk.sights shard)
  pub others : (i : ℕ) → i ≢ shard → row new.clerk.sights i ≡ row old.clerk.sights i
  pub same : new ≡ record old { clerk = record old.clerk { sights = new.clerk.sights } }

-- the report of the product code on the clerk's sight of its shard, and all of that sight as its basis. Each line
-- follows the tag of the line that asked.
pub record Reports (new : DeskView) (shard : ℕ) (tag : Option Tag) (code : ProductCode) (said : Content) (basis : Option Basis) : Type 0 where
  pub is : let t = row new.clerk.sights shard in said ≡ contents.Reported (product_line t code) (report_lines (tag_text tag) t code)
  pub rests : RestsOn shard (length (row new.clerk.sights shard)) basis

-- the answers that the desk may give to an admitted question
abbrev pub AnswersQuestion : DeskView → Put → Option Printed → Content → Option Basis → DeskView → Type 0
AnswersQuestion old put printed said basis new =
    Replies old (shard_of old.shards (code_of put.question)) put printed said basis new ⊎ (WantsMemory said basis × (new ≡ old))

-- the answers that it may give to a user who may have a report
abbrev pub AnswersReport : DeskView → Option Tag → ProductCode → Content → Option Basis → DeskView → Type 0
AnswersReport old tag code said basis new =
    let shard = shard_of old.shards code in
    SeesShard old shard new × (Reports new shard tag code said basis ⊎ WantsMemory said basis)

-- the answers that it may give to an admitted line
abbrev pub AnswersAdmitted : DeskView → Option Tag → Asked → ℕ → Actor → Content → Option Basis → DeskView → Type 0
AnswersAdmitted old tag (asked.Question user q) moment actor said basis new =
    AnswersQuestion old (record { moment = moment; user = user; actor = actor; question = q; tag = tag }) None said basis new
AnswersAdmitted old tag (asked.Conditional user kind p printed) moment actor said basis new =
    AnswersQuestion old (record { moment = moment; user = user; actor = actor; question = OfPack kind p; tag = tag }) (Some printed) said basis new
AnswersAdmitted old tag (asked.Report user c) moment actor said basis new = AnswersReport old tag c said basis new

-- the answers that it may give to a line, and their bases: the line is turned away, or admitted and answered
abbrev pub Serves : DeskView → Peer → Ask → Content → Option Basis → DeskView → Type 0
Serves old from ask said basis new =
    ((turn : Turn) × Refuses old from ask turn new × (said ≡ contents.Turned turn) × (basis ≡ None))
    ⊎ ((moment : ℕ) × (actor : Actor) × (admitted : DeskView) × Admits old from ask moment actor admitted
    × AnswersAdmitted admitted ask.tag ask.asked moment actor said basis new)

-- the desk takes a line with such an answer
abbrev pub Takes : DeskView → Peer → Ask → Withheld → DeskView → Type 0
Takes old from ask withheld new = Serves old from ask withheld.answer.content withheld.basis new

-- a release of answers that waited: the receipts go, and the clerk may have seen more of each shard
pub record LetsGo (old new : DeskView) : Type 0 where
  pub sights : (i : ℕ) → IsPrefix (row old.clerk.sights i) (row new.clerk.sights i)
  pub same : new ≡ record old { clerk = record old.clerk { sights = new.clerk.sights; receipts = [] } }

-- a desk whose answers wait for a log: the clerk's desk, and the trail that it knows to be confirmed
pub record WaitingView : Type 0 where
  pub desk : DeskView
  pub confirmed : List Entry

-- it takes a line as the clerk's desk does
abbrev pub TakesWaiting : WaitingView → Peer → Ask → Withheld → WaitingView → Type 0
TakesWaiting old from ask withheld new = Takes old.desk from ask withheld new.desk × (new.confirmed ≡ old.confirmed)

-- a release empties its clerk's receipts, and it may know more to be confirmed
abbrev pub LearnsMore : WaitingView → WaitingView → Type 0
LearnsMore old new = LetsGo old.desk new.desk × IsPrefix old.confirmed new.confirmed
