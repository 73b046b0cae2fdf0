-- The rehearsal: one session over an empty trail, with users of its own and moments that are handed in. (own)
use Rattle.std.specs.Prelude.{◌≡◌, ℕ, Bool, true, false, List, [], ◌∷◌, ◌++◌, ◌⊎◌, Option, Some, None, IsSome}
use Rattle.nmvs_identifier.specs.Name.{Name}
use Rattle.nmvs_identifier.specs.ProductCode.{ProductCode}
use Rattle.nmvs_identifier.specs.Tag.{Tag}
use Rattle.nmvs_rules.specs.declared.actor.Actor.{Actor}
use Rattle.nmvs_rules.specs.declared.entry.Entry.{Entry}
use Rattle.nmvs_rules.specs.declared.printed.Printed.{Printed}
use Rattle.nmvs_rules.specs.declared.put.Put.{Put}
use Rattle.nmvs_rules.specs.declared.question.Question.{Question}
use Rattle.nmvs_rules.specs.declared.question.Question.TheVariants.{OfPack}
use Rattle.nmvs_rules.specs.declared.reply.Reply.{Reply}
use Rattle.nmvs_rules.specs.declared.repeat.Repeat.TheVariants as repeat
use Rattle.nmvs_rules.specs.Printed.{is_withheld}
use Rattle.nmvs_rules.specs.Questions.{may_report}
use Rattle.nmvs_rules.specs.Repeats.{is_changed, repeat_of}
use Rattle.nmvs_rules.specs.Rules.{reply_of, shown_of, answered}
use Rattle.nmvs_line.specs.Export.{export_text}
use Rattle.nmvs_messages.specs.Tags.{tag_text}
use Rattle.nmvs_reports.specs.Report.{product_line, report_lines}
use Rattle.nmvs_messages.specs.declared.ask.Ask.{Ask}
use Rattle.nmvs_messages.specs.declared.ask.Asked.{Asked}
use Rattle.nmvs_messages.specs.declared.ask.Asked.TheVariants as asked
use Rattle.nmvs_messages.specs.declared.answer.Content.{Content}
use Rattle.nmvs_messages.specs.declared.answer.Content.TheVariants as contents
use Rattle.nmvs_messages.specs.declared.answer.Turn.TheVariants as turns
use Rattle.nmvs_messages.specs.declared.withheld.Withheld.{Withheld}
use Rattle.nmvs_rehearsal.specs.Roster.{post_of, IsRostered}

-- the state of a rehearsal: its trail, and the moments of the lines that reach the desk from now on. The last moment
-- serves all later lines too.
pub record Rehearsal : Type 0 where
  pub trail : List Entry
  pub moments : List ℕ

-- the moment of the next line
abbrev pub now : List ℕ → ℕ
now [] = 0
now (moment ∷ moments) = moment

-- the moments of the lines after it
abbrev pub later : List ℕ → List ℕ
later [] = []
later (moment ∷ []) = moment ∷ []
later (moment ∷ next ∷ moments) = next ∷ moments

-- the next line takes its moment
pub record TakesMoment (old : Rehearsal) (moment : ℕ) (new : Rehearsal) : Type 0 where
  pub moment_is : moment ≡ now old.moments
  pub moments : new.moments ≡ later old.moments
  pub trail : new.trail ≡ old.trail

-- a question of a user in some capacity, put at a moment, with the tag of its line
abbrev pub put_at : ℕ → Name → Actor → Option Tag → Question → Put
put_at moment user actor tag question = record { moment = moment; user = user; actor = actor; question = question; tag = tag }

-- a question is new on the trail, no late copy that would raise an alert, and not held back by the printed values. The
-- rules answer it, with the entries that they show, and the trail grows by that entry.
pub record Steps (old : List Entry) (put : Put) (printed : Option Printed) (said : Reply) (shown new : List Entry) : Type 0 where
  pub first : repeat_of old put ≡ repeat.New
  pub current : is_changed old put ≡ false
  pub matches : is_withheld old put printed ≡ false
  pub lawful : said ≡ reply_of old put
  pub shows : shown ≡ shown_of old put
  pub grows : new ≡ old ++ answered put said ∷ []

-- a question was asked before; it is answered again by the entry that it repeats, and shows nothing
pub record Repeats (old : List Entry) (put : Put) (said : Reply) (shown new : List Entry) : Type 0 where
  pub place : ℕ
  pub repeats : repeat_of old put ≡ repeat.Same place said
  pub shows : shown ≡ []
  pub same : new ≡ old

-- the question has this answer, in the capacity that the roster gives its user
pub record Replies (moment : ℕ) (old new : Rehearsal) (user : Name) (tag : Option Tag) (question : Question) (printed : Option Printed) (said : Reply) (shown : List Entry) : Type 0 where
  pub actor : Actor
  pub rostered : IsRostered user actor
  pub answers : Steps old.trail (put_at moment user actor tag question) printed said shown new.trail ⊎ Repeats old.trail (put_at moment user actor tag question) said shown new.trail
  pub moments : new.moments ≡ old.moments

-- the user asked something else about the pack with this tag
pub record AsksOther (moment : ℕ) (old : Rehearsal) (user : Name) (tag : Option Tag) (question : Question) : Type 0 where
  pub actor : Actor
  pub rostered : IsRostered user actor
  pub other : repeat_of old.trail (put_at moment user actor tag question) ≡ repeat.Other

-- the question is new, but the values printed on its pack hold it back
pub record Differs (moment : ℕ) (old : Rehearsal) (user : Name) (tag : Option Tag) (question : Question) (printed : Option Printed) : Type 0 where
  pub actor : Actor
  pub rostered : IsRostered user actor
  pub first : repeat_of old.trail (put_at moment user actor tag question) ≡ repeat.New
  pub differs : is_withheld old.trail (put_at moment user actor tag question) printed ≡ true

-- the question is new, but may be a late copy, and its reply would be an alert
pub record Changed (moment : ℕ) (old : Rehearsal) (user : Name) (tag : Option Tag) (question : Question) : Type 0 where
  pub actor : Actor
  pub rostered : IsRostered user actor
  pub first : repeat_of old.trail (put_at moment user actor tag question) ≡ repeat.New
  pub changed : is_changed old.trail (put_at moment user actor tag question) ≡ true

-- there is no new entry
pub record Stays (old new : Rehearsal) : Type 0 where
  pub trail : new.trail ≡ old.trail
  pub moments : new.moments ≡ old.moments

-- whether the roster gives the user a role that gets reports
abbrev pub GetsReports : Name → Bool → Type 0
GetsReports user answer = (actor : Actor) × IsRostered user actor × (may_report actor.role ≡ answer)

-- the answers that the desk of the rehearsal may give to a question at this moment. One is the rules' reply, or that of
-- the entry that it repeats. Others are turns without an entry. Nobody has the user's name, there was no memory, or its
-- tag is that of something else. Or the values printed on its pack differ, or a late copy would raise an alert.
abbrev pub JudgesQuestion : ℕ → Rehearsal → Name → Option Tag → Question → Option Printed → Content → Rehearsal → Type 0
JudgesQuestion moment old user g q printed (contents.Replied r text) new = (shown : List Entry) × (text ≡ export_text shown) × Replies moment old new user g q printed r shown
JudgesQuestion moment old user g q printed (contents.Turned turns.Nobody) new = (post_of user.bytes ≡ None) × Stays old new
JudgesQuestion moment old user g q printed (contents.Turned turns.Memory) new = IsSome (post_of user.bytes) × Stays old new
JudgesQuestion moment old user g q printed (contents.Turned turns.Tag) new = AsksOther moment old user g q × Stays old new
JudgesQuestion moment old user g q printed (contents.Turned turns.Differs) new = Differs moment old user g q printed × Stays old new
JudgesQuestion moment old user g q printed (contents.Turned turns.Changed) new = Changed moment old user g q × Stays old new
JudgesQuestion _ _ _ _ _ _ _ _ = ⊥

-- the answers that it may give to a user who asks for a report, on a line with this tag. One is the report of the
-- trail, each line after the tag. The others are turns: nobody has the user's name, the role gets no report, or there
-- was no memory.
abbrev pub JudgesReport : List Entry → Name → Option Tag → ProductCode → Content → Type 0
JudgesReport trail user g c (contents.Reported first others) = GetsReports user true × (first ≡ product_line trail c) × (others ≡ report_lines (tag_text g) trail c)
JudgesReport trail user g c (contents.Turned turns.Nobody) = post_of user.bytes ≡ None
JudgesReport trail user g c (contents.Turned turns.Role) = GetsReports user false
JudgesReport trail user g c (contents.Turned turns.Memory) = GetsReports user true
JudgesReport _ _ _ _ _ = ⊥

-- the answers that it may give to the next line, which takes its moment first; a report leaves no entry
abbrev pub Judges : Rehearsal → Option Tag → Asked → Content → Rehearsal → Type 0
Judges old tag (asked.Question user q) said new =
    (moment : ℕ) × (begun : Rehearsal) × TakesMoment old moment begun × JudgesQuestion moment begun user tag q None said new
Judges old tag (asked.Conditional user kind p printed) said new =
    (moment : ℕ) × (begun : Rehearsal) × TakesMoment old moment begun
    × JudgesQuestion moment begun user tag (OfPack kind p) (Some printed) said new
Judges old tag (asked.Report user c) said new = (moment : ℕ) × TakesMoment old moment new × JudgesReport new.trail user tag c said

-- its answers rest on nothing
abbrev pub Takes : Rehearsal → Ask → Withheld → Rehearsal → Type 0
Takes old ask withheld new = (withheld.basis ≡ None) × Judges old ask.tag ask.asked withheld.answer.content new
