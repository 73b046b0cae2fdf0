-- The replies of a connection to the bytes that it was fed, while others use the same desk (own).
use Rattle.std.specs.Prelude.{◌≡◌, ◌≤◌, ◌<◌, ◌+◌, ◌==◌, ◌⊎◌, if◌then◌else◌, ℕ, Bool, false, List, [], ◌++◌, length, map, take, drop, Option, Some, None}
use Rattle.nmvs_messages.specs.declared.ask.Ask.{Ask}
use Rattle.nmvs_messages.specs.declared.answer.Answer.{Answer}
use Rattle.nmvs_messages.specs.declared.end.End.{End}
use Rattle.nmvs_messages.specs.declared.withheld.Withheld.{Withheld}
use Rattle.nmvs_messages.specs.declared.end.End.TheVariants as ends
use Rattle.nmvs_protocol.specs.declared.session.Session.{Session}
use Rattle.nmvs_stream.specs.InputLines.{input_lines, lines_after, unfinished_line}
use Rattle.nmvs_messages.specs.PendingLines.{kept_part}
use Rattle.nmvs_messages.specs.Withheld.{answer_of}
use Rattle.nmvs_protocol.specs.Progress.{LastShows}
use Rattle.nmvs_protocol.specs.Session.{TakesLines, session_text}
use Rattle.nmvs_protocol.specs.Texts.{bare, ends_with_reply, last_showing}

-- a connection: the bytes that it was fed, its sent and unsent replies, and how its session ended. `listed` is the text
-- of the entries that follow the replies, still to be fetched. `first` is the place of the first answer that it waits
-- for, among those that are withheld, and `waiting` their number. `awaited` is the text of the entries that the last of
-- them shows.
pub record SessionState : Type 0 where
  pub fed : List ℕ
  pub sent : List ℕ
  pub unsent : List ℕ
  pub listed : List ℕ
  pub ended : Option End
  pub first : ℕ
  pub waiting : ℕ
  pub awaited : List ℕ

-- the text of the replies. The entries that are still to be fetched belong to it: their number is replied already
abbrev pub replied : SessionState → List ℕ
replied s = (s.sent ++ s.unsent) ++ s.listed

-- the text of a list, once no answer is waited for, and while one is
abbrev pub once_told : ℕ → List ℕ → List ℕ
once_told waiting text = if waiting == 0 then text else []

abbrev pub while_waiting : ℕ → List ℕ → List ℕ
while_waiting waiting text = if waiting == 0 then [] else text

-- the lines that are left unanswered, and the text that is left out. Up to QUIT and the limit each left line waits for
-- its answer, and no text is left out. If memory ran out, some text is missing, and nothing waits.
abbrev pub Leaves : Option End → ℕ → List (List ℕ) → List ℕ → Type 0
Leaves (None) waiting left untold = (length left ≡ waiting) × (untold ≡ [])
Leaves (Some ends.Quit) waiting left untold = (length left ≡ waiting) × (untold ≡ [])
Leaves (Some ends.Limit) waiting left untold = (length left ≡ waiting) × (untold ≡ [])
Leaves (Some ends.Memory) waiting left untold = ⊥
Leaves (Some ends.WriteFault) waiting left untold = waiting ≡ 0
Leaves (Some ends.Ended) waiting left untold = ⊥
Leaves (Some ends.ReadFault) waiting left untold = ⊥

-- of the lines of these bytes the first were answered, one answer a line, in order, and this is the text
pub record Replies (fed text : List ℕ) (waiting : ℕ) (ended : Option End) : Type 0 where
  pub answered : List (List ℕ)
  pub left : List (List ℕ)
  pub these : input_lines fed ≡ answered ++ left
  pub said : List Answer
  pub one : length said ≡ length answered
  pub untold : List ℕ
  pub text_is : session_text said ≡ text ++ untold
  pub leaves : Leaves ended waiting left untold

-- the lines that these bytes complete after the fed ones were taken. The desk goes from old to new by exactly their
-- takes. Their answers, one a line, follow those that were withheld, and are waited for. The last shows the awaited
-- entries.
pub record Asked {D : Type 0} (takes : D → Ask → Withheld → D → Type 0) (fed bytes : List ℕ) (old new : D) (withheld withheld' : List Withheld) (waiting : ℕ) (awaited : List ℕ) : Type 0 where
  pub held : List Withheld
  pub behind : withheld' ≡ withheld ++ held
  pub answers : TakesLines takes old (lines_after (unfinished_line fed) bytes) held new
  pub one : length held ≡ waiting
  pub shows : LastShows awaited (map answer_of held)

-- the session ended for want of memory
abbrev pub LacksMemory : Option End → Type 0
LacksMemory (Some ends.WriteFault) = Unit {0}
LacksMemory _ = ⊥

-- whether the answers were worded, and the last of them is a reply
abbrev pub is_replied : Option Bool → Bool
is_replied None = false
is_replied (Some replied) = replied

-- the text of this number of released answers, from this place on, follows these bytes. It is without the entries that
-- they show, and without the text that is left out. If there are fewer answers, there is none.
pub record WordsPart (first count : ℕ) (released : List Answer) (old new : List ℕ) (worded : Option Bool) : Type 0 where
  pub part : List Answer
  pub its_own : first + count ≤ length released → part ≡ take count (drop first released)
  pub none : length released < first + count → part ≡ []
  pub text : List ℕ
  pub untold : List ℕ
  pub there : (length part ≡ count) ⊎ ((worded ≡ None) × (text ≡ []))
  pub bytes : new ≡ old ++ text
  pub text_is : session_text (map bare part) ≡ text ++ untold
  pub all : (worded ≡ Some (ends_with_reply part)) × (untold ≡ []) ⊎ (worded ≡ None)

-- the end of a session whose answers were worded, or not for want of memory
abbrev pub ended_by : Option Bool → Option End → Option End
ended_by None ended = Some ends.WriteFault
ended_by (Some replied) ended = ended

-- the session stands as before, and no text is left out; or it ended for want of memory
abbrev pub StaysOrLacks : Option End → Option End → List ℕ → Type 0
StaysOrLacks ended ended' untold = ((ended' ≡ ended) × (untold ≡ [])) ⊎ LacksMemory ended'

-- this is the text of this number of released answers, from this place on, but for the text that is left out. The last
-- one shows the awaited entries, if it is a reply. If there are fewer answers, there is none, and the session ends as
-- for want of memory.
pub record TellsPart (first count : ℕ) (released : List Answer) (awaited text : List ℕ) (ended ended' : Option End) : Type 0 where
  pub untold : List ℕ
  pub part : List Answer
  pub its_own : first + count ≤ length released → part ≡ take count (drop first released)
  pub none : length released < first + count → part ≡ []
  pub text_is : session_text (last_showing awaited part) ≡ text ++ untold
  pub stays : StaysOrLacks ended ended' untold

-- a session that goes on has kept the line that was begun, and has answered no more lines than it may
abbrev pub GoesOn : Option End → Session → List ℕ → Type 0
GoesOn (None) session fed = (session.line ≡ kept_part (unfinished_line fed)) × (session.answered ≤ session.limit)
GoesOn (Some end) session fed = Unit {0}
