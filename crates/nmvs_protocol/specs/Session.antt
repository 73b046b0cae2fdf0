-- Sessions: the lines that were answered and their answers, the bytes that were written, and the meaning of each end (own).
use Rattle.std.specs.Prelude.{◌≡◌, ◌≢◌, ◌<◌, ◌≤◌, ◌+◌, ◌⊎◌, ℕ, Bool, true, false, List, [], ◌∷◌, ◌++◌, length, All, Result, Ok, Err}
use Rattle.std.specs.List.{flat_map}
use Rattle.nmvs_stream.specs.Source.{Told}
use Rattle.nmvs_stream.specs.Sink.{Taken}
use Rattle.nmvs_messages.specs.declared.ask.Ask.{Ask}
use Rattle.nmvs_messages.specs.declared.ask.Line.{Line}
use Rattle.nmvs_messages.specs.declared.ask.Line.TheVariants as lines
use Rattle.nmvs_messages.specs.declared.ask.Unread.{Unread}
use Rattle.nmvs_messages.specs.declared.answer.Answer.{Answer}
use Rattle.nmvs_messages.specs.declared.answer.Content.TheVariants as contents
use Rattle.nmvs_messages.specs.declared.withheld.Withheld.{Withheld}
use Rattle.nmvs_messages.specs.declared.limits.Limits.{Limits}
use Rattle.nmvs_messages.specs.declared.end.End.{End}
use Rattle.nmvs_messages.specs.declared.end.End.TheVariants as ends
use Rattle.nmvs_messages.specs.Withheld.{AreReleased, plain, tagged}
use Rattle.nmvs_protocol.specs.Lines.{line_text, ReadsLine}
use Rattle.nmvs_protocol.specs.Texts.{text}
use Rattle.nmvs_stream.specs.InputLines.{input_lines}

-- the answer that is withheld for a line with this reading, as the desk goes from old to new. PING, VERSION, HELP, QUIT
-- and a fault are answered without the desk. Its answer to any other line gets the line's tag.
abbrev pub Answers : {D : Type 0} → (D → Ask → Withheld → D → Type 0) → D → Result Line Unread → Withheld → D → Type 0
Answers takes old (Ok (lines.Ask ask)) withheld new = (w : Withheld) × takes old ask w new × (withheld ≡ tagged ask.tag w)
Answers takes old (Ok lines.Ping) withheld new = (withheld ≡ plain contents.Pong) × (new ≡ old)
Answers takes old (Ok lines.Version) withheld new = (withheld ≡ plain contents.Version) × (new ≡ old)
Answers takes old (Ok lines.Help) withheld new = (withheld ≡ plain contents.Help) × (new ≡ old)
Answers takes old (Ok lines.Quit) withheld new = (withheld ≡ plain contents.Bye) × (new ≡ old)
Answers takes old (Err unread) withheld new = (withheld ≡ tagged unread.tag (plain (contents.Unread unread.fault))) × (new ≡ old)

-- a line is taken, and its answer withheld, as the desk goes from old to new
pub record TakesLine {D : Type 0} (takes : D → Ask → Withheld → D → Type 0) (old : D) (x : List ℕ) (withheld : Withheld) (new : D) : Type 0 where
  pub reading : Result Line Unread
  pub reads : ReadsLine x reading
  pub answers : Answers takes old reading withheld new

-- lines are taken, and one answer to each withheld, as the desk goes from old to new
abbrev pub TakesLines : {D : Type 0} → (D → Ask → Withheld → D → Type 0) → D → List (List ℕ) → List Withheld → D → Type 0
TakesLines takes old [] [] new = new ≡ old
TakesLines {D} takes old (x ∷ xs) (w ∷ withheld) new = (mid : D) × TakesLine takes old x w mid × TakesLines takes mid xs withheld new
TakesLines takes old [] (w ∷ withheld) new = ⊥
TakesLines takes old (x ∷ xs) [] new = ⊥

-- all withheld answers are released at once, by one step of the desk; without such answers the desk is not asked
abbrev pub ReleasesAll : {D : Type 0} → (D → D → Withheld → Answer → Type 0) → (D → D → Type 0) → D → List Withheld → List Answer → D → Type 0
ReleasesAll releases moves old [] said new = (said ≡ []) × (new ≡ old)
ReleasesAll releases moves old (w ∷ withheld) said new = moves old new × AreReleased (releases old new) (w ∷ withheld) said

-- the lines that were taken between two releases, and the answers of the second release
pub record Round : Type 0 where
  pub lines : List (List ℕ)
  pub said : List Answer

-- a round takes the desk from old to new: its lines are taken, and then the withheld answers are released
pub record GoesRound {D : Type 0} (takes : D → Ask → Withheld → D → Type 0) (releases : D → D → Withheld → Answer → Type 0) (moves : D → D → Type 0) (old : D) (round : Round) (new : D) : Type 0 where
  pub held : List Withheld
  pub asked : D
  pub taken : TakesLines takes old round.lines held asked
  pub released : ReleasesAll releases moves asked held round.said new

-- rounds take the desk from old to new
abbrev pub GoesRounds : {D : Type 0} → (D → Ask → Withheld → D → Type 0) → (D → D → Withheld → Answer → Type 0) → (D → D → Type 0) → D → List Round → D → Type 0
GoesRounds takes releases moves old [] new = new ≡ old
GoesRounds {D} takes releases moves old (r ∷ more) new = (mid : D) × GoesRound takes releases moves old r mid × GoesRounds takes releases moves mid more new

-- the lines of these rounds, in order
abbrev pub lines_of : List Round → List (List ℕ)
lines_of rounds = flat_map (λ (r : Round). r.lines) rounds

-- the answers to them, in order
abbrev pub answers_of : List Round → List Answer
answers_of rounds = flat_map (λ (r : Round). r.said) rounds

-- lines have these answers, one a line, in order, in rounds that take the desk from old to new
pub record AnswersLines {D : Type 0} (takes : D → Ask → Withheld → D → Type 0) (releases : D → D → Withheld → Answer → Type 0) (moves : D → D → Type 0) (old : D) (xs : List (List ℕ)) (said : List Answer) (new : D) : Type 0 where
  pub rounds : List Round
  pub desk : GoesRounds takes releases moves old rounds new
  pub lines_are : xs ≡ lines_of rounds
  pub answers_are : said ≡ answers_of rounds

-- none of these lines is QUIT
abbrev pub NoQuit : List (List ℕ) → Type 0
NoQuit xs = All (λ x. x ≢ line_text lines.Quit) xs

-- the last of these lines, and it alone, is QUIT
pub record EndsWithQuit (xs : List (List ℕ)) : Type 0 where
  pub before : List (List ℕ)
  pub these : xs ≡ before ++ line_text lines.Quit ∷ []
  pub no_quit : NoQuit before

-- only the last of these lines, if any, is QUIT
abbrev pub NoQuitBeforeLast : List (List ℕ) → Type 0
NoQuitBeforeLast xs = NoQuit xs ⊎ EndsWithQuit xs

-- the text of answers
abbrev pub session_text : List Answer → List ℕ
session_text said = flat_map text said

-- the sink took the text of these answers, and flushed it
pub record DeliversAll (old new : Taken) (said : List Answer) : Type 0 where
  pub bytes : new.bytes ≡ old.bytes ++ session_text said
  pub flushed : 0 < length said → new.flushed ≡ true

-- the sink took the text of these answers up to some point in the answers to the lines of one read. The answers to
-- earlier reads were written and flushed.
pub record BreaksOff (old new : Taken) (input : List ℕ) (said : List Answer) : Type 0 where
  pub earlier : List ℕ
  pub last : List ℕ
  pub reads : input ≡ earlier ++ last
  pub one : length last ≤ 4096
  pub before : List Answer
  pub gathered : List Answer
  pub these : said ≡ before ++ gathered
  pub whole : length before ≡ length (input_lines earlier)
  pub written : List ℕ
  pub unwritten : List ℕ
  pub cut : session_text gathered ≡ written ++ unwritten
  pub bytes : new.bytes ≡ old.bytes ++ session_text before ++ written
  pub flushed : written ≡ [] → 0 < length before → new.flushed ≡ true

-- all lines are answered, and none was QUIT
pub record AnswersAll (answered left : List (List ℕ)) : Type 0 where
  pub all : left ≡ []
  pub no_quit : NoQuit answered

-- another whole line is there, and no more may be answered
pub record LineLimit (limit : ℕ) (left : List (List ℕ)) (said : List Answer) : Type 0 where
  pub reached : length said ≡ limit
  pub more : 0 < length left

-- another read was needed, and no more may be made
pub record ReadLimit (limit : ℕ) (left : List (List ℕ)) (source source' : Told) : Type 0 where
  pub reached : source'.reads ≡ source.reads + limit
  pub all : left ≡ []

-- the meaning of an end for the lines and the text
abbrev pub Closes : End → Limits → List ℕ → List (List ℕ) → List (List ℕ) → List Answer → Told → Told → Taken → Taken → Type 0
Closes ends.Quit limits input answered left said source source' sink sink' = EndsWithQuit answered × DeliversAll sink sink' said
Closes ends.Ended limits input answered left said source source' sink sink' = AnswersAll answered left × DeliversAll sink sink' said
Closes ends.ReadFault limits input answered left said source source' sink sink' = AnswersAll answered left × DeliversAll sink sink' said
Closes ends.WriteFault limits input answered left said source source' sink sink' = NoQuitBeforeLast answered × BreaksOff sink sink' input said
Closes ends.Limit limits input answered left said source source' sink sink' =
    NoQuit answered × DeliversAll sink sink' said × (LineLimit limits.lines left said ⊎ ReadLimit limits.reads left source source')
Closes ends.Memory limits input answered left said source source' sink sink' = (source' ≡ source) × (sink' ≡ sink)

-- the end of the input was read at this end alone
abbrev pub is_input_end : End → Bool
is_input_end ends.Ended = true
is_input_end _ = false

-- a read failed at this end alone
abbrev pub is_read_fault : End → Bool
is_read_fault ends.ReadFault = true
is_read_fault _ = false

-- a write or a flush failed at this end alone
abbrev pub is_write_fault : End → Bool
is_write_fault ends.WriteFault = true
is_write_fault _ = false

-- the limits of a session without a connection: 10,000 lines and 4,000,000 reads (own)
abbrev pub session_limits : Limits
session_limits = record { lines = 10000; reads = 4000000 }

-- a session with this end, with the desk, the source and the sink before and after it
pub record Session {D : Type 0} (takes : D → Ask → Withheld → D → Type 0) (releases : D → D → Withheld → Answer → Type 0) (moves : D → D → Type 0) (limits : Limits) (desk : D) (source : Told) (sink : Taken) (desk' : D) (source' : Told) (sink' : Taken) (end : End) : Type 0 where
  -- these bytes were read
  pub input : List ℕ
  pub read : source'.bytes ≡ source.bytes ++ input
  -- the first of their lines were answered
  pub answered : List (List ℕ)
  pub left : List (List ℕ)
  pub these : input_lines input ≡ answered ++ left
  -- with these answers
  pub said : List Answer
  pub answers : AnswersLines takes releases moves desk answered said desk'
  -- within the limits
  pub lines_within : length said ≤ limits.lines
  pub reads_within : source'.reads ≤ source.reads + limits.reads
  -- the meaning of the end, and the marks that show it
  pub closes : Closes end limits input answered left said source source' sink sink'
  pub ended : source'.ended ≡ is_input_end end
  pub read_failed : source'.failed ≡ is_read_fault end
  pub write_failed : sink'.failed ≡ is_write_fault end
