-- The state of a session between its lines and between its reads (own).
use Rattle.std.specs.Prelude.{◌≡◌, ◌≤◌, ◌<◌, ◌+◌, ℕ, Bool, false, List, [], ◌∷◌, ◌++◌, length, map, Option, Some, None}
use Rattle.nmvs_stream.specs.Sink.{Taken}
use Rattle.nmvs_stream.specs.Delivery.{Writes, Delivers, DeliversPart}
use Rattle.nmvs_messages.specs.declared.ask.Ask.{Ask}
use Rattle.nmvs_messages.specs.declared.answer.Answer.{Answer}
use Rattle.nmvs_messages.specs.declared.end.End.{End}
use Rattle.nmvs_messages.specs.declared.end.End.TheVariants as ends
use Rattle.nmvs_protocol.specs.declared.session.Session.{Session}
use Rattle.nmvs_messages.specs.declared.withheld.Withheld.{Withheld}
use Rattle.nmvs_stream.specs.InputLines.{lines_after, rest_after}
use Rattle.nmvs_messages.specs.PendingLines.{kept_part}
use Rattle.nmvs_messages.specs.Withheld.{answer_of}
use Rattle.nmvs_protocol.specs.Session.{TakesLines, ReleasesAll, AnswersLines, AnswersAll, NoQuit, EndsWithQuit, NoQuitBeforeLast, session_text, is_write_fault}
use Rattle.nmvs_protocol.specs.Texts.{last_showing}

-- only the last of these answers may show entries, with this text if it is a reply
abbrev pub LastShows : List ℕ → List Answer → Type 0
LastShows shown answers = last_showing shown answers ≡ answers

-- the sink took the text of these answers, and a flush is still to come
abbrev pub Gathers : Taken → Taken → List Answer → Type 0
Gathers sink sink' said = Writes sink sink' (session_text said)

-- the sink took the text of these answers, and flushed it
abbrev pub Delivered : Taken → Taken → List Answer → Type 0
Delivered sink sink' said = Delivers sink sink' (session_text said)

-- the result of writing the text of these answers
abbrev pub Tells : Option End → Taken → Taken → List Answer → Type 0
Tells (None) sink sink' said = Gathers sink sink' said
Tells (Some ends.WriteFault) sink sink' said = DeliversPart sink sink' (session_text said)
Tells (Some ends.Memory) sink sink' said = ⊥
Tells (Some ends.Quit) sink sink' said = ⊥
Tells (Some ends.Limit) sink sink' said = ⊥
Tells (Some ends.Ended) sink sink' said = ⊥
Tells (Some ends.ReadFault) sink sink' said = ⊥

-- the result of releasing and writing the withheld answers, the last of which shows this text, and the desk after it.
-- Without such answers the desk is not asked.
abbrev pub TellsWithheld : {D : Type 0} → (D → D → Withheld → Answer → Type 0) → (D → D → Type 0) → List ℕ → List Withheld → D → D → Option End → Taken → Taken → Type 0
TellsWithheld releases moves shown [] old new end sink sink' = (new ≡ old) × (end ≡ None) × (sink' ≡ sink)
TellsWithheld releases moves shown (w ∷ withheld) old new end sink sink' =
    (said : List Answer) × ReleasesAll releases moves old (w ∷ withheld) said new
    × (LastShows shown (map answer_of (w ∷ withheld)) → Tells end sink sink' said)

-- another whole line is there, and no more may be answered
pub record LimitReached (count limit : ℕ) (left : List (List ℕ)) : Type 0 where
  pub reached : count ≡ limit
  pub more : 0 < length left

-- the meaning of the end of a taking for the lines that were taken and the bytes that are left
abbrev pub Halts : Option End → ℕ → ℕ → List (List ℕ) → List ℕ → List ℕ → Type 0
Halts (None) limit count taken begun left = NoQuit taken
Halts (Some ends.Quit) limit count taken begun left = EndsWithQuit taken
Halts (Some ends.Limit) limit count taken begun left = NoQuit taken × LimitReached count limit (lines_after begun left)
Halts (Some ends.WriteFault) limit count taken begun left = ⊥
Halts (Some ends.Memory) limit count taken begun left = ⊥
Halts (Some ends.Ended) limit count taken begun left = ⊥
Halts (Some ends.ReadFault) limit count taken begun left = ⊥

-- a session took the lines that these bytes complete, after the line that was begun, and added their answers to the
-- withheld ones. `left` are the bytes that it did not take. The last of those answers shows this text.
pub record Took {D : Type 0} (takes : D → Ask → Withheld → D → Type 0) (session : Session) (desk : D) (withheld : List Withheld) (begun bytes left : List ℕ) (session' : Session) (desk' : D) (withheld' : List Withheld) (end : Option End) (shown : List ℕ) : Type 0 where
  pub held : List Withheld
  pub behind : withheld' ≡ withheld ++ held
  pub answers : TakesLines takes desk (lines_after begun bytes) held desk'
  pub line : session'.line ≡ kept_part (rest_after begun bytes)
  pub counted : session'.answered ≡ session.answered + length held
  pub limit : session'.limit ≡ session.limit
  pub within : session'.answered ≤ session.limit
  pub shows : LastShows shown (map answer_of held)
  pub none : held ≡ [] → shown ≡ []
  pub halts : Halts end session.limit session'.answered (lines_after begun bytes) (rest_after begun bytes) left

-- the answers that may be given after some bytes; None means that the session goes on
abbrev pub Stands : Option End → (List Answer → Type 0) → ℕ → ℕ → List (List ℕ) → List (List ℕ) → List Answer → Taken → Taken → Type 0
Stands (None) tells limit count answered left said sink sink' = AnswersAll answered left × tells said
Stands (Some ends.Quit) tells limit count answered left said sink sink' = EndsWithQuit answered × tells said
Stands (Some ends.WriteFault) tells limit count answered left said sink sink' = NoQuitBeforeLast answered × DeliversPart sink sink' (session_text said)
Stands (Some ends.Limit) tells limit count answered left said sink sink' = NoQuit answered × tells said × LimitReached count limit left
Stands (Some ends.Memory) tells limit count answered left said sink sink' = ⊥
Stands (Some ends.Ended) tells limit count answered left said sink sink' = ⊥
Stands (Some ends.ReadFault) tells limit count answered left said sink sink' = ⊥

-- whether a write or a flush failed
abbrev pub has_write_fault : Option End → Bool
has_write_fault (None) = false
has_write_fault (Some end) = is_write_fault end

-- the first of the lines that some bytes complete were answered, and their answers written in this way
pub record AnsweredSo {D : Type 0} (tells : Taken → Taken → List Answer → Type 0) (takes : D → Ask → Withheld → D → Type 0) (releases : D → D → Withheld → Answer → Type 0) (moves : D → D → Type 0) (session : Session) (desk : D) (sink : Taken) (lines : List (List ℕ)) (session' : Session) (desk' : D) (sink' : Taken) (end : Option End) : Type 0 where
  pub answered : List (List ℕ)
  pub left : List (List ℕ)
  pub these : lines ≡ answered ++ left
  pub said : List Answer
  pub answers : AnswersLines takes releases moves desk answered said desk'
  pub counted : session'.answered ≡ session.answered + length said
  pub limit : session'.limit ≡ session.limit
  pub within : session'.answered ≤ session.limit
  pub stands : Stands end (tells sink sink') session.limit session'.answered answered left said sink sink'
  pub sound : sink.failed ≡ false → sink'.failed ≡ has_write_fault end

-- their texts are written, and are to be flushed
abbrev pub Fed : {D : Type 0} → (D → Ask → Withheld → D → Type 0) → (D → D → Withheld → Answer → Type 0) → (D → D → Type 0) → Session → D → Taken → List (List ℕ) → Session → D → Taken → Option End → Type 0
Fed takes releases moves = AnsweredSo Gathers takes releases moves

-- their texts are written and flushed
abbrev pub Served : {D : Type 0} → (D → Ask → Withheld → D → Type 0) → (D → D → Withheld → Answer → Type 0) → (D → D → Type 0) → Session → D → Taken → List (List ℕ) → Session → D → Taken → Option End → Type 0
Served takes releases moves = AnsweredSo Delivered takes releases moves
