-- A worker's turn: its connections, and the desk that they share, before and after it (own).
use Rattle.std.specs.Prelude.{◌≡◌, ◌≢◌, ◌⊎◌, ◌==◌, if◌then◌else◌, ℕ, List, [], ◌∷◌, ◌++◌, length, map, take, drop, All, Option, Some, None}
use Rattle.std.specs.List.{Contains}
use Rattle.slab.specs.Slab.{Slab, get}
use Rattle.nmvs_messages.specs.declared.ask.Ask.{Ask}
use Rattle.nmvs_messages.specs.declared.answer.Answer.{Answer}
use Rattle.nmvs_messages.specs.declared.peer.NameOf.{NameOf}
use Rattle.nmvs_messages.specs.declared.peer.Peer.{Peer}
use Rattle.nmvs_messages.specs.declared.withheld.Withheld.{Withheld}
use Rattle.nmvs_messages.specs.Peers.{TakesFrom}
use Rattle.nmvs_messages.specs.Withheld.{answer_of}
use Rattle.nmvs_protocol.specs.Progress.{LastShows}
use Rattle.nmvs_protocol.specs.Session.{TakesLines, ReleasesAll, session_text}
use Rattle.nmvs_stream.specs.InputLines.{input_lines}
use Rattle.nmvs_connections.specs.declared.connection.Connection.{Connection}
use Rattle.nmvs_connections.specs.declared.event_loop.EventLoop.{EventLoop}
use Rattle.nmvs_connections.specs.declared.next.Next.{Next}
use Rattle.nmvs_connections.specs.declared.next.Next.TheVariants as nexts
use Rattle.nmvs_connections.specs.Memory.{IsCounted}
use Rattle.nmvs_connections.specs.Peers.{PeerState, IsConnection, IsLater, IsNamed, StaysPeer}
use Rattle.nmvs_connections.specs.Replies.{SessionState, TellsPart, LacksMemory, replied}

-- lines of the connection under this key that were taken together; its peer, if that is known; the withheld answers to the lines
pub record Taking : Type 0 where
  pub key : ℕ
  pub peer : Option Peer
  pub lines : List (List ℕ)
  pub held : List Withheld

-- all withheld answers, in order
abbrev pub held_of : List Taking → List Withheld
held_of [] = []
held_of (t ∷ more) = t.held ++ held_of more

-- lines are taken as those of this peer, the desk going from old to new; if the peer is not known, there are none
abbrev pub TakesBy : {D : Type 0} → (D → Peer → Ask → Withheld → D → Type 0) → Option Peer → D → List (List ℕ) → List Withheld → D → Type 0
TakesBy takes None old lines held new = (lines ≡ []) × (held ≡ []) × (new ≡ old)
TakesBy takes (Some peer) old lines held new = TakesLines (TakesFrom takes peer) old lines held new

-- the desk goes from old to new by exactly the takes of these lines, each as one of this peer
abbrev pub TakesAll : {D : Type 0} → (D → Peer → Ask → Withheld → D → Type 0) → D → List Taking → D → Type 0
TakesAll takes old [] new = new ≡ old
TakesAll {D} takes old (t ∷ more) new = (mid : D) × TakesBy takes t.peer old t.lines t.held mid × TakesAll takes mid more new

-- the lines that were taken between two releases, and the answers that the second one released
pub record Round : Type 0 where
  pub takings : List Taking
  pub said : List Answer

-- a round takes the desk from old to new
pub record GoesRound {D : Type 0} (takes : D → Peer → Ask → Withheld → D → Type 0) (releases : D → D → Withheld → Answer → Type 0) (moves : D → D → Type 0) (old : D) (round : Round) (new : D) : Type 0 where
  pub asked : D
  pub taken : TakesAll takes old round.takings asked
  pub released : ReleasesAll releases moves asked (held_of round.takings) round.said new

-- rounds take the desk from old to new
abbrev pub GoesRounds : {D : Type 0} → (D → Peer → Ask → Withheld → D → Type 0) → (D → D → Withheld → Answer → Type 0) → (D → D → Type 0) → D → List Round → D → Type 0
GoesRounds takes releases moves old [] new = new ≡ old
GoesRounds {D} takes releases moves old (r ∷ more) new = (mid : D) × GoesRound takes releases moves old r mid × GoesRounds takes releases moves mid more new

-- the lines of one connection among those that were taken
abbrev pub lines_to : ℕ → List Taking → List (List ℕ)
lines_to key [] = []
lines_to key (t ∷ more) = (if t.key == key then t.lines else []) ++ lines_to key more

-- the answers to the lines of one connection, among those to the lines of all
abbrev pub answers_to : ℕ → List Taking → List Answer → List Answer
answers_to key [] said = []
answers_to key (t ∷ more) said = (if t.key == key then take (length t.held) said else []) ++ answers_to key more (drop (length t.held) said)

-- all that was taken in these rounds, in order, and the lines of one connection among it
abbrev pub takings_in : List Round → List Taking
takings_in [] = []
takings_in (r ∷ more) = r.takings ++ takings_in more

abbrev pub lines_in : ℕ → List Round → List (List ℕ)
lines_in key rounds = lines_to key (takings_in rounds)

-- the answers to them
abbrev pub answers_in : ℕ → List Round → List Answer
answers_in key [] = []
answers_in key (r ∷ more) = answers_to key r.takings r.said ++ answers_in key more

-- a connection that was fed bytes, and has replies for them. The lines that were completed are its lines of these
-- rounds. The replies are the texts of the answers to them, in order, as far as there was memory. It waits for no
-- answer.
pub record Answered (key : ℕ) (rounds : List Round) (old new : SessionState) : Type 0 where
  pub lines : input_lines new.fed ≡ input_lines old.fed ++ lines_in key rounds
  pub text : List ℕ
  pub untold : List ℕ
  pub replies : replied new ≡ replied old ++ text
  pub text_is : session_text (answers_in key rounds) ≡ text ++ untold
  pub all : (untold ≡ []) ⊎ LacksMemory new.ended
  pub told : new.waiting ≡ 0

-- each connection that is there was there before, and has taken this step
abbrev pub EachGoes : {L : Type 0} → (ℕ → PeerState → PeerState → Type 0) → Slab (Connection L) → Slab (Connection L) → Type 0
EachGoes {L} goes old new = (key : ℕ) (connection' : Connection L) → get new key ≡ Some connection' → (connection : Connection L) × (get old key ≡ Some connection) × goes key connection.session connection'.session

-- a connection as it was at first, and as it was last, whether it is there still or not. It took each line that it received
-- once, in order, as a line of the peer that its header names
pub record Took {L : Type 0} (key : ℕ) (takings : List Taking) (first : PeerState) (now : Option (Connection L)) : Type 0 where
  pub last : PeerState
  pub is : IsConnection last
  pub later : IsLater first last
  pub lines : input_lines last.session.fed ≡ input_lines first.session.fed ++ lines_to key takings
  pub own : All (λ (t : Taking). t.key ≡ key → StaysPeer t.peer last.peer) takings
  pub still : (connection : Connection L) → now ≡ Some connection → connection.session ≡ last

-- the lines that were taken under a key are of the connection that was there at first. If there was none, no line was
-- taken, and none came.
abbrev pub TookUnder : {L : Type 0} → ℕ → List Taking → Option (Connection L) → Option (Connection L) → Type 0
TookUnder key takings None now = (lines_to key takings ≡ []) × (now ≡ None)
TookUnder key takings (Some connection) now = Took key takings connection.session now

-- each connection has this gateway, or none, and its bytes are so
abbrev pub AllBehind : {L : Type 0} → Option NameOf → Slab (Connection L) → Type 0
AllBehind {L} proxy connections = (key : ℕ) (connection : Connection L) → get connections key ≡ Some connection → IsConnection connection.session × (connection.session.proxy ≡ proxy)

abbrev pub StayBehind : {L : Type 0} → Slab (Connection L) → Slab (Connection L) → Type 0
StayBehind old new = (proxy : Option NameOf) → AllBehind proxy old → AllBehind proxy new

-- between two turns each connection keeps its gateway, and the counted memory is the sum of that of the connections
abbrev pub Stays : {L : Type 0} → EventLoop L → EventLoop L → Type 0
Stays old new = StayBehind old.connections new.connections × (IsCounted old → IsCounted new)

-- connections may have been closed, and no other has changed; the counted memory is still the sum of that of the
-- connections
abbrev pub OnlyCloses : {L : Type 0} → EventLoop L → EventLoop L → Type 0
OnlyCloses old new = (new.awaiting ≡ old.awaiting) × EachGoes (λ key state state'. state' ≡ state) old.connections new.connections × (IsCounted old → IsCounted new)

-- a turn of a worker. Rounds take the desk from old to new, each line as one of its own connection's peer, whether that
-- is there still or not. With a gateway no peer is `Anyone`. Each connection that is there, and waited for no answer,
-- is answered in the rounds, whatever others are served between its lines.
pub record WorkerTurn {D L : Type 0} (proxy : Option NameOf) (takes : D → Peer → Ask → Withheld → D → Type 0) (releases : D → D → Withheld → Answer → Type 0) (moves : D → D → Type 0) (old new : D) (connections connections' : Slab (Connection L)) : Type 0 where
  pub rounds : List Round
  pub desk : GoesRounds takes releases moves old rounds new
  pub took : (key : ℕ) → TookUnder key (takings_in rounds) (get connections key) (get connections' key)
  pub named : All (λ (t : Taking). IsNamed proxy t.peer) (takings_in rounds)
  pub each : EachGoes (λ key state state'. state.session.waiting ≡ 0 → Answered key rounds state.session state'.session) connections connections'

-- entries may have been fetched, and replies sent, and nothing else
pub record Kept (old new : SessionState) : Type 0 where
  pub fed : new.fed ≡ old.fed
  pub text : replied new ≡ replied old
  pub ended : new.ended ≡ old.ended
  pub first : new.first ≡ old.first
  pub waiting : new.waiting ≡ old.waiting
  pub awaited : new.awaited ≡ old.awaited

-- lines were taken, whose answers stand from this place on among the withheld ones. The last shows the awaited entries.
pub record LinesTaken (lines : List (List ℕ)) (held : List Withheld) (first : ℕ) (old new : SessionState) : Type 0 where
  pub lines_are : input_lines new.fed ≡ input_lines old.fed ++ lines
  pub text : replied new ≡ replied old
  pub open_still : old.ended ≡ None
  pub told : old.waiting ≡ 0
  pub starts : new.first ≡ first
  pub waits : new.waiting ≡ length held
  pub shows : LastShows new.awaited (map answer_of held)
  pub sound : LacksMemory new.ended → ⊥

-- the connection waits for a release
abbrev pub WaitsForRelease : Next → Type 0
WaitsForRelease nexts.WaitRelease = Unit {0}
WaitsForRelease nexts.ReleaseNow = Unit {0}
WaitsForRelease _ = ⊥

-- a session's step: lines were taken as those of the peer, and their answers follow the withheld ones. Or none was
-- taken, and no more was done than to send.
pub record LinesStep {D : Type 0} (takes : D → Peer → Ask → Withheld → D → Type 0) (peer : Option Peer) (old new : D) (withheld withheld' : List Withheld) (state state' : SessionState) : Type 0 where
  pub lines : List (List ℕ)
  pub held : List Withheld
  pub behind : withheld' ≡ withheld ++ held
  pub desk : TakesBy takes peer old lines held new
  pub goes : (Kept state state' × (lines ≡ []) × (held ≡ [])) ⊎ LinesTaken lines held (length withheld) state state'

-- a connection's step: its lines were taken, and it waits for the release of their answers; or none, and it has at most sent
pub record ConnectionSteps {D : Type 0} (takes : D → Peer → Ask → Withheld → D → Type 0) (old new : D) (withheld withheld' : List Withheld) (next : Next) (state state' : PeerState) : Type 0 where
  pub step : LinesStep takes state.peer old new withheld withheld' state.session state'.session
  pub waits : Kept state.session state'.session × (step.lines ≡ []) × (step.held ≡ []) ⊎ WaitsForRelease next
  pub later : IsLater state state'

-- the connection turned its part of the released answers into replies
pub record TellsOwn (released : List Answer) (old new : SessionState) : Type 0 where
  pub fed : new.fed ≡ old.fed
  pub text : List ℕ
  pub replies : replied new ≡ replied old ++ text
  pub tells : TellsPart old.first old.waiting released old.awaited text old.ended new.ended
  pub told : new.waiting ≡ 0

-- and its peer stays
abbrev pub TellsPeer : List Answer → PeerState → PeerState → Type 0
TellsPeer released old new = TellsOwn released old.session new.session × IsConnection new × IsLater old new

-- each connection that waited turned its part of the released answers into replies, once; no other did anything
abbrev pub TellsWhereAsked : List Answer → List ℕ → ℕ → PeerState → PeerState → Type 0
TellsWhereAsked released awaiting key old new =
    TellsPeer released old new ⊎ ((new ≡ old) × (Contains awaiting key → ⊥))

-- the withheld answers are released at once, and each connection that asked turns its part of them into replies
pub record TellsAll {D L : Type 0} (releases : D → D → Withheld → Answer → Type 0) (moves : D → D → Type 0) (old new : D) (withheld : List Withheld) (awaiting : List ℕ) (connections connections' : Slab (Connection L)) : Type 0 where
  pub said : List Answer
  pub released : ReleasesAll releases moves old withheld said new
  pub each : EachGoes (TellsWhereAsked said awaiting) connections connections'

-- lines of the connection were taken, and it asks for the release of their answers; or none, and it has at most sent
abbrev pub StepsOrStays : List ℕ → ℕ → List (List ℕ) → List Withheld → ℕ → SessionState → SessionState → Type 0
StepsOrStays awaiting key lines held first old new = (Kept old new × (lines ≡ []) × (held ≡ [])) ⊎ (Contains awaiting key × LinesTaken lines held first old new)

-- a connection that is there has its turn, and goes from before to after; under a key without a connection nobody has one
abbrev pub HasTurn : {L : Type 0} → Option (Connection L) → (before after : PeerState) → List (List ℕ) → Type 0
HasTurn None before after lines = before.peer ≡ None
HasTurn (Some connection) before after lines =
    (before ≡ connection.session) × IsConnection after × IsLater before after × (input_lines after.session.fed ≡ input_lines before.session.fed ++ lines)

-- the turn of the connection under this key. The desk takes its lines, as those of its peer, and appends their answers
-- to the withheld ones. If there are any, the connection waits for their release. No other connection has changed.
pub record TurnOfOne {D L : Type 0} (takes : D → Peer → Ask → Withheld → D → Type 0) (key : ℕ) (old new : D) (withheld withheld' : List Withheld) (awaiting awaiting' : List ℕ) (connections connections' : Slab (Connection L)) : Type 0 where
  pub before : PeerState
  pub after : PeerState
  pub lines : List (List ℕ)
  pub held : List Withheld
  pub turn : HasTurn (get connections key) before after lines
  pub left : (connection : Connection L) → get connections' key ≡ Some connection → connection.session ≡ after
  pub behind : withheld' ≡ withheld ++ held
  pub desk : TakesBy takes before.peer old lines held new
  pub still : (other : ℕ) → Contains awaiting other → Contains awaiting' other
  pub each : EachGoes (λ other state state'.
      (other ≢ key → state' ≡ state) × (other ≡ key → StepsOrStays awaiting' key lines held (length withheld) state.session state'.session)) connections connections'
