-- Orders of the operator, and their answers (own).
use Rattle.std.specs.Prelude.{◌≡◌, ◌+◌, ◌<◌, ◌≤◌, ◌⊎◌, ℕ, Bool, true, false, List, [], ◌∷◌, ◌++◌, All, length, codes, Option, Some, None, Result, Ok, Err}
use Rattle.nmvs_directory.specs.Registrar.{Register}
use Rattle.nmvs_directory.specs.Users.{users_of}
use Rattle.nmvs_directory.specs.declared.change.Change.{Change}
use Rattle.nmvs_stream.specs.InputLines.{HasNoLf, input_lines, unfinished_line}
use Rattle.nmvs_messages.specs.PendingLines.{kept_part}
use Rattle.nmvs_messages.specs.declared.command.Command.{Command}
use Rattle.nmvs_messages.specs.declared.command.CommandFault.{CommandFault}
use Rattle.nmvs_messages.specs.declared.command.CommandFault.TheVariants as commands
use Rattle.nmvs_stream.specs.Source.{Told}
use Rattle.nmvs_stream.specs.Sink.{Taken}
use Rattle.nmvs_stream.specs.Delivery.{Delivers, DeliversPart}
use Rattle.nmvs_operator.specs.Orders.{ReadsOrder, counts, help_lines}
use Rattle.nmvs_operator.specs.Figures.{figure_lines}
use Rattle.nmvs_operator.specs.Reload.{TakesLines}
use Rattle.nmvs_operator.specs.Roll.{user_lines, changed_users, changed_line}
use Rattle.nmvs_operator.specs.Users.{change_of, AddsAll, AddsFirst}
use Rattle.nmvs_operator.specs.UsersFaults.{faults_from, fault_lines}
use Rattle.nmvs_operator.specs.declared.faults.ObeyFault.{ObeyFault}
use Rattle.nmvs_operator.specs.declared.faults.ObeyFault.TheVariants as obey
use Rattle.nmvs_operator.specs.declared.figures.Figure.{Figure}
use Rattle.nmvs_operator.specs.declared.order.Fixed.TheVariants as fixed
use Rattle.nmvs_operator.specs.declared.order.Order.{Order}
use Rattle.nmvs_operator.specs.declared.order.Order.TheVariants as orders
use Rattle.nmvs_operator.specs.declared.service.ServiceFault.{ServiceFault}
use Rattle.nmvs_operator.specs.declared.service.ServiceFault.TheVariants as service

-- the state that orders change: the register; the list of changes of the latest notice, if one was shown; the server
pub record Office (S : Type 0) : Type 0 where
  pub register : Register
  pub latest : Option (List Change)
  pub service : S

abbrev pub office : {S : Type 0} → Register → Option (List Change) → S → Office S
office register latest service = record { register = register; latest = latest; service = service }

-- what a server in a state may do at an order: it gives these figures, or fails so, and is in that state then
abbrev pub Does : Type 0 → Type 1
Does S = S → Order → Result (List Figure) ServiceFault → S → Type 0

-- how it may keep the changes of these lines of a users file, or fail to
abbrev pub Keeps : Type 0 → Type 1
Keeps S = S → List ℕ → Option ServiceFault → S → Type 0

-- both
pub record Ways (S : Type 0) : Type 1 where
  pub does : Does S
  pub keeps : Keeps S

abbrev pub ways : {S : Type 0} → Does S → Keeps S → Ways S
ways does keeps = record { does = does; keeps = keeps }

-- an order that asks for no figures has none
abbrev pub HasFigures : Order → List Figure → Type 0
HasFigures order figures = counts order ≡ false → figures ≡ []

-- the server kept the changes of lines of a users file that have no fault, or failed to with this fault
pub record KeepsFile {S : Type 0} (keeps : Keeps S) (old : S) (bytes : List ℕ) (fault : Option ServiceFault) (new : S) : Type 0 where
  pub faultless : faults_from 1 bytes ≡ []
  pub kept : keeps old bytes fault new

-- the users stay as they are, and so does the latest notice
abbrev pub UsersStay : {S : Type 0} → Office S → Office S → Type 0
UsersStay old new = (new.register ≡ old.register) × (new.latest ≡ old.latest)

-- a change is published after all that were pending, and the latest notice has all that is published
pub record Publishes {S : Type 0} (old : Office S) (command : Command) (new : Office S) : Type 0 where
  pub all : new.register.published ≡ old.register.published ++ (old.register.pending ++ change_of command ∷ [])
  pub none_left : new.register.pending ≡ []
  pub told : new.latest ≡ Some new.register.published

-- memory was wanting for a change that the server keeps: nothing was published, and the change may be pending
pub record Lacks {S : Type 0} (old : Office S) (command : Command) (new : Office S) : Type 0 where
  pub published : new.register.published ≡ old.register.published
  pub pending : (new.register.pending ≡ old.register.pending) ⊎ (new.register.pending ≡ old.register.pending ++ change_of command ∷ [])
  pub latest : new.latest ≡ old.latest

-- the server keeps the changes of those lines of a users file that take effect
pub record KeepsUsers {S : Type 0} (keeps : Keeps S) (all : Bool) (old new : Office S) (bytes : List ℕ) : Type 0 where
  pub file : List ℕ
  pub takes : TakesLines all old.register.published file bytes
  pub kept : KeepsFile keeps old.service bytes None new.service

-- they are published after all that were pending; the latest notice has all that is published
pub record Reloads {S : Type 0} (keeps : Keeps S) (all : Bool) (old new : Office S) : Type 0 where
  pub bytes : List ℕ
  pub users : KeepsUsers keeps all old new bytes
  pub added : List Change
  pub adds : AddsAll bytes old.register.pending added
  pub published : new.register.published ≡ old.register.published ++ added
  pub none_left : new.register.pending ≡ []
  pub told : new.latest ≡ Some new.register.published

-- memory was wanting for them: nothing was published, and the changes of the first of them are pending
pub record LacksUsers {S : Type 0} (keeps : Keeps S) (all : Bool) (old new : Office S) : Type 0 where
  pub bytes : List ℕ
  pub users : KeepsUsers keeps all old new bytes
  pub published : new.register.published ≡ old.register.published
  pub pending : AddsFirst bytes old.register.pending new.register.pending
  pub latest : new.latest ≡ old.latest

-- the answer to an order: the lines that it asked for, and its end, the order that was carried out or a fault
pub record Said : Type 0 where
  pub lines : List ℕ
  pub ends : Result Order ObeyFault

abbrev pub saying : List ℕ → Result Order ObeyFault → Said
saying lines ends = record { lines = lines; ends = ends }

-- an order that asks for lines alone is answered by these, or there was no memory for them
abbrev pub Lists : Order → List ℕ → Said → Type 0
Lists order lines said = (said ≡ saying lines (Ok order)) ⊎ (said ≡ saying [] (Err obey.Memory))

-- a change of the users ended so
abbrev pub Changes : {S : Type 0} → Does S → Office S → Command → Result Order ObeyFault → Office S → Type 0
Changes does old command (Ok order) new =
    (order ≡ orders.Change command) × does old.service (orders.Change command) (Ok []) new.service × Publishes old command new
Changes does old command (Err (obey.Undone fault)) new = does old.service (orders.Change command) (Err fault) new.service × UsersStay old new
Changes does old command (Err obey.Memory) new = does old.service (orders.Change command) (Ok []) new.service × Lacks old command new
Changes does old command (Err _) new = ⊥

-- a reload ended so, with these lines of its answer: the number of users whom it changed, or the faults of the users
-- file
abbrev pub Renews : {S : Type 0} → Keeps S → Bool → Office S → List ℕ → Result Order ObeyFault → Office S → Type 0
Renews keeps all old lines (Ok order) new =
    (order ≡ orders.Reload all) × Reloads keeps all old new × (lines ≡ changed_line (changed_users old.register.published new.register.published))
Renews keeps all old lines (Err (obey.Undone fault)) new =
    ((new.service ≡ old.service) ⊎ ((bytes : List ℕ) × KeepsFile keeps old.service bytes (Some fault) new.service)) × UsersStay old new × (lines ≡ [])
Renews keeps all old lines (Err obey.Memory) new = ((new ≡ old) ⊎ LacksUsers keeps all old new) × (lines ≡ [])
Renews keeps all old lines (Err obey.Users) new =
    (new ≡ old) × ((bytes : List ℕ) × (0 < length (faults_from 1 bytes)) × (lines ≡ fault_lines (faults_from 1 bytes)))
Renews keeps all old lines (Err _) new = ⊥

-- an order that is for the server alone ended so, and these are the lines of its answer
abbrev pub Performs : {S : Type 0} → Does S → S → Order → List ℕ → Result Order ObeyFault → S → Type 0
Performs does old order lines (Ok done) new =
    (done ≡ order) × ((figures : List Figure) × does old order (Ok figures) new × HasFigures order figures × (lines ≡ figure_lines figures))
Performs does old order lines (Err (obey.Undone fault)) new = does old order (Err fault) new × (lines ≡ [])
Performs does old order lines (Err obey.Memory) new =
    ((figures : List Figure) × does old order (Ok figures) new × HasFigures order figures × (0 < length figures)) × (lines ≡ [])
Performs does old order lines (Err _) new = ⊥

-- a line that was read so is answered so
abbrev pub AnswersRead : {S : Type 0} → Ways S → Office S → Result Order CommandFault → Said → Office S → Type 0
AnswersRead ways old (Err fault) said new = (said ≡ saying [] (Err (obey.Unread fault))) × (new ≡ old)
AnswersRead ways old (Ok (orders.Change command)) said new = Changes ways.does old command said.ends new × (said.lines ≡ [])
AnswersRead ways old (Ok (orders.Reload all)) said new = Renews ways.keeps all old said.lines said.ends new
AnswersRead ways old (Ok (orders.Fixed fixed.Users)) said new = Lists (orders.Fixed fixed.Users) (user_lines (users_of old.register.published)) said × (new ≡ old)
AnswersRead ways old (Ok (orders.Fixed fixed.Help)) said new = Lists (orders.Fixed fixed.Help) help_lines said × (new ≡ old)
AnswersRead ways old (Ok order) said new = Performs ways.does old.service order said.lines said.ends new.service × UsersStay old new

-- a line is answered so
abbrev pub AnswersOrder : {S : Type 0} → Ways S → Office S → List ℕ → Said → Office S → Type 0
AnswersOrder ways old line said new = (read : Result Order CommandFault) × ReadsOrder line read × AnswersRead ways old read said new

-- lines are answered so, one by one in order
abbrev pub AnswersOrders : {S : Type 0} → Ways S → Office S → List (List ℕ) → List Said → Office S → Type 0
AnswersOrders ways old [] [] new = new ≡ old
AnswersOrders {S} ways old (x ∷ xs) (a ∷ said) new = (mid : Office S) × AnswersOrder ways old x a mid × AnswersOrders ways mid xs said new
AnswersOrders ways old [] (a ∷ said) new = ⊥
AnswersOrders ways old (x ∷ xs) [] new = ⊥

-- the same by a server that follows another, which has no users to change
abbrev pub AnswersReadFollowing : {S : Type 0} → Does S → S → Result Order CommandFault → Said → S → Type 0
AnswersReadFollowing does old (Err fault) said new = (said ≡ saying [] (Err (obey.Unread fault))) × (new ≡ old)
AnswersReadFollowing does old (Ok (orders.Fixed fixed.Help)) said new = Lists (orders.Fixed fixed.Help) help_lines said × (new ≡ old)
AnswersReadFollowing does old (Ok order) said new = Performs does old order said.lines said.ends new

abbrev pub AnswersFollowing : {S : Type 0} → Does S → S → List ℕ → Said → S → Type 0
AnswersFollowing does old line said new = (read : Result Order CommandFault) × ReadsOrder line read × AnswersReadFollowing does old read said new

-- the word of the fault of a line that can't be read
abbrev pub command_word : CommandFault → List ℕ
command_word commands.Long = codes "LONG"
command_word commands.Bytes = codes "BYTES"
command_word commands.Fields = codes "FIELDS"
command_word commands.Word = codes "WORD"
command_word commands.Role = codes "ROLE"
command_word commands.User = codes "NAME"
command_word commands.Authorisation = codes "NAME"
command_word commands.Premises = codes "NAME"
command_word commands.Until = codes "UNTIL"
command_word commands.Codes = codes "CODES"

-- the word of the fault of a server that failed to carry out an order
abbrev pub service_word : ServiceFault → List ℕ
service_word service.Journal = codes "JOURNAL"
service_word service.Write = codes "WRITE"
service_word service.Memory = codes "MEMORY"
service_word service.Clock = codes "CLOCK"
service_word service.Read = codes "READ"
service_word service.NoFile = codes "NOFILE"
service_word service.Engine = codes "ENGINE"
service_word service.Standby = codes "STANDBY"
service_word service.Untrimmed = codes "TRIM"

-- the last line of the answer to an order
abbrev pub order_text : Result Order ObeyFault → List ℕ
order_text (Ok _) = codes "DONE\n"
order_text (Err (obey.Unread fault)) = codes "FAULT " ++ command_word fault ++ codes "\n"
order_text (Err (obey.Undone fault)) = codes "FAULT " ++ service_word fault ++ codes "\n"
order_text (Err obey.Memory) = codes "FAULT MEMORY\n"
order_text (Err obey.Users) = codes "FAULT USERS\n"
order_text (Err obey.Unended) = codes "FAULT UNENDED\n"

-- a text was delivered, or a part of it before a failed write
abbrev pub Tries : Taken → Taken → List ℕ → Type 0
Tries old new text = Delivers old new text ⊎ DeliversPart old new text

-- the text of the answer to an order
abbrev pub answer_text : Said → List ℕ
answer_text said = said.lines ++ order_text said.ends

-- the texts of these answers were delivered one by one, or of one a part of it before a failed write
abbrev pub TellsAnswers : Taken → List Said → Taken → Type 0
TellsAnswers old [] new = new ≡ old
TellsAnswers old (a ∷ said) new =
    (mid : Taken) × Tries old mid (answer_text a) × TellsAnswers mid said new

-- the answer to a line that was begun and has no end: none if nothing was begun
abbrev pub last_answer : List ℕ → List Said
last_answer [] = []
last_answer (b ∷ begun) = saying [] (Err obey.Unended) ∷ []

-- whether an order that ended so stopped the server
abbrev pub stops : Result Order ObeyFault → Bool
stops (Ok (orders.Fixed fixed.Stop)) = true
stops _ = false

-- whether the server was stopped
abbrev pub is_stop : Said → Bool
is_stop said = stops said.ends

-- none of these answers is that the server was stopped
abbrev pub GoesOn : List Said → Type 0
GoesOn said = All (λ a. is_stop a ≡ false) said

-- an input is at its end: its end was read, a read failed, or the most reads were made
abbrev pub InputEnds : Told → Told → Type 0
InputEnds source source' =
    (source'.ended ≡ true) ⊎ ((source'.failed ≡ true) ⊎ (source.reads + 18446744073709551615 ≤ source'.reads))

-- a line was read up to its LF, of which this part is kept
pub record ReadsLine (source source' : Told) (kept : List ℕ) : Type 0 where
  pub line : List ℕ
  pub one : HasNoLf line
  pub part : kept ≡ kept_part line
  pub bytes : source'.bytes ≡ source.bytes ++ (line ++ 10 ∷ [])
  pub reads : source.reads + 1 ≤ source'.reads

-- the input is at its end, and this part is kept of the line that was begun
pub record ReadsEnd (source source' : Told) (kept : List ℕ) : Type 0 where
  pub line : List ℕ
  pub one : HasNoLf line
  pub part : kept ≡ kept_part line
  pub bytes : source'.bytes ≡ source.bytes ++ line
  pub ends : InputEnds source source'

-- all lines of an input that have their LF were answered, and none stopped the server. A line that was begun after them
-- is answered, and not carried out.
pub record EndsWithInput (input : List ℕ) (source : Told) (sink : Taken) (lines : List (List ℕ)) (said : List Said) (source' : Told) (sink' : Taken) : Type 0 where
  pub all : lines ≡ input_lines input
  pub goes_on : GoesOn said
  pub told : TellsAnswers sink (said ++ last_answer (unfinished_line input)) sink'
  pub ends : InputEnds source source'

-- the lines of an input were answered, up to the one that stopped the server; no other was read
pub record EndsByStop (input : List ℕ) (sink : Taken) (lines : List (List ℕ)) (said : List Said) (sink' : Taken) : Type 0 where
  pub all : lines ≡ input_lines input
  pub before : List Said
  pub stop : Said
  pub last : said ≡ before ++ stop ∷ []
  pub stopped : is_stop stop ≡ true
  pub goes_on : GoesOn before
  pub told : TellsAnswers sink said sink'

-- the orders of a source were carried out and answered, up to its end or to the order that stopped the server
pub record CarriesOut {S : Type 0} (ways : Ways S) (old : Office S) (source : Told) (sink : Taken) (new : Office S) (source' : Told) (sink' : Taken) : Type 0 where
  -- these bytes were read
  pub input : List ℕ
  pub read : source'.bytes ≡ source.bytes ++ input
  -- and these of their lines answered
  pub lines : List (List ℕ)
  pub said : List Said
  pub answers : AnswersOrders ways old lines said new
  pub ends : EndsWithInput input source sink lines said source' sink' ⊎ EndsByStop input sink lines said sink'
