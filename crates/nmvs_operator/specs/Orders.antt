-- The orders of the operator: a row for each, the one line of each, and the first fault of a line (own).
use Rattle.std.specs.Prelude.{◌≡◌, ◌^◌, ◌&&◌, ◌++◌, ℕ, Bool, true, false, nat_lt, List, [], ◌∷◌, codes, decimal, find, Option, Some, None, option_map, Result, Ok, Err, if◌then◌else◌, IsTrue}
use Rattle.std.specs.List.{flat_map}
use Rattle.std.specs.Str.{bytes_eq}
use Rattle.std.specs.Str.Parse.{digits_value}
use Rattle.nmvs_messages.specs.Commands.{command_fields, is_command, fields_fault}
use Rattle.nmvs_messages.specs.Fields.{line_of_fields, line_fault}
use Rattle.nmvs_messages.specs.declared.command.CommandFault.{CommandFault}
use Rattle.nmvs_messages.specs.declared.command.CommandFault.TheVariants as fault
use Rattle.nmvs_operator.specs.declared.order.Fixed.{Fixed}
use Rattle.nmvs_operator.specs.declared.order.Fixed.TheVariants as fixed
use Rattle.nmvs_operator.specs.declared.order.Grammar.{Grammar}
use Rattle.nmvs_operator.specs.declared.order.Grammar.TheVariants.{Alone, Over, Reload, Path, Blocks, User}
use Rattle.nmvs_operator.specs.declared.order.Order.{Order}
use Rattle.nmvs_operator.specs.declared.order.Order.TheVariants as orders

-- a row: the word of an order, the text that HELP shows after it, and the grammar of the texts after it
abbrev pub Row : Type 0
Row = List ℕ × List ℕ × Grammar

-- the rows, as HELP lists them
abbrev pub rows : List Row
rows =
    (codes "ENROL", codes " user role authorisation premises [UNTIL YYMMDD] [CODES code,code]", User)
    ∷ (codes "SUSPEND", codes " user", User)
    ∷ (codes "REMOVE", codes " user", User)
    ∷ (codes "RELOAD", [], Reload)
    ∷ (codes "RELOAD", codes " ALL", Reload)
    ∷ (codes "EXPORT", codes " file", Path)
    ∷ (codes "USERS", [], Alone fixed.Users)
    ∷ (codes "STATS", [], Alone fixed.Stats)
    ∷ (codes "CONNECTIONS", [], Alone fixed.Connections)
    ∷ (codes "ALERTS", [], Alone fixed.Alerts)
    ∷ (codes "STOP", [], Alone fixed.Stop)
    ∷ (codes "TAKE", codes " OVER", Over fixed.TakeOver)
    ∷ (codes "HAND", codes " OVER", Over fixed.HandOver)
    ∷ (codes "TRIM", codes " blocks", Blocks)
    ∷ (codes "HELP", [], Alone fixed.Help)
    ∷ []

-- the lines of HELP
abbrev pub help_of : List Row → List ℕ
help_of rows = flat_map (λ row. row.0 ++ (row.1 ++ codes "\n")) rows

unfoldable pub help_lines : List ℕ
help_lines = help_of rows

-- the grammar after a word, if it is one of an order
unfoldable pub grammar_of : List ℕ → Option Grammar
grammar_of word = option_map (λ row. row.2) (find (λ row. bytes_eq word row.0) rows)

-- the fields of a reload, with ALL if it frees suspended users
abbrev pub reload_fields : Bool → List (List ℕ)
reload_fields false = codes "RELOAD" ∷ []
reload_fields true = codes "RELOAD" ∷ codes "ALL" ∷ []

-- the fields of an order of fixed words
abbrev pub fixed_fields : Fixed → List (List ℕ)
fixed_fields fixed.Users = codes "USERS" ∷ []
fixed_fields fixed.Stats = codes "STATS" ∷ []
fixed_fields fixed.Connections = codes "CONNECTIONS" ∷ []
fixed_fields fixed.Alerts = codes "ALERTS" ∷ []
fixed_fields fixed.Stop = codes "STOP" ∷ []
fixed_fields fixed.TakeOver = codes "TAKE" ∷ codes "OVER" ∷ []
fixed_fields fixed.HandOver = codes "HAND" ∷ codes "OVER" ∷ []
fixed_fields fixed.Help = codes "HELP" ∷ []

-- the fields of an order
abbrev pub order_fields : Order → List (List ℕ)
order_fields (orders.Change command) = command_fields command
order_fields (orders.Reload all) = reload_fields all
order_fields (orders.Export path) = codes "EXPORT" ∷ path.now ∷ []
order_fields (orders.Trim blocks) = codes "TRIM" ∷ decimal blocks ∷ []
order_fields (orders.Fixed order) = fixed_fields order

-- the line of an order, without LF
abbrev pub order_line : Order → List ℕ
order_line o = line_of_fields (order_fields o)

-- whether the texts of an order are in their grammars
abbrev pub is_order : Order → Bool
is_order (orders.Change command) = is_command command
is_order (orders.Trim blocks) = nat_lt blocks (2 ^ 64)
is_order _ = true

-- whether an order asks for figures
abbrev pub counts : Order → Bool
counts (orders.Fixed fixed.Stats) = true
counts (orders.Fixed fixed.Connections) = true
counts (orders.Fixed fixed.Alerts) = true
counts _ = false

-- the first fault of an export with these texts after its word
abbrev pub export_fault : List (List ℕ) → Option CommandFault
export_fault (path ∷ []) = None
export_fault _ = Some fault.Fields

-- the first fault of a word that stands alone, with these texts after it
abbrev pub alone_fault : List (List ℕ) → Option CommandFault
alone_fault [] = None
alone_fault _ = Some fault.Fields

-- the first fault of these texts after a word that ALL alone may follow
abbrev pub reload_fault : List (List ℕ) → Option CommandFault
reload_fault [] = None
reload_fault (text ∷ []) = if bytes_eq text (codes "ALL") then None else Some fault.Fields
reload_fault _ = Some fault.Fields

-- the first fault of these texts after a word that OVER alone follows
abbrev pub over_fault : List (List ℕ) → Option CommandFault
over_fault (text ∷ []) = if bytes_eq text (codes "OVER") then None else Some fault.Fields
over_fault _ = Some fault.Fields

-- whether a text is a number below 2^64 in decimal, without leading zeros
abbrev pub is_number : List ℕ → Bool
is_number text = bytes_eq text (decimal (digits_value 10 text)) && nat_lt (digits_value 10 text) (2 ^ 64)

-- the first fault of a trim with these texts after its word
abbrev pub trim_fault : List (List ℕ) → Option CommandFault
trim_fault (text ∷ []) = if is_number text then None else Some fault.Fields
trim_fault _ = Some fault.Fields

-- the first fault of a word and of these texts after it, by the grammar after it
abbrev pub fault_by : Option Grammar → List ℕ → List (List ℕ) → Option CommandFault
fault_by None word texts = Some fault.Word
fault_by (Some (Alone order)) word texts = alone_fault texts
fault_by (Some (Over order)) word texts = over_fault texts
fault_by (Some Reload) word texts = reload_fault texts
fault_by (Some Path) word texts = export_fault texts
fault_by (Some Blocks) word texts = trim_fault texts
fault_by (Some User) word texts = fields_fault (word ∷ texts)

-- the first fault of these fields
abbrev pub order_fault : List (List ℕ) → Option CommandFault
order_fault [] = Some fault.Word
order_fault (word ∷ texts) = fault_by (grammar_of word) word texts

-- the first fault of a line
unfoldable pub first_order_fault : List ℕ → Option CommandFault
first_order_fault x = line_fault fault.Long fault.Bytes fault.Fields order_fault x

-- a line is read as the order whose line it is, else with its first fault
abbrev pub ReadsOrder : List ℕ → Result Order CommandFault → Type 0
ReadsOrder x (Ok o) = (x ≡ order_line o) × (first_order_fault x ≡ None) × IsTrue (is_order o)
ReadsOrder x (Err f) = first_order_fault x ≡ Some f
