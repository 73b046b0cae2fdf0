-- A file of options: the words that it gives together with a command line, and its faults (own).
use Rattle.std.specs.Prelude.{⊤, ◌≡◌, ◌≤◌, ◌<◌, ◌+◌, ◌==◌, ◌&&◌, ◌++◌, ℕ, Bool, true, List, [], ◌∷◌, codes, length, take, drop, find, map, count_by, Option, Some, None, option_map, if◌then◌else◌, string_bytes, IsUtf8}
use Rattle.std.specs.Fmt.{signed_decimal}
use Rattle.std.specs.List.{list_any}
use Rattle.std.specs.Str.{bytes_eq}
use Rattle.toml.specs.Data.{Data, string, integer, boolean, array, table, Members, no_members, member}
use Rattle.toml.specs.Parse.{parse_document}
use Rattle.nmvs_stream.specs.Source.{Told}
use Rattle.nmvs_operator.specs.declared.config.ConfigFault.{ConfigFault}
use Rattle.nmvs_operator.specs.declared.config.ConfigFault.TheVariants.{Memory, Open, Read, Long, Utf8, Syntax, Entries}
use Rattle.nmvs_operator.specs.declared.config.EntryFault.{EntryFault}
use Rattle.nmvs_operator.specs.declared.config.EntryFault.TheVariants.{Unknown, Config, Nested, Mistyped}
use Rattle.nmvs_operator.specs.declared.options.Row.{Row}
use Rattle.nmvs_operator.specs.declared.options.Value.{Value}
use Rattle.nmvs_operator.specs.declared.options.Value.TheVariants.{Nothing, Text, Address, Word, Number}

-- whether bytes begin with these
abbrev pub begins : List ℕ → List ℕ → Bool
begins start bytes = bytes_eq (take (length start) bytes) start

-- nothing, or = and a value
abbrev pub is_value : List ℕ → Bool
is_value [] = true
is_value (b ∷ bs) = b == 61

-- whether a word names the option of this key: two dashes and the key, and then nothing or = and a value
abbrev pub names : List ℕ → List ℕ → Bool
names key word = begins (codes "--") word && (begins key (drop 2 word) && is_value (drop (length key) (drop 2 word)))

-- the first of these words
abbrev pub first_word : List (List ℕ) → Option (List ℕ)
first_word [] = None
first_word (word ∷ words) = Some word

-- the file that a command line names by its first --config: the next word, or the bytes after =
abbrev pub config_file : List (List ℕ) → Option (List ℕ)
config_file [] = None
config_file (word ∷ words) =
    if bytes_eq word (codes "--config") then first_word words
    else if begins (codes "--config=") word then Some (drop 9 word)
    else config_file words

-- a source gave these bytes
abbrev pub GivesBytes : Told → Told → List ℕ → Type 0
GivesBytes source source' bytes = source'.bytes ≡ source.bytes ++ bytes

-- the fault of bytes that are no text
abbrev pub IsNoText : List ℕ → ConfigFault → Type 0
IsNoText bytes fault = (fault ≡ Utf8) × ¬ IsUtf8 bytes

-- the meaning of a fault of a file that was read
abbrev pub ReadFails : Told → Told → ConfigFault → Type 0
ReadFails source source' Memory = ⊤
ReadFails source source' (Open error) = ⊥
ReadFails source source' Read = source'.failed ≡ true
ReadFails source source' Long = (bytes : List ℕ) × GivesBytes source source' bytes × (65536 < length bytes)
ReadFails source source' Utf8 = (bytes : List ℕ) × GivesBytes source source' bytes × (source'.ended ≡ true) × ¬ IsUtf8 bytes
ReadFails source source' (Syntax line) = ⊥
ReadFails source source' (Entries faults) = ⊥

-- the value that the option of this name takes, if there is one
abbrev pub value_of : List Row → List ℕ → Option Value
value_of rows name = option_map (λ row. row.value) (find (λ row. bytes_eq name row.name.now) rows)

-- the fault of an entry of an option that takes this value
abbrev pub value_fault : Value → Data → Option EntryFault
value_fault value (array items) = Some Nested
value_fault value (table entries) = Some Nested
value_fault (Text name) (string text) = None
value_fault (Word name words) (string text) = None
value_fault (Number least most) (integer number) = None
value_fault Address (string text) = None
value_fault Address (integer number) = None
value_fault Nothing (boolean given) = None
value_fault value _ = Some (Mistyped value)

-- the fault of an entry of an option that takes this value, if there is one
abbrev pub fault_by : Option Value → Data → Option EntryFault
fault_by None entry = Some Unknown
fault_by (Some value) entry = value_fault value entry

-- the fault of an entry: a file names no other file, and asks for no check
abbrev pub entry_fault : List Row → List ℕ → Data → Option EntryFault
entry_fault rows key entry =
    if bytes_eq key (codes "config") then Some Config
    else if bytes_eq key (codes "check") then Some Unknown
    else fault_by (value_of rows key) entry

-- this fault of the entry of this key, if it is one
abbrev pub fault_list : List ℕ → Option EntryFault → List (List ℕ × EntryFault)
fault_list key None = []
fault_list key (Some fault) = (key, fault) ∷ []

-- the faults of all entries, each with its key
abbrev pub all_faults : List Row → Members → List (List ℕ × EntryFault)
all_faults rows no_members = []
all_faults rows (member key entry rest) = fault_list key (entry_fault rows key entry) ++ all_faults rows rest

-- the words that say the same as an entry: one, or none if a flag is not given
abbrev pub entry_words : List ℕ → Data → List (List ℕ)
entry_words key (string text) = (codes "--" ++ (key ++ (codes "=" ++ text))) ∷ []
entry_words key (integer number) = (codes "--" ++ (key ++ (codes "=" ++ signed_decimal number))) ∷ []
entry_words key (boolean true) = (codes "--" ++ key) ∷ []
entry_words key _ = []

-- the words of the entries whose options no word of this command line names
abbrev pub file_words : List (List ℕ) → Members → List (List ℕ)
file_words line no_members = []
file_words line (member key entry rest) =
    (if list_any (names key) line then [] else entry_words key entry) ++ file_words line rest

-- the text is TOML whose entries are options; these are their words that the command line does not name, then its own
pub record Gives (rows : List Row) (text : List ℕ) (line all : List (List ℕ)) : Type 0 where
  pub entries : Members
  pub read : parse_document text ≡ Some entries
  pub faultless : all_faults rows entries ≡ []
  pub words : all ≡ file_words line entries ++ line

-- the line, counted from 1, of a place in a text
abbrev pub IsLineAt : List ℕ → ℕ → ℕ → Type 0
IsLineAt text place line = line ≡ count_by (λ b. b == 10) (take place text) + 1

-- the line, counted from 1, of a place in a text
abbrev pub IsLineWithin : List ℕ → ℕ → Type 0
IsLineWithin text line = (place : ℕ) × (place ≤ length text) × IsLineAt text place line

-- the meaning of the fault of a text that was not read, by whether memory was lacking
abbrev pub TellsText : List ℕ → Type 0 → ConfigFault → Type 0
TellsText text memory Memory = memory
TellsText text memory (Syntax line) = ¬ memory × IsLineWithin text line
TellsText text memory (Open error) = ⊥
TellsText text memory Read = ⊥
TellsText text memory Long = ⊥
TellsText text memory Utf8 = ⊥
TellsText text memory (Entries faults) = ⊥

-- the text is TOML whose entries have these faults
pub record HasFaults (rows : List Row) (text : List ℕ) (faults : List (List ℕ × EntryFault)) : Type 0 where
  pub entries : Members
  pub read : parse_document text ≡ Some entries
  pub all : faults ≡ all_faults rows entries
  pub some : ¬ (faults ≡ [])

-- the meaning of a fault of the text of a file
abbrev pub Refuses : List Row → List ℕ → ConfigFault → Type 0
Refuses rows text Memory = ⊤
Refuses rows text (Syntax line) = (parse_document text ≡ None) × IsLineWithin text line
Refuses rows text (Entries faults) = HasFaults rows text (map (λ f. (string_bytes f.0, f.1)) faults.items)
Refuses rows text (Open error) = ⊥
Refuses rows text Read = ⊥
Refuses rows text Long = ⊥
Refuses rows text Utf8 = ⊥
