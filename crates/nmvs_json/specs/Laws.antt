-- The laws of the JSON of replies (own).
use Rattle.std.specs.Prelude.{◌≡◌, ℕ, Bool, true, false, List, [], ◌∷◌, length, map, Some, option_map}
use Rattle.std.specs.List.{list_any}
use Rattle.nmvs_rules.specs.declared.reply.Reply.{Reply}
use Rattle.nmvs_messages.specs.Fields.{fields_in}
use Rattle.nmvs_messages.specs.Words.{reply_words}
use Rattle.nmvs_json.specs.Replies.{Place, label, number, placed, places_of, string}

-- a line with a word for each place has all of its words at them, in order
abbrev pub AllArePlaced : Type 0
AllArePlaced = (places : List Place) (line : List ℕ) → length places ≡ length (fields_in line) → map (λ word. word.1) (placed places line) ≡ fields_in line

-- whether the word at a place is left out
abbrev pub is_label : Place → Bool
is_label (string name) = false
is_label (number name) = false
is_label label = true

-- each word after the first has a place, and none is left out
abbrev pub Fits : List (List ℕ) → Type 0
Fits [] = ⊥
Fits (word ∷ words) = (option_map length (places_of word) ≡ Some (length words)) × (option_map (list_any is_label) (places_of word) ≡ Some false)

-- no word of a reply is left out
abbrev pub EachFits : Type 0
EachFits = (reply : Reply) → Fits (reply_words reply)
