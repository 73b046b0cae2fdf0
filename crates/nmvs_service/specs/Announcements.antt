-- The lines that a server prints for its operator: where it listens, and the lengths of the trails that it settled (own).
use Rattle.std.specs.Prelude.{ℕ, List, ◌++◌, codes, decimal, length}
use Rattle.std.specs.List.{flat_map}
use Rattle.nmvs_rules.specs.declared.entry.Entry.{Entry}

-- the line that the server listens at this place: the digits of a port, or the path of a socket
abbrev pub listening_text : List ℕ → List ℕ
listening_text place = codes "LISTENING " ++ (place ++ codes "\n")

-- the line that the server listens for HTTP at this place
abbrev pub http_text : List ℕ → List ℕ
http_text place = codes "LISTENING HTTP " ++ (place ++ codes "\n")

-- the length of a trail, after a blank
abbrev pub length_text : List Entry → List ℕ
length_text trail = codes " " ++ decimal (length trail)

-- the line that trails are settled, with the length of each, in order
abbrev pub settled_text : List (List Entry) → List ℕ
settled_text trails = codes "SETTLED" ++ (flat_map length_text trails ++ codes "\n")
