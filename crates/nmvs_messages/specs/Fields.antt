-- The fields of a line: the texts between single spaces (own).
use Rattle.std.specs.Prelude.{ℕ, Bool, true, List, [], length, ◌==◌, ◌+◌, ◌&&◌, nat_le, nat_lt, not, Option, Some, None, if◌then◌else◌}
use Rattle.std.specs.Borrow.{Bor}
use Rattle.std.specs.List.{list_all, list_any, slice_split, join_with_byte}

-- a printable ASCII character, the space among them
abbrev pub is_printable : ℕ → Bool
is_printable b = nat_le 32 b && nat_le b 126

-- the space, which parts the fields
abbrev pub is_space : ℕ → Bool
is_space b = b == 32

-- the fields of a line
abbrev pub fields_in : List ℕ → List (List ℕ)
fields_in x = slice_split is_space x

-- the fields of the bytes after a space, if there is one
abbrev pub fields_behind : Option (Bor (List ℕ)) → List (List ℕ)
fields_behind None = []
fields_behind (Some behind) = fields_in behind.now

-- whether all of those bytes are printable
abbrev pub are_printable_behind : Option (Bor (List ℕ)) → Bool
are_printable_behind None = true
are_printable_behind (Some behind) = list_all is_printable behind.now

-- their number, and one for the space
abbrev pub length_behind : Option (Bor (List ℕ)) → ℕ
length_behind None = 0
length_behind (Some behind) = length behind.now + 1

-- the line that has these fields
abbrev pub line_of_fields : List (List ℕ) → List ℕ
line_of_fields fs = join_with_byte 32 fs

-- a field of no bytes
abbrev pub is_empty : List ℕ → Bool
is_empty f = length f == 0

-- the first fault of a line: one of three that any line can have, else that of its fields
abbrev pub line_fault : {F : Type 0} → F → F → F → (List (List ℕ) → Option F) → List ℕ → Option F
line_fault long bytes empty of_fields x =
    if nat_lt 200 (length x) then Some long
    else if not (list_all is_printable x) then Some bytes
    else if list_any is_empty (fields_in x) then Some empty
    else of_fields (fields_in x)
