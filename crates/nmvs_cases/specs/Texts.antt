-- The texts of acts (own).
use Rattle.std.specs.Prelude.{ℕ, Bool, true, false, not, ◌&&◌, ◌==◌, List, [], ◌∷◌, length, nat_le}
use Rattle.std.specs.List.{list_all}

-- a byte that is no control character of ASCII
abbrev pub is_no_control : ℕ → Bool
is_no_control b = nat_le 32 b && not (b == 127)

-- a text without the other control characters, U+0080 to U+009F: in UTF-8 these are 194 and a byte from 128 to 159
abbrev pub ends_control : List ℕ → Bool
ends_control [] = false
ends_control (b ∷ bs) = nat_le 128 b && nat_le b 159

abbrev pub lacks_later_controls : List ℕ → Bool
lacks_later_controls [] = true
lacks_later_controls (b ∷ bs) = not ((b == 194) && ends_control bs) && lacks_later_controls bs

-- at most 400 bytes without a control character; the text may be empty
abbrev pub is_case_text : List ℕ → Bool
is_case_text t = nat_le (length t) 400 && (list_all is_no_control t && lacks_later_controls t)
