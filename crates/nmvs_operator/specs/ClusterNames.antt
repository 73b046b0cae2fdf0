-- The names of clusters and of their machines (own).
use Rattle.std.specs.Prelude.{ℕ, Bool, false, if◌then◌else◌, ◌&&◌, ◌||◌, ◌==◌, List, length, nat_le}
use Rattle.std.specs.Char.{is_ascii_alphanumeric}
use Rattle.std.specs.List.{list_all}

-- a letter, a digit or -
abbrev pub is_name_character : ℕ → Bool
is_name_character c = is_ascii_alphanumeric c || c == 45

-- whether a text names a cluster or a machine: 1 to 63 letters, digits and - (RFC 1123, section 2.1, of a host name's
-- label)
abbrev pub is_cluster_name : List ℕ → Bool
is_cluster_name t = if nat_le 1 (length t) && nat_le (length t) 63 then list_all is_name_character t else false
