-- A part of an export: the lines of the product codes whose number has one remainder (own).
use Rattle.std.specs.Prelude.{ℕ, ◌==◌, ◌&&◌, Bool, not, false, List, [], ◌∷◌, length, take, drop, filter, nat_le, Option, Some, None, if◌then◌else◌}
use Rattle.std.specs.Option.{option_map_or}
use Rattle.nmvs_identifier.specs.ProductCode.{ProductCode, is_product_code}
use Rattle.nmvs_line.specs.Line.{longest_line}
use Rattle.nmvs_shard.specs.Placing.{shard_of}

-- the remainder, and the number of parts
pub record PartView : Type 0 where
  pub index : ℕ
  pub count : ℕ

-- the bytes after the first of this byte
abbrev pub behind : ℕ → List ℕ → List ℕ
behind byte [] = []
behind byte (b ∷ bs) = if b == byte then bs else behind byte bs

-- the 14 bytes of a line where an entry's line has its product code: `[2,1767225600,"ph1",..,["STATUS","09506000134352",..`
abbrev pub code_text : List ℕ → List ℕ
code_text line = take 14 (drop 2 (behind 34 (drop 1 (behind 91 (drop 1 line)))))

-- the product code of these bytes
abbrev pub as_code : List ℕ → Option ProductCode
as_code text = if is_product_code text then Some (record { bytes = text }) else None

-- the product code of a line, if one stands there
abbrev pub code_in : List ℕ → Option ProductCode
code_in line = as_code (code_text line)

-- whether a product code is another part's
abbrev pub is_others_code : PartView → Option ProductCode → Bool
is_others_code part code = option_map_or (λ c. not (shard_of part.count c == part.index)) code false

-- whether a line is another part's: it is no longer than an entry's line, and has the product code of another part
abbrev pub is_others : PartView → List ℕ → Bool
is_others part line = nat_le (length line) longest_line && is_others_code part (code_in line)

-- the lines of a part, in order
abbrev pub own_lines : PartView → List (List ℕ) → List (List ℕ)
own_lines part lines = filter (λ line. not (is_others part line)) lines
