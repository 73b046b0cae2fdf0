-- Digests of files: SHA-256 of FIPS 180-4, in the lines of `sha256sum` (own).
use Rattle.std.specs.Prelude.{◌≡◌, ℕ, List, ◌++◌, codes, Option, Some, None}
use Rattle.hex.specs.Hex.{encode_lower}
use Rattle.sha2.specs.Sha256.{sha256}

-- the line for a file of this name: the digest's hexadecimal digits in lower case, two blanks, the name, and LF
abbrev pub digest_line : List ℕ → List ℕ → List ℕ
digest_line sum name = encode_lower sum ++ (codes "  " ++ (name ++ codes "\n"))

-- the stored digest, if there is one, is that of these bytes
abbrev pub IsDigestOf : Option (List ℕ) → List ℕ → Type 0
IsDigestOf (Some sum) bytes = sum ≡ sha256 bytes
IsDigestOf None bytes = Unit {0}
