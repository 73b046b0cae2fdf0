-- What is kept of a log that was judged, as one line of JSON without blanks (own).
use Rattle.std.specs.Prelude.{ℕ, List, ◌++◌, codes, decimal}
use Rattle.hex.specs.Hex.{encode_lower}
use Rattle.nmvs_alerts.specs.declared.witness.Witness.{Witness}

-- the number of the version, the numbers of entries and of bytes, the digest's hexadecimal digits in lower case, and LF
abbrev pub witness_line : Witness → List ℕ
witness_line w =
    codes "[1," ++ (decimal w.entries ++ (codes "," ++ (decimal w.bytes ++ (codes ",\"" ++ (encode_lower w.digest ++ codes "\"]\n")))))
