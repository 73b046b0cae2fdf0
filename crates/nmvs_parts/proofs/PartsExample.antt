-- The lines of parts, of a small export in eight parts.
use Rattle.std.proofs.Common.{◌≡◌, ℕ, List, [], ◌∷◌, map, Option, Some, None, refl}
use Rattle.std.specs.Prelude.{codes}
use Rattle.nmvs_identifier.specs.ProductCode.{ProductCode}
use Rattle.nmvs_parts.specs.Part.{code_in, own_lines}

-- lines of versions 2, 1 and 3, and one with a wrong check digit
abbrev verify : List ℕ
verify = codes "[2,1767225600,\"ph1\",\"PHARMACY\",\"PH-1\",\"P1\",[\"VERIFY\",\"09506000134352\",\"SN1\"],[\"ALERT\",\"UNKNOWN\",\"FLAGGED\",1]]"

abbrev recall : List ℕ
recall = codes "[1767225600,\"mah1\",\"HOLDER\",\"MAH-1\",\"HQ\",[\"RECALL\",\"04012345678901\",\"B1\"],[\"REFUSED\",3]]"

abbrev supply : List ℕ
supply = codes "[3,1767225600,\"ph1\",\"PHARMACY\",\"PH-1\",\"P1\",[\"SUPPLY\",\"09506000134352\",\"[\\\"\"],[\"ALERT\",\"UNKNOWN\",\"FLAGGED\",2],\"a17\"]"

abbrev wrong : List ℕ
wrong = codes "[2,1767225600,\"ph1\",\"PHARMACY\",\"PH-1\",\"P1\",[\"VERIFY\",\"09506000134353\",\"SN1\"],[\"NOPACK\"]]"

abbrev code : List ℕ → Option ProductCode
code digits = Some (record { bytes = digits })

abbrev lines : List (List ℕ)
lines = verify ∷ recall ∷ wrong ∷ supply ∷ codes "{}" ∷ []

found : map code_in lines ≡ code (codes "09506000134352") ∷ code (codes "04012345678901") ∷ None ∷ code (codes "09506000134352") ∷ None ∷ []
found = refl

abbrev own : ℕ → List (List ℕ)
own index = own_lines (record { index = index; count = 8 }) lines

-- 352 is 0 modulo 8, and 901 is 5; a line without a product code is each part's own
zeroth : own 0 ≡ verify ∷ wrong ∷ supply ∷ codes "{}" ∷ []
zeroth = refl

fifth : own 5 ≡ recall ∷ wrong ∷ codes "{}" ∷ []
fifth = refl

last : own 7 ≡ wrong ∷ codes "{}" ∷ []
last = refl
