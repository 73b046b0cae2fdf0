-- The parts of a line of an act, in which it is written (own).
use Rattle.std.specs.Prelude.{ℕ, Bool, true, false, List, [], ◌∷◌, ◌++◌, codes, decimal, Option}
use Rattle.std.specs.List.{flat_map}
use Rattle.nmvs_identifier.specs.Tag.{Tag}
use Rattle.nmvs_cases.specs.declared.act.Act.{Act}
use Rattle.nmvs_cases.specs.declared.author.Author.{Author}
use Rattle.nmvs_cases.specs.declared.line.CaseLine.{CaseLine}
use Rattle.nmvs_cases.specs.ActWords.{has_text}
use Rattle.nmvs_cases.specs.Authors.{author_authorisation, author_premises, author_role, author_user}
use Rattle.nmvs_cases.specs.CaseLines.{escaped, key_items, led, marked}

-- the texts of an author, between commas
abbrev pub authored : Author → List ℕ
authored a = led (marked (author_user a).bytes ∷ marked (author_role a) ∷ marked (author_authorisation a) ∷ marked (author_premises a) ∷ []) ++ 44 ∷ []

-- the line up to the comma after the premises
abbrev pub opening : CaseLine → List ℕ
opening l = codes "[1" ++ (led (decimal l.at ∷ decimal l.moment ∷ []) ++ authored l.author)

-- the line after the act: the key, if there is one, and the bracket
abbrev pub ending : Option Tag → List ℕ
ending k = led (key_items k) ++ 93 ∷ []

-- what follows the word of an act, and its second word: its text from its first character on, if it has one, and then the rest
abbrev pub text_rest : Bool → List ℕ → List ℕ
text_rest false t = []
text_rest true t = flat_map escaped t ++ 34 ∷ []

abbrev pub after_act : Act → List ℕ → Option Tag → List ℕ
after_act a t k = text_rest (has_text a) t ++ 93 ∷ ending k
