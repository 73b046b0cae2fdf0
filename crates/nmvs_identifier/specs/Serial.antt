-- A serial number, application identifier 21: 1 to 20 characters of set 82 (Article 4(b)(ii)).
use Rattle.std.specs.Prelude.{ℕ, Bool, List}
use Rattle.nmvs_identifier.specs.Characters.{is_set_82_text}
use Rattle.nmvs_identifier.specs.Texts.{Text}

-- the model of a serial number
abbrev pub Serial : Type 0
Serial = Text

-- whether a text is a serial number
abbrev pub is_serial : List ℕ → Bool
is_serial t = is_set_82_text t
