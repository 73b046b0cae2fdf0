-- A batch or lot number, application identifier 10: 1 to 20 characters of set 82 (Article 4(b)(iv)).
use Rattle.std.specs.Prelude.{ℕ, Bool, List}
use Rattle.nmvs_identifier.specs.Characters.{is_set_82_text}
use Rattle.nmvs_identifier.specs.Texts.{Text}

-- the model of a batch number
abbrev pub Batch : Type 0
Batch = Text

-- whether a text is a batch number
abbrev pub is_batch : List ℕ → Bool
is_batch t = is_set_82_text t
