-- A question of JSON is one line of a session (own).
use Rattle.std.specs.Prelude.{◌≡◌, ℕ, List, [], ◌∷◌, Option, Some, None, Ok, IsSomeAnd}
use Rattle.nmvs_identifier.specs.Tag.{Tag}
use Rattle.nmvs_stream.specs.InputLines.{input_lines}
use Rattle.nmvs_messages.specs.Fields.{fields_in}
use Rattle.nmvs_protocol.specs.Tags.{behind_tag, tag_of}
use Rattle.nmvs_json.specs.declared.asked_kind.AskedKind.{AskedKind}
use Rattle.nmvs_json.specs.declared.subject.Subject.{Subject}
use Rattle.nmvs_json.specs.Questions.{fields_of, object_in, question_line}

-- the tag that a key is
abbrev pub key_tag : Option (List ℕ) → Option Tag
key_tag None = None
key_tag (Some key) = Some (record { bytes = key })

-- the fields of a line, after its tag if there is one
abbrev pub fields_behind : Option Tag → List ℕ → List (List ℕ)
fields_behind None line = fields_in line
fields_behind (Some tag) line = fields_in (behind_tag tag line)

-- these bytes are one line, with this tag, and these fields after it
pub record IsOneLine (bytes : List ℕ) (tag : Option Tag) (fields : List (List ℕ)) : Type 0 where
  pub line : List ℕ
  pub one : input_lines bytes ≡ line ∷ []
  pub tagged : tag_of line ≡ tag
  pub behind : fields_behind tag line ≡ fields

-- a question of JSON is one line, with the key as its tag. Its fields are the user, the word and the texts of the
-- body's members.
abbrev pub IsAskedByOneLine : Type 0
IsAskedByOneLine =
    (kind : AskedKind) (key : Option (List ℕ)) (body : List ℕ) (question : Subject × List ℕ) → question_line kind key body ≡ Ok question
    → IsSomeAnd (object_in body) (λ object. IsSomeAnd (fields_of 1 kind object) (λ fields. IsOneLine question.1 (key_tag key) fields))
