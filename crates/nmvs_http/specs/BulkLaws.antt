-- A bulk of questions is their lines, and the response has the bodies of the answers to them (own).
use Rattle.std.specs.Prelude.{◌≡◌, ℕ, List, [], ◌∷◌, ◌++◌, map, codes, Option, Some, Ok, IsSomeAnd, option_and_then}
use Rattle.std.specs.List.{AllByRecursion}
use Rattle.json.specs.Json.{Json}
use Rattle.nmvs_stream.specs.InputLines.{HasNoLf, input_lines}
use Rattle.nmvs_messages.specs.declared.answer.Answer.{Answer}
use Rattle.nmvs_protocol.specs.Session.{session_text}
use Rattle.nmvs_protocol.specs.Tags.{tag_of}
use Rattle.nmvs_protocol.specs.Texts.{text}
use Rattle.nmvs_json.specs.declared.subject.Subject.{Subject}
use Rattle.nmvs_json.specs.Bulks.{bulk_lines, item_fields, item_key, item_subject, items_in, others_of}
use Rattle.nmvs_json.specs.Questions.{object_in}
use Rattle.nmvs_json.specs.Replies.{body_text, bulk_text, separated}
use Rattle.nmvs_http.specs.OneLine.{fields_behind, key_tag}

-- the line of an item has its key as the tag, and its fields after that
pub record IsLineOf (item : Json) (line : List ℕ) : Type 0 where
  pub key : Option (List ℕ)
  pub fields : List (List ℕ)
  pub key_is : item_key item ≡ Some key
  pub fields_are : item_fields (others_of key) item ≡ Some fields
  pub tagged : tag_of line ≡ key_tag key
  pub behind : fields_behind (key_tag key) line ≡ fields

-- these lines are those of these items, one each, in order
abbrev pub AreLinesOf : List Json → List (List ℕ) → Type 0
AreLinesOf [] [] = Unit {0}
AreLinesOf (item ∷ items) (line ∷ lines) = IsLineOf item line × AreLinesOf items lines
AreLinesOf _ _ = ⊥

-- a bulk asks the lines of its items, each with its subject
abbrev pub IsAskedByLines : Type 0
IsAskedByLines =
    (body : List ℕ) (bulk : List Subject × List ℕ) → bulk_lines body ≡ Ok bulk
    → IsSomeAnd (option_and_then items_in (object_in body)) (λ items. (bulk.0 ≡ map item_subject items) × AreLinesOf items (input_lines bulk.1))

-- the text of an answer is one line, as of each that is no list
pub record IsLineText (t : List ℕ) : Type 0 where
  pub line : List ℕ
  pub no_lf : HasNoLf line
  pub whole : t ≡ line ++ 10 ∷ []

-- the response to a bulk has the body of each answer, in order, as the response to one question with this subject has
-- it. A question without an answer has the body of no answer.
abbrev pub IsAnsweredByBodies : Type 0
IsAnsweredByBodies =
    (said : List (Subject × Answer)) (missing : List Subject) → AllByRecursion (λ (a : Subject × Answer). IsLineText (text a.1)) said
    → bulk_text (map (λ (a : Subject × Answer). a.0) said ++ missing) (session_text (map (λ (a : Subject × Answer). a.1) said))
    ≡ codes "{\"replies\":[" ++ (separated [] (map (λ (a : Subject × Answer). body_text a.0 (text a.1)) said ++ map (λ subject. body_text subject []) missing) ++ codes "]}\n")
