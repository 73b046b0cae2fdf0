-- A question is made of its kind and its texts.
use Rattle.std.proofs.Common.{◌≡◌, ℕ, List, [], ◌∷◌, Option, Some, None, refl, sym, ◌∙◌}
use Rattle.std.proofs.lemmas.Option.{same_Some}
use Rattle.nmvs_identifier.specs.Texts.{Text}
use Rattle.nmvs_rules.specs.declared.question.Question.{Question}
use Rattle.nmvs_rules.specs.declared.question.Question.TheVariants as question
use Rattle.nmvs_words.specs.declared.question_kind.QuestionKind.{QuestionKind}
use Rattle.nmvs_words.specs.declared.question_kind.QuestionKind.TheVariants.{Upload, OfPack, OfBatch}
use Rattle.nmvs_words.specs.Kinds.{kind_of, texts_of}

-- the text of these bytes
abbrev pub written : List ℕ → Text
written x = record { bytes = x }

-- the question of a kind that names these texts
abbrev question_of : QuestionKind → List (List ℕ) → Option Question
question_of Upload (c ∷ s ∷ b ∷ x ∷ []) =
    Some (question.Upload (record { code = written c; serial = written s }) (written b) (written x))
question_of (OfPack asked) (c ∷ s ∷ []) = Some (question.OfPack asked (record { code = written c; serial = written s }))
question_of (OfBatch asked) (c ∷ b ∷ []) = Some (question.OfBatch asked (written c) (written b))
question_of _ _ = None

remade : (q : Question) → question_of (kind_of q) (texts_of q) ≡ Some q
remade (question.Upload p b x) = refl
remade (question.OfPack asked p) = refl
remade (question.OfBatch asked c b) = refl

-- questions of one kind with the same texts are the same
pub same_question : (q q' : Question) → kind_of q ≡ kind_of q' → texts_of q ≡ texts_of q' → q ≡ q'
same_question q q' kind texts = same_Some q q' (sym (remade q) ∙ (λ i. question_of (kind i) (texts i)) ∙ remade q')
