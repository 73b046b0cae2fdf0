-- The kinds of questions, their words and their texts (own).
use Rattle.std.specs.Prelude.{ℕ, List, [], ◌∷◌, codes, find, Option}
use Rattle.std.specs.Str.{bytes_eq}
use Rattle.nmvs_rules.specs.declared.reason.Reason.TheVariants as reason
use Rattle.nmvs_rules.specs.declared.question.Question.{Question}
use Rattle.nmvs_rules.specs.declared.question.Question.TheVariants as question
use Rattle.nmvs_rules.specs.declared.pack_question.PackQuestion.TheVariants.{Verify, Status, Decommission, Handover, Revert, Theft, Audit}
use Rattle.nmvs_rules.specs.declared.batch_question.BatchQuestion.TheVariants.{Recall, Withdraw}
use Rattle.nmvs_words.specs.declared.question_kind.QuestionKind.{QuestionKind}
use Rattle.nmvs_words.specs.declared.question_kind.QuestionKind.TheVariants.{Upload, OfPack, OfBatch}
use Rattle.nmvs_words.specs.Words.{reason_word}

-- the word of a kind
abbrev pub kind_word : QuestionKind → List ℕ
kind_word Upload = codes "UPLOAD"
kind_word (OfPack Verify) = codes "VERIFY"
kind_word (OfPack Status) = codes "STATUS"
kind_word (OfPack (Decommission r)) = reason_word r
kind_word (OfPack Handover) = codes "HANDOVER"
kind_word (OfPack Revert) = codes "REVERT"
kind_word (OfPack Theft) = codes "THEFT"
kind_word (OfPack Audit) = codes "AUDIT"
kind_word (OfBatch Recall) = codes "RECALL"
kind_word (OfBatch Withdraw) = codes "WITHDRAW"

-- all kinds
abbrev pub kinds : List QuestionKind
kinds =
    Upload ∷ OfPack Verify ∷ OfPack Status
    ∷ OfPack (Decommission reason.Supply) ∷ OfPack (Decommission reason.Hold) ∷ OfPack (Decommission reason.Export)
    ∷ OfPack (Decommission reason.Sample) ∷ OfPack (Decommission reason.Destroy)
    ∷ OfPack Handover ∷ OfPack Revert ∷ OfPack Theft ∷ OfPack Audit ∷ OfBatch Recall ∷ OfBatch Withdraw ∷ []

-- the kind that has a word
abbrev pub kind_named : List ℕ → Option QuestionKind
kind_named w = find (λ k. bytes_eq w (kind_word k)) kinds

-- the kind of a question
abbrev pub kind_of : Question → QuestionKind
kind_of (question.Upload p b x) = Upload
kind_of (question.OfPack asked p) = OfPack asked
kind_of (question.OfBatch asked c b) = OfBatch asked

-- the texts that a question names, in the order in which they are written
abbrev pub texts_of : Question → List (List ℕ)
texts_of (question.Upload p b x) = p.code.bytes ∷ p.serial.bytes ∷ b.bytes ∷ x.bytes ∷ []
texts_of (question.OfPack asked p) = p.code.bytes ∷ p.serial.bytes ∷ []
texts_of (question.OfBatch asked c b) = c.bytes ∷ b.bytes ∷ []
