use Rattle.std.proofs.Common.{◌≡◌, ◌∷◌, ◌∙◌, List, ℕ, Some, sym, subst, rules}
use Rattle.std.specs.Prelude.{IfOk}
use Rattle.nmvs_words.specs.declared.question_kind.QuestionKind.TheVariants.{Upload, OfPack, OfBatch}
use Rattle.nmvs_words.specs.Kinds.{kind_named}
use Rattle.nmvs_words.proofs.WordLemmas.{kind_named-word}
use Rattle.nmvs_messages.proofs.FieldLemmas.{two, four, five}
use Rattle.nmvs_protocol.specs.Lines.{asked_fields, question_fault}
use Rattle.nmvs_protocol.proofs.lines.read_question.Goals as goal

pub returns-in-Upload-len4 : goal.returns-in-Upload-len4
returns-in-Upload-len4 c =
    let kind : kind_named c.args.word.now ≡ Some Upload = search rules in
    let word = sym (kind_named-word c.args.word.now Upload kind) in
    let given = sym (four c.args.texts.now _ _ _ _ c.in-Upload-len4.len_at_least c.in-Upload-len4.len_below) in
    record {
      fields = subst (λ (fs : List (List ℕ)). IfOk c.read_upload.result (λ a. asked_fields a ≡ c.args.user.now ∷ fs)) (λ i. word i ∷ given i) c.read_upload.ensures.fields;
      valid = c.read_upload.ensures.valid;
      fault = c.read_upload.ensures.fault ∙ (λ i. question_fault c.args.user.now (sym kind i) (given i));
    }

pub returns-in-OfPack-len2 : goal.returns-in-OfPack-len2
returns-in-OfPack-len2 c =
    let kind : kind_named c.args.word.now ≡ Some (OfPack c.in-OfPack-len2.asked) = search rules in
    let word = sym (kind_named-word c.args.word.now (OfPack c.in-OfPack-len2.asked) kind) in
    let given = sym (two c.args.texts.now _ _ c.in-OfPack-len2.len_at_least c.in-OfPack-len2.len_below) in
    record {
      fields = subst (λ (fs : List (List ℕ)). IfOk c.read_of_pack.result (λ a. asked_fields a ≡ c.args.user.now ∷ fs)) (λ i. word i ∷ given i) c.read_of_pack.ensures.fields;
      valid = c.read_of_pack.ensures.valid;
      fault = c.read_of_pack.ensures.fault ∙ (λ i. question_fault c.args.user.now (sym kind i) (given i));
    }

pub returns-in-OfPack-len5 : goal.returns-in-OfPack-len5
returns-in-OfPack-len5 c =
    let kind : kind_named c.args.word.now ≡ Some (OfPack c.in-OfPack-len5.asked) = search rules in
    let word = sym (kind_named-word c.args.word.now (OfPack c.in-OfPack-len5.asked) kind) in
    let given = sym (five c.args.texts.now _ _ _ _ _ c.in-OfPack-len5.len_at_least c.in-OfPack-len5.len_below) in
    record {
      fields = subst (λ (fs : List (List ℕ)). IfOk c.read_conditional.result (λ a. asked_fields a ≡ c.args.user.now ∷ fs)) (λ i. word i ∷ given i) c.read_conditional.ensures.fields;
      valid = c.read_conditional.ensures.valid;
      fault = c.read_conditional.ensures.fault ∙ (λ i. question_fault c.args.user.now (sym kind i) (given i));
    }

pub returns-in-OfBatch-len2 : goal.returns-in-OfBatch-len2
returns-in-OfBatch-len2 c =
    let kind : kind_named c.args.word.now ≡ Some (OfBatch c.in-OfBatch-len2.asked) = search rules in
    let word = sym (kind_named-word c.args.word.now (OfBatch c.in-OfBatch-len2.asked) kind) in
    let given = sym (two c.args.texts.now _ _ c.in-OfBatch-len2.len_at_least c.in-OfBatch-len2.len_below) in
    record {
      fields = subst (λ (fs : List (List ℕ)). IfOk c.read_of_batch.result (λ a. asked_fields a ≡ c.args.user.now ∷ fs)) (λ i. word i ∷ given i) c.read_of_batch.ensures.fields;
      valid = c.read_of_batch.ensures.valid;
      fault = c.read_of_batch.ensures.fault ∙ (λ i. question_fault c.args.user.now (sym kind i) (given i));
    }
