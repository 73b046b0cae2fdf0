use Rattle.std.proofs.Common.{◌≡◌, ◌∙◌, ◌∷◌, [], Bool, true, false, Some, None, cond, not, refl, sym}
use Rattle.std.proofs.lemmas.Slice.Eq.{bytes_eq-Decides}
use Rattle.std.specs.Str.{bytes_eq}
use Rattle.nmvs_words.specs.declared.question_kind.QuestionKind.TheVariants.{OfPack}
use Rattle.nmvs_words.specs.Kinds.{kind_word}
use Rattle.nmvs_messages.specs.declared.ask.LineFault.TheVariants as fault
use Rattle.nmvs_protocol.specs.Lines.{if_word}
use Rattle.nmvs_protocol.proofs.lines.read_conditional.Goals as goal

is_true : (b : Bool) → not b ≡ false → b ≡ true
is_true true h = refl
is_true false h = cc

pub returns-clause-fields : goal.returns-clause-fields
returns-clause-fields c =
    let is = is_true (bytes_eq c.args.word.now if_word) (sym c.ne.ensures ∙ c.if-ne.false) in
    let word : if_word ≡ c.args.word.now = sym ((bytes_eq-Decides c.args.word.now if_word).0 is) in
    λ i. c.in_ok-user.ensures.read.0 i ∷ kind_word (OfPack c.args.asked) ∷ c.in_ok-code.ensures.read.0 i ∷ c.in_ok-serial.ensures.read.0 i ∷ word i ∷ c.in_ok-batch.ensures.read.0 i ∷ c.in_ok-expiry.ensures.read.0 i ∷ []

pub returns-clause-fault : goal.returns-clause-fault
returns-clause-fault c =
    let is = is_true (bytes_eq c.args.word.now if_word) (sym c.ne.ensures ∙ c.if-ne.false) in
    sym (λ i. cond (is i) (cond (not (c.in_ok-user.ensures.read.1 i)) (Some fault.User)
    (cond (c.in_ok-code.ensures.read.1 i) (cond (c.in_ok-serial.ensures.read.1 i) (cond (c.in_ok-batch.ensures.read.1 i) (cond (c.in_ok-expiry.ensures.read.1 i) None (Some fault.Expiry)) (Some fault.Batch)) (Some fault.Serial)) (Some fault.Code))) (Some fault.Fields))
