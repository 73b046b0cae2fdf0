use Rattle.std.proofs.Common.{◌∷◌, [], Some, None, cond, not, sym}
use Rattle.nmvs_words.specs.declared.question_kind.QuestionKind.TheVariants.{OfPack}
use Rattle.nmvs_words.specs.Kinds.{kind_word}
use Rattle.nmvs_messages.specs.declared.ask.LineFault.TheVariants as fault
use Rattle.nmvs_protocol.proofs.lines.read_of_pack.Goals as goal

pub returns-clause-fields : goal.returns-clause-fields
returns-clause-fields c =
    λ i. c.in_ok-user.ensures.read.0 i ∷ kind_word (OfPack c.args.asked) ∷ c.in_ok-code.ensures.read.0 i ∷ c.in_ok-serial.ensures.read.0 i ∷ []

pub returns-clause-fault : goal.returns-clause-fault
returns-clause-fault c =
    sym (λ i. cond (not (c.in_ok-user.ensures.read.1 i)) (Some fault.User)
    (cond (c.in_ok-code.ensures.read.1 i) (cond (c.in_ok-serial.ensures.read.1 i) None (Some fault.Serial)) (Some fault.Code)))
