use Rattle.std.proofs.Common.{refl}
use Rattle.nmvs_rules.specs.declared.reply.Reply.TheVariants.{Authentic}
use Rattle.nmvs_rules.proofs.RepeatLaws.{told-now}
use Rattle.nmvs_rules.proofs.VerificationLemmas.{verification-exact}
use Rattle.nmvs_rules.proofs.laws.repeats.states_are_current.Goals as goal

pub returns-clause-state : goal.returns-clause-state
returns-clause-state c = told-now

pub returns-clause-authentic : goal.returns-clause-authentic
returns-clause-authentic c t q p b x expired is told =
    ((verification-exact t q p b x expired is).0 (told-now t q (Authentic b x expired) refl told)).1
