use Rattle.std.proofs.Common.{◌≡◌, ◌++◌, List, length, map}
use Rattle.nmvs_messages.specs.declared.answer.Answer.{Answer}
use Rattle.nmvs_protocol.specs.Progress.{Gathers}
use Rattle.nmvs_protocol.specs.Texts.{bare, ends_with_reply}
use Rattle.nmvs_protocol.proofs.session.write_texts.Given as goal

abbrev pub invariant-loop-answer : goal.invariant-loop-answer
invariant-loop-answer g l =
    (before : List Answer) × (before ++ l.rest ≡ l.fn.released) × Gathers (g.W.Sink.taken l.fn.sink) (g.W.Sink.taken l.sink) (map bare before) × (l.replied ≡ ends_with_reply before)

abbrev pub decreases-loop-answer : goal.decreases-loop-answer
decreases-loop-answer g l = length l.rest
