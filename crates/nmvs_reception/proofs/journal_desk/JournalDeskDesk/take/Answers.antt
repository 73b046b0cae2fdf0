use Rattle.nmvs_reception.proofs.DeskTurns.{grows, reaches, within_more}
use Rattle.nmvs_reception.proofs.journal_desk.JournalDeskDesk.take.Goals as goal

pub invariant_of-self : goal.invariant_of-self
invariant_of-self g c =
    let old = c.self.inside.desk in
    let new = c.answer-answer.new.self in
    let said = c.answer-answer.result in
    let serves = c.answer-answer.ensures.serves in
    let grown = within_more c.self.inside.reach old.clerk.sights new.clerk.sights (grows old c.args.from.now c.args.ask.now said.0 said.1 new serves) c.self.invariant in
    c.note_answer.ensures.within new.clerk.sights grown (reaches old c.args.from.now c.args.ask.now said.0 said.1 new serves)
