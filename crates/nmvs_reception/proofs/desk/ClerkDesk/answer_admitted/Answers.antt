use Rattle.nmvs_reception.proofs.desk.ClerkDesk.answer_admitted.Goals as goal

pub returns-in-Report-clause-answers : goal.returns-in-Report-clause-answers
returns-in-Report-clause-answers g c = rw c.in-Report.is c.report.ensures.answers
