use Rattle.nmvs_reception.proofs.journal_desk.JournalDeskDesk.release.Goals as goal

pub returns-clause-released : goal.returns-clause-released
returns-clause-released g c = rw (← c.self.view_is) c.release_by.ensures.released
