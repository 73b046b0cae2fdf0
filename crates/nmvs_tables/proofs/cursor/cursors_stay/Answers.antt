use Rattle.std.proofs.Common.{[]}
use Rattle.nmvs_tables.proofs.CursorLemmas.{IsCursorOf-grown, length-remaining, remaining-grown}
use Rattle.nmvs_tables.proofs.cursor.cursors_stay.Goals as goal

pub returns-clause-count : goal.returns-clause-count
returns-clause-count c = λ t cursor is. length-remaining t [] cursor is

pub returns-clause-stay : goal.returns-clause-stay
returns-clause-stay c = λ t later cursor is. (IsCursorOf-grown t later cursor is, remaining-grown t later cursor is)
