use Rattle.nmvs_json.proofs.ReplyLemmas.{first_cut, later_cut, first_whole, later_none}
use Rattle.nmvs_json.proofs.reply.cut_word.Goals as goal

pub returns-in-Some-clause-first : goal.returns-in-Some-clause-first
returns-in-Some-clause-first c = let at = c.in-Some.ensures in first_cut c.args.line.now c.in-Some.space at.0 at.1

pub returns-in-Some-clause-later : goal.returns-in-Some-clause-later
returns-in-Some-clause-later c = let at = c.in-Some.ensures in later_cut c.args.line.now c.in-Some.space at.0 at.1

pub returns-in-None-clause-first : goal.returns-in-None-clause-first
returns-in-None-clause-first c = first_whole c.args.line.now c.in-None.ensures

pub returns-in-None-clause-later : goal.returns-in-None-clause-later
returns-in-None-clause-later c = later_none c.args.line.now c.in-None.ensures
