use Rattle.nmvs_json.proofs.LawLemmas.{all_are_placed, each_fits}
use Rattle.nmvs_json.proofs.laws.no_word_is_left_out.Goals as goal

pub returns-clause-placed : goal.returns-clause-placed
returns-clause-placed c = all_are_placed

pub returns-clause-fits : goal.returns-clause-fits
returns-clause-fits c = each_fits
