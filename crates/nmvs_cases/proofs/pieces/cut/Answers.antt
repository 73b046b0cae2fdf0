use Rattle.nmvs_cases.proofs.PieceLemmas.{cut-as}
use Rattle.nmvs_cases.proofs.pieces.cut.Goals as goal

pub returns : goal.returns
returns c = cut-as c.args.mark c.args.text.now c.split_once.result c.split_once.ensures.cases c.requires
