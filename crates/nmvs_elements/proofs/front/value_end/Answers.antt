use Rattle.std.proofs.Common.{length, arith}
use Rattle.nmvs_elements.proofs.Runs.{run_before}
use Rattle.nmvs_elements.proofs.front.value_end.Goals as goal

pub returns-in-Some-clause-one_piece : goal.returns-in-Some-clause-one_piece
returns-in-Some-clause-one_piece c =
    let first = c.in-Some.ensures.0 in
    run_before c.args.content.now c.in-Some.end (omega (arith, first.high)) (λ k below. first.before k (omega arith) below)

pub returns-in-None-clause-one_piece : goal.returns-in-None-clause-one_piece
returns-in-None-clause-one_piece c =
    run_before c.args.content.now (length c.args.content.now) (omega arith) (λ k below. c.in-None.ensures k (omega arith) below)
