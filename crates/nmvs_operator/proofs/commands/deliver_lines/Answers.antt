use Rattle.std.proofs.Common.{rules, codes}
use Rattle.nmvs_operator.proofs.ReloadLemmas.{part_of_more}
use Rattle.nmvs_operator.proofs.commands.deliver_lines.Goals as goal

pub returns-in_err-write_all-clause-err : goal.returns-in_err-write_all-clause-err
returns-in_err-write_all-clause-err g c =
    let part = part_of_more c.as_bytes.result.now (codes "DONE\n") c.in_err-write_all.ensures.err in
    search (rules, part)
