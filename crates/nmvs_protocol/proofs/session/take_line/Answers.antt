use Rattle.std.proofs.Common.{List, ℕ, subst}
use Rattle.nmvs_protocol.specs.Lines.{ReadsLine}
use Rattle.nmvs_protocol.proofs.KeptLines.{kept_reads, reads_kept}
use Rattle.nmvs_protocol.proofs.QuitLines.{quit_is_read}
use Rattle.nmvs_protocol.proofs.session.take_line.Goals as goal

pub returns-clause-takes : goal.returns-clause-takes
returns-clause-takes g c x is =
    let r = c.read_line-reading.result in
    let reads = subst (λ (t : List ℕ). ReadsLine t r) is (reads_kept c.args.line.now r c.read_line-reading.ensures) in
    record { reading = r; reads = kept_reads x r reads; answers = c.answer-withheld.ensures.answers }

pub returns-clause-quit : goal.returns-clause-quit
returns-clause-quit g c x is =
    let r = c.read_line-reading.result in
    let reads = subst (λ (t : List ℕ). ReadsLine t r) is (reads_kept c.args.line.now r c.read_line-reading.ensures) in
    quit_is_read c.is_quit.result x r (kept_reads x r reads) c.is_quit.ensures
