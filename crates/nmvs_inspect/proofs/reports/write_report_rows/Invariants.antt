use Rattle.std.proofs.Common.{take}
use Rattle.nmvs_inspect.specs.Gathering.{IsGathered}
use Rattle.nmvs_inspect.specs.Reports.{rows_text}
use Rattle.nmvs_inspect.proofs.reports.write_report_rows.Given as goal

abbrev pub invariant-loop-code : goal.invariant-loop-code
invariant-loop-code g l =
    IsGathered (g.W.Sink.taken l.fn.sink) (g.W.Sink.taken l.sink) l.block.items (rows_text l.shard (take l.code-index l.codes))
