use Rattle.std.proofs.Common.{length}
use Rattle.nmvs_gateway.proofs.TypedValues.{ReadSoFar}
use Rattle.nmvs_gateway.proofs.header.only_value.Given as goal

abbrev pub invariant-loop-rest : goal.invariant-loop-rest
invariant-loop-rest l = ReadSoFar l.fn.bytes l.rest l.kind l.found

abbrev pub decreases-loop-rest : goal.decreases-loop-rest
decreases-loop-rest l = length l.rest
