use Rattle.nmvs_gateway.proofs.NameBytes.{no_name}
use Rattle.nmvs_gateway.proofs.header.read_name.Goals as goal

pub returns-in-Err-clause-none : goal.returns-in-Err-clause-none
returns-in-Err-clause-none c = no_name c.args.bytes.now c.in-Err.ensures.cases.0
