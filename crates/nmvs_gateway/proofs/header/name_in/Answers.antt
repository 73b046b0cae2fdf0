use Rattle.std.proofs.Common.{rules}
use Rattle.nmvs_gateway.proofs.Certificates.{no_common_name, no_name_there, none_then}
use Rattle.nmvs_gateway.proofs.header.name_in.Goals as goal

pub returns-in_err-only_value-clause-none : goal.returns-in_err-only_value-clause-none
returns-in_err-only_value-clause-none c =
    let none = no_common_name c.args.tls.now c.in_err-only_value.ensures.none in
    search (rules, none)

pub returns-clause-none : goal.returns-clause-none
returns-clause-none c =
    none_then c.read_name.result (no_name_there c.args.tls.now c.in_ok-only_value.field-0.now c.in_ok-only_value.ensures.some) c.read_name.ensures.none
