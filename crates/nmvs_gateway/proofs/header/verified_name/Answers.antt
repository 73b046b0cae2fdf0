use Rattle.std.proofs.Common.{rules}
use Rattle.nmvs_gateway.proofs.Certificates.{no_tls, nobody_there, none_then}
use Rattle.nmvs_gateway.proofs.header.verified_name.Goals as goal

pub returns-in_err-tls-clause-none : goal.returns-in_err-tls-clause-none
returns-in_err-tls-clause-none c =
    let none = no_tls c.args.addresses c.args.content.now c.in_ok-values.values.now c.in_ok-values.ensures.cases.2 c.in_err-tls.ensures.none in
    search (rules, none)

pub returns-clause-none : goal.returns-clause-none
returns-clause-none c =
    none_then c.name_in.result (nobody_there c.args.addresses c.args.content.now c.in_ok-values.values.now c.in_ok-tls.tls.now c.in_ok-values.ensures.cases.2 c.in_ok-tls.ensures.some) c.name_in.ensures.none
