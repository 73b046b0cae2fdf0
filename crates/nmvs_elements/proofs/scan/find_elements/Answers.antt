use Rattle.std.proofs.Common.{◌<◌, ◌≢◌, [], length, rules, sym, ap, arith}
use Rattle.std.proofs.lemmas.Bool.Decides.{nat_tests}
use Rattle.nmvs_elements.proofs.Reading.{goes_on, rest_within, stops_there, stops_repeated}
use Rattle.nmvs_elements.proofs.scan.find_elements.Goals as goal

pub unknown_at-unknown-requires : goal.unknown_at-unknown-requires
unknown_at-unknown-requires c = omega (arith, rest_within c.args.nation c.args.string.now _ c.loop-found.rest.now c.loop-found.invariant, c.requires)

pub returns-in_err-identifier-clause-err : goal.returns-in_err-identifier-clause-err
returns-in_err-identifier-clause-err c =
    let some : 0 < length c.loop-found.rest.now = grind (arith, nat_tests) in
    let there : c.loop-found.rest.now ≢ [] = λ e. omega (arith, ap length e, some) in
    let stops = stops_there c.args.nation c.args.size c.args.string.now _ c.loop-found.rest.now c.unknown_at-unknown.result c.in_err-identifier.field-0.0 c.loop-found.invariant there
    c.unknown_at-unknown.ensures c.in_err-identifier.ensures.err in
    search (rules, stops)

pub returns-then-has-clause-err : goal.returns-then-has-clause-err
returns-then-has-clause-err c =
    stops_repeated c.args.nation c.args.size c.args.string.now _ c.loop-found.rest.now c.in_ok-identifier.identifier c.in_ok-identifier.value.now c.in_ok-identifier.behind.now
    c.loop-found.invariant c.in_ok-identifier.ensures.ok (sym c.if-has.ensures)

pub loop-found-preserved : goal.loop-found-preserved
loop-found-preserved c =
    goes_on c.args.nation c.args.string.now _ c.with-found.result c.loop-found.rest.now c.in_ok-identifier.identifier c.in_ok-identifier.value.now c.in_ok-identifier.behind.now
    c.loop-found.invariant c.in_ok-identifier.ensures.ok (sym c.if-has.ensures) c.with-found.ensures
