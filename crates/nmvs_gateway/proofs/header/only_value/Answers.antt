use Rattle.std.proofs.Common.{◌≡◌, ◌<◌, ℕ, List, length, rules, arith}
use Rattle.std.proofs.lemmas.Bool.Decides.{nat_tests}
use Rattle.nmvs_gateway.proofs.TypedValues.{passes, finds, stops, repeats, lacks}
use Rattle.nmvs_gateway.proofs.header.only_value.Goals as goal

pub returns-in_err-of_kind-clause-none : goal.returns-in_err-of_kind-clause-none
returns-in_err-of_kind-clause-none c =
    let some : 0 < length c.loop-rest.rest.now = grind (arith, nat_tests) in
    let none = λ (value : List ℕ). stops c.args.bytes.now c.loop-rest.rest.now value c.args.kind c.loop-rest.found c.loop-rest.invariant some c.in_err-of_kind.ensures.none in
    search (rules, none)

pub returns-then-is_some-clause-none : goal.returns-then-is_some-clause-none
returns-then-is_some-clause-none c = λ value.
    repeats c.args.bytes.now c.loop-rest.rest.now c.in_ok-of_kind.behind.now value c.args.kind c.loop-rest.found
    _ c.loop-rest.invariant c.in_ok-of_kind.ensures.some c.if-of_kind-kind.true c.if-is_some.ensures

pub loop-rest-preserved-else-is_some : goal.loop-rest-preserved-else-is_some
loop-rest-preserved-else-is_some c =
    finds c.args.bytes.now c.loop-rest.rest.now c.in_ok-of_kind.behind.now c.args.kind c.loop-rest.found
    c.in_ok-of_kind.of_kind c.in_ok-of_kind.value c.loop-rest.invariant c.in_ok-of_kind.ensures.some c.if-of_kind-kind.true c.if-is_some.ensures

pub loop-rest-preserved : goal.loop-rest-preserved
loop-rest-preserved c =
    passes c.args.bytes.now c.loop-rest.rest.now c.in_ok-of_kind.behind.now c.args.kind c.loop-rest.found
    _ c.loop-rest.invariant c.in_ok-of_kind.ensures.some c.if-of_kind-kind.false

pub returns-clause-none : goal.returns-clause-none
returns-clause-none c =
    let none : length c.loop-rest.rest.now ≡ 0 = grind (arith, nat_tests) in
    lacks c.args.bytes.now c.loop-rest.rest.now c.args.kind c.loop-rest.found c.loop-rest.invariant none
