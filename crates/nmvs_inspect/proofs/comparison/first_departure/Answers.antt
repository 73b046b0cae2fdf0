use Rattle.std.proofs.Common.{rules, ◌≡◌, ◌∙◌, ◌+◌, ◌∷◌, ◌++◌, [], List, ap, sym, subst, arith, Some, None, take, cond, refl, slice_get, get_or}
use Rattle.std.proofs.lemmas.List.{take_more, take_all}
use Rattle.std.proofs.lemmas.Option.{get_or_from_slice_get, slice_get_within}
use Rattle.nmvs_identifier.specs.ProductCode.{ProductCode}
use Rattle.nmvs_rules.specs.declared.entry.Entry.{Entry}
use Rattle.nmvs_rules.specs.Questions.{code_of}
use Rattle.nmvs_inspect.specs.Comparison.{GoesOn, Departs, HasPassed, head_of, same_code}
use Rattle.nmvs_inspect.specs.declared.comparison.Departure.{Departure}
use Rattle.nmvs_inspect.proofs.ComparisonLemmas.{HasPassed-start, HasPassed-step, GoesOn-passed, found-there, Departs-not}
use Rattle.nmvs_inspect.proofs.comparison.first_departure.Goals as goal

pub loop-place-init : goal.loop-place-init
loop-place-init g c = HasPassed-start c.in_ok-walk.walk c.args.new.now c.in_ok-walk.ensures

pub returns-then-not-is_found-clause-first : goal.returns-then-not-is_found-clause-first
returns-then-not-is_found-clause-first g c =
    let old = c.args.old.now in
    let new = c.args.new.now in
    let w = c.loop-place.walk in
    let i = c.loop-place.place in
    let e = c.unwrap-entry.result in
    let stands : slice_get old i ≡ Some e = sym c.entry_at.ensures ∙ c.unwrap-entry.ensures in
    let named : c.code-code.result ≡ code_of e.put.question = c.code-code.ensures in
    let at : c.head-at.result ≡ head_of w (code_of e.put.question) = c.head-at.ensures ∙ ap (head_of w) named in
    let found : c.entry_at-found.result ≡ slice_get new c.head-at.result = c.entry_at-found.ensures in
    record {
      place = i;
      number = refl;
      stands = stands;
      before = GoesOn-passed w (take i old) new c.loop-place.invariant;
      found = found ∙ ap (slice_get new) at ∙ found-there w (take i old) new e c.loop-place.invariant;
      other = search rules;
    }

pub returns-then-not-is_found-clause-goes_on : goal.returns-then-not-is_found-clause-goes_on
returns-then-not-is_found-clause-goes_on g c =
    let d : Departure = record { number = c.loop-place.place + 1; entry = c.unwrap-entry.result; found = c.entry_at-found.result } in
    let departs : Departs c.args.old.now c.args.new.now d = returns-then-not-is_found-clause-first g c in
    (λ none. absurd (let e : Some d ≡ None = none in cc), λ on. absurd (departs.other (Departs-not c.args.old.now c.args.new.now d departs on)))

pub loop-place-preserved : goal.loop-place-preserved
loop-place-preserved g c =
    let old = c.args.old.now in
    let new = c.args.new.now in
    let w = c.loop-place.walk in
    let v = c.pass.new.walk in
    let i = c.loop-place.place in
    let e = c.unwrap-entry.result in
    let stands : slice_get old i ≡ Some e = sym c.entry_at.ensures ∙ c.unwrap-entry.ensures in
    let named : c.code-code.result ≡ code_of e.put.question = c.code-code.ensures in
    let at : c.head-at.result ≡ head_of w (code_of e.put.question) = c.head-at.ensures ∙ ap (head_of w) named in
    let found : c.entry_at-found.result ≡ slice_get new c.head-at.result = c.entry_at-found.ensures in
    let same : c.entry_at-found.result ≡ Some e = search rules in
    let there : slice_get new (head_of w (code_of e.put.question)) ≡ Some e = sym (found ∙ ap (slice_get new) at) ∙ same in
    let heads : (q : ProductCode) → head_of v q ≡ cond (same_code (code_of e.put.question) q) (get_or w.nexts.items (head_of w (code_of e.put.question)) 0) (head_of w q) =
    λ q. c.in_ok-pass.ensures.heads q ∙ (λ j. cond (same_code (named j) q) (get_or w.nexts.items (at j) 0) (head_of w q)) in
    let more : take i old ++ e ∷ [] ≡ take (i + 1) old =
    sym (take_more old i e (slice_get_within old i e stands) ∙ ap (λ (x : Entry). take i old ++ x ∷ []) (get_or_from_slice_get old i e e stands)) in
    subst (λ (xs : List Entry). HasPassed v xs new) more (HasPassed-step w v (take i old) new e c.loop-place.invariant there heads c.in_ok-pass.ensures.nexts)

pub returns-clause-goes_on : goal.returns-clause-goes_on
returns-clause-goes_on g c =
    let old = c.args.old.now in
    let w = c.loop-place.walk in
    let i = c.loop-place.place in
    let all : take i old ≡ old = take_all i old (omega (arith, c.loop-place-test.false, c.len-place-end.ensures.len)) in
    (λ none. subst (λ (xs : List Entry). GoesOn xs c.args.new.now) all (GoesOn-passed w (take i old) c.args.new.now c.loop-place.invariant), λ on. refl)
