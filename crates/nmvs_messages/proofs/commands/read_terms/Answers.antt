use Rattle.std.proofs.Common.{◌≡◌, ◌<◌, ℕ, Bool, true, false, not, List, ◌∷◌, length, codes, refl, sym, ◌∙◌, map, rules, arith}
use Rattle.std.specs.Str.{bytes_eq}
use Rattle.std.proofs.lemmas.List.{length-map}
use Rattle.std.proofs.lemmas.Slice.Eq.{bytes_eq-Decides}
use Rattle.nmvs_messages.specs.Commands.{terms_fault, codes_fault}
use Rattle.nmvs_messages.proofs.CommandLemmas.{terms_fault-few}
use Rattle.nmvs_messages.proofs.FieldLemmas.{two_first}
use Rattle.nmvs_messages.proofs.commands.read_terms.Goals as goal

pub returns-in_err-read_codes-clause-fault : goal.returns-in_err-read_codes-clause-fault
returns-in_err-read_codes-clause-fault c =
    let texts = map (λ t. t.now) c.args.terms.now in
    let counted = length-map c.args.terms.now (λ t. t.now) in
    let few : length texts < 2 = omega (arith, counted, c.in_default.len_below) in
    let same : terms_fault texts ≡ codes_fault texts = terms_fault-few texts few in
    search (rules, same)

-- what is not another text is that text
same_word : (x y : List ℕ) → false ≡ not (bytes_eq x y) → x ≡ y
same_word x y is = (bytes_eq-Decides x y).0 (not_false (bytes_eq x y) is)
  where
    not_false : (b : Bool) → false ≡ not b → b ≡ true
    not_false true e = refl
    not_false false e = e

pub returns-clause-fields : goal.returns-clause-fields
returns-clause-fields c =
    let split = two_first c.args.terms.now _ _ c.in-len2-up.len_at_least in
    let word = same_word _ (codes "UNTIL") c.if-ne.ensures in
    (λ i. sym word i ∷ c.in_ok-last.ensures.kept i ∷ c.in_ok-read_codes-3.ensures.fields i) ∙ sym split
