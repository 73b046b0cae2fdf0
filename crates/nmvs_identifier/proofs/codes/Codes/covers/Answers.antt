use Rattle.std.proofs.Common.{◌≡◌, rules, lit<}
use Rattle.std.proofs.lemmas.Iterator.Search.{any_from_yields_List}
use Rattle.std.proofs.lemmas.Iterator.Splits.{YieldsList-from_str_split}
use Rattle.nmvs_identifier.specs.Codes.{is_named_by}
use Rattle.nmvs_identifier.proofs.codes.Codes.covers.Goals as goal

pub returns : goal.returns
returns c =
    let digits : c.as_bytes-digits.result.now ≡ c.args.code.now.bytes = search rules in
    any_from_yields_List (is_named_by c.args.code.now.bytes) _ _ c.any.result c.any.ensures.ran
    (YieldsList-from_str_split 44 c.args.self.now.bytes (lit< tt) (search rules) c.split.ensures.has_more c.split.ensures.pattern)
    (λ x b q k. search (rules, digits))
