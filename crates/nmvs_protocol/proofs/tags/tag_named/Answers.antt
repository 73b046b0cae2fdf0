use Rattle.std.proofs.Common.{◌-◌, length, drop, sym, subst, arith}
use Rattle.std.proofs.lemmas.List.{take_all, length-drop}
use Rattle.std.specs.Str.{IsUtf8}
use Rattle.nmvs_protocol.proofs.TagLemmas.{no_text}
use Rattle.nmvs_protocol.proofs.tags.tag_named.Goals as goal

pub returns-in-Err : goal.returns-in-Err
returns-in-Err c =
    let field = c.args.field.now in
    let name = take_all (length field - 1) (drop 1 field) (omega (arith, length-drop 1 field)) in
    sym (no_text field (λ text. c.in-Err.ensures.cases.0 (subst IsUtf8 (sym name) text)))
