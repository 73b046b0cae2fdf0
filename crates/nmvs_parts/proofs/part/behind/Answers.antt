use Rattle.std.proofs.Common.{◌≡◌, ◌+◌, ◌-◌, ◌∙◌, drop, length, length-drop, rules, arith}
use Rattle.std.proofs.lemmas.List.{take_all}
use Rattle.nmvs_parts.specs.Part.{behind}
use Rattle.nmvs_parts.proofs.LineCodes.{behind-at, behind-none}
use Rattle.nmvs_parts.proofs.part.behind.Goals as goal

pub returns-in-Some : goal.returns-in-Some
returns-in-Some c =
    let found = c.in-Some.ensures in
    let bytes = c.args.bytes.now in
    let next = c.in-Some.place + 1 in
    let is : drop next bytes ≡ behind c.args.byte bytes =
    behind-at c.args.byte bytes c.in-Some.place found.0.high (λ j l. found.0.before j (omega arith) l) found.1 in
    let left = length-drop next bytes in
    take_all (length bytes - next) (drop next bytes) (omega (arith, left)) ∙ is

pub returns-in-None : goal.returns-in-None
returns-in-None c =
    let none = behind-none c.args.byte c.args.bytes.now (λ j l. c.in-None.ensures j (omega arith) l) in
    first_of (search (rules, none), cc none)
