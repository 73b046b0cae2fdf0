use Rattle.std.proofs.Common.{rules, ◌≡◌, ℕ, List, Some}
use Rattle.nmvs_elements.specs.Found.{now_of}
use Rattle.nmvs_elements.proofs.TextFacts.{no_code}
use Rattle.nmvs_elements.proofs.values.code_of.Goals as goal

pub returns-in_err-text_of-clause-none : goal.returns-in_err-text_of-clause-none
returns-in_err-text_of-clause-none c =
    let none = λ (v : List ℕ) (is : now_of c.args.value ≡ Some v). no_code v (c.in_err-text_of.ensures.none v is) in
    search (rules, none)
