use Rattle.std.proofs.Common.{rules, ◌≡◌, ℕ, List, Some}
use Rattle.nmvs_identifier.specs.Expiry.{is_expiry}
use Rattle.nmvs_elements.specs.Found.{now_of}
use Rattle.nmvs_elements.proofs.TextFacts.{no_expiry, refused}
use Rattle.nmvs_elements.proofs.values.expiry_of.Goals as goal

pub returns-in_err-text_of-clause-none : goal.returns-in_err-text_of-clause-none
returns-in_err-text_of-clause-none c =
    let none = λ (v : List ℕ) (is : now_of c.args.value ≡ Some v). no_expiry v (c.in_err-text_of.ensures.none v is) in
    search (rules, none)

pub returns-clause-none : goal.returns-clause-none
returns-clause-none c =
    refused is_expiry c.read.result c.ok.result (now_of c.args.value) c.in_ok-text_of.field-0.now c.ok.ensures.variant c.read.ensures.accepts c.in_ok-text_of.ensures.some
