use Rattle.std.proofs.Common.{◌≡◌, ◌∙◌, List, ℕ, sym, subst, true}
use Rattle.nmvs_identifier.specs.ProductCode.{is_product_code}
use Rattle.nmvs_reports.proofs.AlertNameLemmas.{cut, none-here}
use Rattle.nmvs_reports.proofs.alert_name.AlertName.read.Goals as goal

pub returns-in_err-code-clause-none : goal.returns-in_err-code-clause-none
returns-in_err-code-clause-none c = none-here c.from_residual.result _ (λ name code small is. rw c.in_err-code.was at (cut c.args.text.now name c.split_once.result c.split_once.ensures.cases code is))

pub returns-in_err-number-clause-none : goal.returns-in_err-number-clause-none
returns-in_err-number-clause-none c =
    none-here c.from_residual-in_err-number.result _
    (λ name code small is. let parts = rw c.in_ok-code.was at (cut c.args.text.now name c.split_once.result c.split_once.ensures.cases code is) in c.in_err-number.ensures.none name.number small parts.1)

pub returns-in-Err-clause-none : goal.returns-in-Err-clause-none
returns-in-Err-clause-none c name code small is =
    let parts = rw c.in_ok-code.was at (cut c.args.text.now name c.split_once.result c.split_once.ensures.cases code is) in
    let read = c.in-Err.ensures.accepts.1 (subst (λ (t : List ℕ). is_product_code t ≡ true) (sym parts.0) code) in cc read
