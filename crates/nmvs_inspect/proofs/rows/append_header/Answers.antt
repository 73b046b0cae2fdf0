use Rattle.std.proofs.Common.{◌≡◌, ◌∙◌, ◌++◌, sym, ap, List, ℕ}
use Rattle.std.proofs.lemmas.Result.{on_ok_weaker}
use Rattle.nmvs_inspect.proofs.RowLemmas.{header-csv, header-row}
use Rattle.nmvs_inspect.proofs.rows.append_header.Goals as goal

pub returns-in-Csv : goal.returns-in-Csv
returns-in-Csv c =
    on_ok_weaker c.append_row.result (λ h. h ∙ ap (λ (x : List ℕ). c.args.block.now.items ++ x) (sym (header-csv c.args.form c.in-Csv.is))) c.append_row.ensures

pub returns-in_default : goal.returns-in_default
returns-in_default c =
    on_ok_weaker c.append_row-in_default.result (λ h. h ∙ ap (λ (x : List ℕ). c.args.block.now.items ++ x) (sym (header-row c.args.form c.in_default.not-Json c.in_default.not-Csv))) c.append_row-in_default.ensures
