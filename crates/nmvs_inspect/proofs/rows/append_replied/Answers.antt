use Rattle.std.proofs.Common.{◌∙◌, ◌++◌, ap, sym, List, ℕ, map}
use Rattle.std.proofs.lemmas.Result.{on_ok_weaker}
use Rattle.nmvs_inspect.specs.Rows.{reply_cells, row}
use Rattle.nmvs_inspect.specs.declared.form.Form.{Form}
use Rattle.nmvs_inspect.proofs.RowLemmas.{reply_cells-text}
use Rattle.nmvs_inspect.proofs.rows.append_replied.Goals as goal

pub returns-in-Csv : goal.returns-in-Csv
returns-in-Csv c =
    on_ok_weaker c.append_values.result
    (λ h. h ∙ ap (λ (f : Form). c.args.block.now.items ++ row f (map (λ b. b.now) c.args.front.now ++ reply_cells f c.args.reply.now)) (sym c.in-Csv.is))
    c.append_values.ensures.row

pub returns-in_default : goal.returns-in_default
returns-in_default c =
    on_ok_weaker c.append_text.result
    (λ h. h ∙ ap (λ (x : List (List ℕ)). c.args.block.now.items ++ row c.args.form (map (λ b. b.now) c.args.front.now ++ x)) (sym (reply_cells-text c.args.form c.args.reply.now c.in_default.not-Csv)))
    c.append_text.ensures
