use Rattle.std.proofs.Common.{string_bytes}
use Rattle.std.specs.Option.{option_copied}
use Rattle.json.specs.Value.{value_view}
use Rattle.nmvs_json.proofs.BulkLemmas.{item_put}
use Rattle.nmvs_json.proofs.bulk.push_item.Goals as goal

pub returns-clause-line : goal.returns-clause-line
returns-clause-line c =
    item_put c.push_question.result (value_view c.args.item.now) (option_copied c.in_ok-key.key) c.others_of.result (string_bytes c.args.lines.now) (string_bytes c.push_key.new.line) (string_bytes c.push_question.new.lines)
    c.in_ok-key.ensures.key c.in_ok-push_key.ensures.key c.others_of.ensures.others c.in_ok-push_key.ensures.text c.push_question.ensures.fields
