use Rattle.std.proofs.Common.{[], codes, sym}
use Rattle.nmvs_operator.specs.Orders.{fixed_fields}
use Rattle.nmvs_operator.proofs.OrderLemmas.{whole_fields, word_fields, alone_order, over_order, reload_word, path_word, blocks_word}
use Rattle.nmvs_operator.proofs.order.read_fields.Goals as goal

pub returns-in_ok-stands_alone-in-Some-Alone-clause-fields : goal.returns-in_ok-stands_alone-in-Some-Alone-clause-fields
returns-in_ok-stands_alone-in-Some-Alone-clause-fields c =
    let row = rw c.in-Some-Alone.field-0-is at c.in-Some-Alone.ensures in
    whole_fields (λ f. f.now) c.args.fields.now _ c.in-len1-up.len_at_least (fixed_fields c.in-Some-Alone.order) [] (alone_order _ c.in-Some-Alone.order (sym row))
    c.in_ok-stands_alone-in-Some-Alone.ensures.alone

pub returns-in_ok-is_over-in-Some-Over-clause-fields : goal.returns-in_ok-is_over-in-Some-Over-clause-fields
returns-in_ok-is_over-in-Some-Over-clause-fields c =
    let row = rw c.in-Some-Over.field-0-is at c.in-Some-Over.ensures in
    whole_fields (λ f. f.now) c.args.fields.now _ c.in-len1-up.len_at_least (fixed_fields c.in-Some-Over.order) _ (over_order _ c.in-Some-Over.order (sym row))
    c.in_ok-is_over-in-Some-Over.ensures.over

pub returns-in-Some-Reload-clause-fields : goal.returns-in-Some-Reload-clause-fields
returns-in-Some-Reload-clause-fields c =
    let row = rw c.in-Some-Reload.field-0-is at c.in-Some-Reload.ensures in
    word_fields (λ f. f.now) c.args.fields.now _ c.in-len1-up.len_at_least (codes "RELOAD") c.read_reload.result (reload_word _ (sym row)) c.read_reload.ensures.fields

pub returns-in-Some-Path-clause-fields : goal.returns-in-Some-Path-clause-fields
returns-in-Some-Path-clause-fields c =
    let row = rw c.in-Some-Path.field-0-is at c.in-Some-Path.ensures in
    word_fields (λ f. f.now) c.args.fields.now _ c.in-len1-up.len_at_least (codes "EXPORT") c.read_export.result (path_word _ (sym row)) c.read_export.ensures.fields

pub returns-in-Some-Blocks-clause-fields : goal.returns-in-Some-Blocks-clause-fields
returns-in-Some-Blocks-clause-fields c =
    let row = rw c.in-Some-Blocks.field-0-is at c.in-Some-Blocks.ensures in
    word_fields (λ f. f.now) c.args.fields.now _ c.in-len1-up.len_at_least (codes "TRIM") c.read_trim.result (blocks_word _ (sym row)) c.read_trim.ensures.fields
