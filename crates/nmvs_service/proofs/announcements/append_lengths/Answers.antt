use Rattle.std.proofs.Common.{◌++◌, ◌∙◌, List, ℕ, take, length, get_or, string_bytes, sym, ap, ap₂, append_assoc}
use Rattle.std.specs.List.{flat_map}
use Rattle.std.specs.Prelude.{codes, decimal}
use Rattle.nmvs_service.specs.Announcements.{length_text}
use Rattle.nmvs_service.proofs.Lengths.{lengths-next}
use Rattle.nmvs_service.proofs.announcements.append_lengths.Goals as goal

pub loop-shard-preserved : goal.loop-shard-preserved
loop-shard-preserved c =
    let ts = c.args.shards.now in
    let i = c.loop-shard.shard-index in
    let front = flat_map length_text (take i ts) in
    c.in_ok-push_str.ensures.bytes
    ∙ ap₂ (λ (x y : List ℕ). x ++ y) c.loop-shard.invariant (c.deref.ensures ∙ c.in_ok-format.ensures.ok ∙ ap (λ (n : ℕ). codes " " ++ decimal n) (c.len-length.ensures.len ∙ ap length c.shard-item.is))
    ∙ append_assoc (string_bytes c.args.text.now) front (length_text (get_or ts i c.shard-item.result))
    ∙ ap (λ (x : List ℕ). string_bytes c.args.text.now ++ x) (sym (lengths-next ts i c.shard-item.result c.loop-shard-test.true))
