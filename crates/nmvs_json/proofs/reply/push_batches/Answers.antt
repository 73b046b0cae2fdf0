use Rattle.nmvs_json.proofs.ReplyLemmas.{three_put}
use Rattle.nmvs_json.proofs.reply.push_batches.Goals as goal

pub returns : goal.returns
returns g c =
    three_put c.extend_from_slice-2.result _ _ _ _ _ _ _ c.in_ok-extend_from_slice.ensures.items c.in_ok-push_batch_lines.ensures c.extend_from_slice-2.ensures.items
