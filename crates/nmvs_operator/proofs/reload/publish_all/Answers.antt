use Rattle.std.proofs.Common.{refl}
use Rattle.nmvs_operator.proofs.UsersFile.{published_or_pending, tells_first}
use Rattle.nmvs_operator.proofs.reload.publish_all.Goals as goal

pub returns-in-Ok : goal.returns-in-Ok
returns-in-Ok g c =
    let publish = c.publish.ensures in
    published_or_pending c.publish.result _ c.args.bytes.now _ _ _ _ _ c.in-Ok.ensures.added publish.published publish.pending publish.told

pub returns-in-Err : goal.returns-in-Err
returns-in-Err g c = (refl, tells_first _ _ _ c.in-Err.field-0 c.in-Err.ensures.fault)
