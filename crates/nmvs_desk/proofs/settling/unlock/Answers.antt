use Rattle.std.proofs.Common.{arith}
use Rattle.nmvs_desk.proofs.Unlocking.{few_numbered}
use Rattle.nmvs_desk.proofs.settling.unlock.Goals as goal

pub lock_all-requires-clause-few : goal.lock_all-requires-clause-few
lock_all-requires-clause-few g c =
    let slots = c.args.slots.now in
    few_numbered c.unlock_all.new.shards.items slots.items c.unlock_all.ensures.numbers c.requires.numbered.2 (omega (arith, slots.ok.0, c.requires.numbered.0, c.requires.numbered.1))
