use Rattle.std.proofs.Common.{rules, arith}
use Rattle.nmvs_directory.proofs.Beginnings.{next_is}
use Rattle.nmvs_directory.proofs.users.next.Goals as goal

pub returns-then-len-eq1 : goal.returns-then-len-eq1
returns-then-len-eq1 g c = next_is c.args.before.now c.args.after.now c.last.result (search rules) (omega (arith, c.if-len-eq1.true, c.len.ensures, c.len-then-covers.ensures)) c.last.ensures
