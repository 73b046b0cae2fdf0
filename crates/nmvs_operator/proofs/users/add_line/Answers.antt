use Rattle.std.proofs.Common.{rules}
use Rattle.nmvs_operator.proofs.UsersFile.{says_command}
use Rattle.nmvs_operator.proofs.users.add_line.Goals as goal

pub returns-in_ok-add-in-Ok-clause-added : goal.returns-in_ok-add-in-Ok-clause-added
returns-in_ok-add-in-Ok-clause-added g c = says_command c.args.line.now c.in-Ok.command _ _ (search rules) c.in-Ok.ensures (search rules)
