use Rattle.std.proofs.Common.{rules, ◌≡◌, true}
use Rattle.nmvs_directory.specs.Registrar.{published}
use Rattle.nmvs_operator.specs.Users.{says}
use Rattle.nmvs_operator.proofs.ReloadLemmas.{command_takes}
use Rattle.nmvs_operator.proofs.reload.line_takes_effect.Goals as goal

pub returns-in-Ok : goal.returns-in-Ok
returns-in-Ok g c =
    let it_says : says c.args.line.now ≡ true = search rules in
    command_takes c.args.all (published c.args.registrar.now) c.args.line.now c.in-Ok.command c.command_takes_effect.result it_says c.in-Ok.ensures c.command_takes_effect.ensures
