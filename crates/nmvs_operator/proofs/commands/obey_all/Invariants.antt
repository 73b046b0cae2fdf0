use Rattle.nmvs_directory.specs.Registrar.{register_of}
use Rattle.nmvs_operator.specs.Commands.{office, ways}
use Rattle.nmvs_operator.proofs.CommandLemmas.{Answered}
use Rattle.nmvs_operator.proofs.commands.obey_all.Given as goal

abbrev pub invariant-loop : goal.invariant-loop
invariant-loop g l =
    let told = g.T.Source.Source.told in
    let taken = g.T.Sink.Sink.taken in
    Answered (ways g.S.Perform.does g.S.Service.keeps) (office (register_of l.fn.registrar) l.fn.latest l.fn.service) (told l.fn.console.source) (taken l.fn.console.sink)
    (office (register_of l.registrar) l.latest l.service) (told l.console.source) (taken l.console.sink) l.counter
