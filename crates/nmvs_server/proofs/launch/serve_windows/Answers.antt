use Rattle.nmvs_server.proofs.Begun.{log_named}
use Rattle.nmvs_server.proofs.launch.serve_windows.Goals as goal

pub open_repository-requires-clause-name : goal.open_repository-requires-clause-name
open_repository-requires-clause-name g c = λ κs alive. log_named c.in-Ok-recover.recovered.log
