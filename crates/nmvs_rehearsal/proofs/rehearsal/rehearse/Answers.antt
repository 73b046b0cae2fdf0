use Rattle.std.proofs.Common.{List, subst}
use Rattle.nmvs_messages.specs.Withheld.{AtOnce, Stays}
use Rattle.nmvs_protocol.specs.Session.{session_limits, Session}
use Rattle.nmvs_rules.specs.declared.entry.Entry.{Entry}
use Rattle.nmvs_rehearsal.specs.Rehearsal.{Takes}
use Rattle.nmvs_rehearsal.proofs.rehearsal.rehearse.Goals as goal

pub returns : goal.returns
returns g c = (
  c.serve.new.desk,
  subst
      (λ (t : List Entry). Session Takes AtOnce Stays session_limits (record { trail = t; moments = c.args.moments.now }) (g.R.Source.told c.args.source.now) (g.W.Sink.taken c.args.sink.now)
      c.serve.new.desk (g.R.Source.told c.serve.new.source) (g.W.Sink.taken c.serve.new.sink) c.serve.result)
      c.new.ensures c.serve.ensures,
)
