use Rattle.nmvs_desk.proofs.Clerks.{let_go}
use Rattle.nmvs_desk.proofs.ask.Clerk.let_go.Goals as goal

pub invariant_of-self : goal.invariant_of-self
invariant_of-self g c =
    let h = g.H.Histories in
    rw c.clear.ensures.items (let_go h.tables h.shards _ _ c.self.invariant)
