use Rattle.std.proofs.Common.{◌≡◌, ◌∙◌, List, ℕ, false, ap, refl, subst, rules}
use Rattle.nmvs_connections.specs.LineStreams.{before_of, carried}
use Rattle.nmvs_connections.specs.declared.proxy_header.ProxyHeader.TheVariants as proxy_headers
use Rattle.nmvs_connections.specs.ProxyHeader.{ReadsProxyHeader}
use Rattle.nmvs_connections.proofs.ConnectionLemmas.{reads_later}
use Rattle.nmvs_connections.proofs.LineSteps.{stands_named, stands_over, stands_same}
use Rattle.nmvs_connections.proofs.peer_session.PeerSession.read_header.Goals as goal

pub invariant_of-self-in-Whole : goal.invariant_of-self-in-Whole
invariant_of-self-in-Whole g c =
    let is = c.self.inside in
    let view = c.self.view_is in
    let new = c.begin.new.self in
    let reads = subst (λ (t : List ℕ). ReadsProxyHeader t c.args.name_of (proxy_headers.Whole c.in-Whole.peer)) c.as_slice.ensures.value c.in-Whole.ensures in
    stands_named c.args.name_of c.in-Whole.peer (carried is.stream) (carried new) (before_of is.stream.http) (before_of new.http) (ap (λ p. p.proxy) view ∙ c.requires.proxy) (ap (λ p. p.peer) view ∙ c.requires.awaited) (ap (λ p. p.stage) view ∙ c.requires.serving)
    c.clear.ensures.items reads c.begin.ensures.carried c.begin.ensures.before c.self.invariant

pub invariant_of-self : goal.invariant_of-self
invariant_of-self g c =
    let is = c.self.inside in
    let new = c.begin.new.self in
    let refused : c.begin.result ≡ false = first_of (search rules, cc (c.if-not-begin.true)) in
    let same = c.begin.ensures.refused refused in
    stands_over (carried new) (before_of new.http) is.unread.items (ap (λ p. p.stage) c.self.view_is ∙ c.requires.serving)
    (stands_same (carried is.stream) (carried new) (before_of is.stream.http) (before_of new.http) (ap (λ s. carried s) same) (ap (λ s. before_of s.http) same) c.self.invariant)

pub returns-in-Ok-clause-later : goal.returns-in-Ok-clause-later
returns-in-Ok-clause-later g c = rw (← c.self.view_is) (reads_later _ _ _ _ refl (λ peer known. known) c.read.ensures.reads)

pub returns-in-Err-clause-later : goal.returns-in-Err-clause-later
returns-in-Err-clause-later g c = rw (← c.self.view_is) (reads_later _ _ _ _ refl (λ peer known. known) c.read.ensures.reads)
