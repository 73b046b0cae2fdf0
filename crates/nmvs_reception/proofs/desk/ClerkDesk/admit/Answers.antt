use Rattle.std.proofs.Common.{◌≡◌, pos, rules, ◌∙◌, refl, sym, ap, subst, inl, inr}
use Rattle.nmvs_identifier.specs.Name.{Name}
use Rattle.nmvs_directory.specs.Window.{Reads}
use Rattle.nmvs_directory.specs.declared.look.Look.TheVariants as looks
use Rattle.nmvs_messages.specs.Peers.{speaks_for}
use Rattle.nmvs_reception.specs.Desk.{IsMoment, at_moment, suspended_turn}
use Rattle.nmvs_reception.proofs.DeskTurns.{looks_up, over_rate, refuses_suspended}
use Rattle.nmvs_reception.proofs.desk.ClerkDesk.admit.Goals as goal

pub returns-in-Nobody-clause-refuses : goal.returns-in-Nobody-clause-refuses
returns-in-Nobody-clause-refuses g c =
    let moment : IsMoment (g.K.Clock.gave c.seconds.new.self) = search rules in
    let at : pos c.in-Some.moment ≡ g.K.Clock.gave c.seconds.new.self = search rules in
    let reads = subst (λ (u : Name). Reads c.learn.new.self.seen c.look.new.self.seen u c.look.result) c.user-user.ensures c.look.ensures.reads in
    let stands : at_moment c.in-Some.moment c.look.result ≡ looks.Nobody = sym c.at_moment.ensures ∙ c.in-Nobody.is in
    rw (← c.self.view_is) (inl (looks_up _ _ c.look.result (looks.Nobody) c.in-Some.moment c.learn.new.self c.look.new.self _ _ _ _ c.seconds.ensures.asked c.read.ensures moment at stands c.learn.ensures.same c.learn.ensures.seen c.learn.ensures.told reads c.look.ensures.same))

pub returns-in-Suspended-clause-refuses : goal.returns-in-Suspended-clause-refuses
returns-in-Suspended-clause-refuses g c =
    let moment : IsMoment (g.K.Clock.gave c.seconds.new.self) = search rules in
    let at : pos c.in-Some.moment ≡ g.K.Clock.gave c.seconds.new.self = search rules in
    let reads = subst (λ (u : Name). Reads c.learn.new.self.seen c.look.new.self.seen u c.look.result) c.user-user.ensures c.look.ensures.reads in
    let stands : at_moment c.in-Some.moment c.look.result ≡ looks.Suspended = sym c.at_moment.ensures ∙ c.in-Suspended.is in
    let turn = ap (suspended_turn c.args.from.now) (sym c.user-user.ensures) ∙ sym c.suspended_turn.ensures in
    rw (← c.self.view_is) (refuses_suspended _ c.args.from.now c.args.ask.now c.suspended_turn.result _ (looks_up _ _ c.look.result (looks.Suspended) c.in-Some.moment c.learn.new.self c.look.new.self _ _ _ _ c.seconds.ensures.asked c.read.ensures moment at stands c.learn.ensures.same c.learn.ensures.seen c.learn.ensures.told reads c.look.ensures.same) turn)

pub returns-in-Closed-clause-refuses : goal.returns-in-Closed-clause-refuses
returns-in-Closed-clause-refuses g c =
    let moment : IsMoment (g.K.Clock.gave c.seconds.new.self) = search rules in
    let at : pos c.in-Some.moment ≡ g.K.Clock.gave c.seconds.new.self = search rules in
    let reads = subst (λ (u : Name). Reads c.learn.new.self.seen c.look.new.self.seen u c.look.result) c.user-user.ensures c.look.ensures.reads in
    let stands : at_moment c.in-Some.moment c.look.result ≡ looks.Closed = sym c.at_moment.ensures ∙ c.in-Closed.is in
    rw (← c.self.view_is) (looks_up _ _ c.look.result (looks.Closed) c.in-Some.moment c.learn.new.self c.look.new.self _ _ _ _ c.seconds.ensures.asked c.read.ensures moment at stands c.learn.ensures.same c.learn.ensures.seen c.learn.ensures.told reads c.look.ensures.same)

pub returns-then-not-speaks_for-clause-refuses : goal.returns-then-not-speaks_for-clause-refuses
returns-then-not-speaks_for-clause-refuses g c =
    let moment : IsMoment (g.K.Clock.gave c.seconds.new.self) = search rules in
    let at : pos c.in-Some.moment ≡ g.K.Clock.gave c.seconds.new.self = search rules in
    let reads = subst (λ (u : Name). Reads c.learn.new.self.seen c.look.new.self.seen u c.look.result) c.user-user.ensures c.look.ensures.reads in
    let stands : at_moment c.in-Some.moment c.look.result ≡ looks.Known c.in-Known.enrolment = sym c.at_moment.ensures ∙ c.in-Known.is in
    let speaks = ap (λ (u : Name). speaks_for c.args.from.now u c.in-Known.enrolment.actor.authorisation) (sym c.user-user.ensures) ∙ sym c.speaks_for.ensures ∙ c.if-not-speaks_for.true in
    rw (← c.self.view_is) (inr (inl (c.in-Known.enrolment, record { looks = (looks_up _ _ c.look.result (looks.Known c.in-Known.enrolment) c.in-Some.moment c.learn.new.self c.look.new.self _ _ _ _ c.seconds.ensures.asked c.read.ensures moment at stands c.learn.ensures.same c.learn.ensures.seen c.learn.ensures.told reads c.look.ensures.same); speaks = speaks })))

pub returns-in-Some-turn_by_rate-clause-refuses : goal.returns-in-Some-turn_by_rate-clause-refuses
returns-in-Some-turn_by_rate-clause-refuses g c =
    let moment : IsMoment (g.K.Clock.gave c.seconds.new.self) = search rules in
    let at : pos c.in-Some.moment ≡ g.K.Clock.gave c.seconds.new.self = search rules in
    let reads = subst (λ (u : Name). Reads c.learn.new.self.seen c.look.new.self.seen u c.look.result) c.user-user.ensures c.look.ensures.reads in
    let stands : at_moment c.in-Some.moment c.look.result ≡ looks.Known c.in-Known.enrolment = sym c.at_moment.ensures ∙ c.in-Known.is in
    let speaks = ap (λ (u : Name). speaks_for c.args.from.now u c.in-Known.enrolment.actor.authorisation) (sym c.user-user.ensures) ∙ sym c.speaks_for.ensures ∙ c.if-not-speaks_for.false in
    let over = c.in-Some-turn_by_rate.ensures in
    rw (← c.self.view_is) (over_rate _ c.args.from.now c.args.ask.now c.in-Some-turn_by_rate.turn c.in-Known.enrolment _ over.0 over.1 (record { looks = (looks_up _ _ c.look.result (looks.Known c.in-Known.enrolment) c.in-Some.moment c.learn.new.self c.look.new.self _ _ _ _ c.seconds.ensures.asked c.read.ensures moment at stands c.learn.ensures.same c.learn.ensures.seen c.learn.ensures.told reads c.look.ensures.same); speaks = speaks }))

pub returns-then-not-may_ask_this-clause-refuses : goal.returns-then-not-may_ask_this-clause-refuses
returns-then-not-may_ask_this-clause-refuses g c =
    let moment : IsMoment (g.K.Clock.gave c.seconds.new.self) = search rules in
    let at : pos c.in-Some.moment ≡ g.K.Clock.gave c.seconds.new.self = search rules in
    let reads = subst (λ (u : Name). Reads c.learn.new.self.seen c.look.new.self.seen u c.look.result) c.user-user.ensures c.look.ensures.reads in
    let stands : at_moment c.in-Some.moment c.look.result ≡ looks.Known c.in-Known.enrolment = sym c.at_moment.ensures ∙ c.in-Known.is in
    let speaks = ap (λ (u : Name). speaks_for c.args.from.now u c.in-Known.enrolment.actor.authorisation) (sym c.user-user.ensures) ∙ sym c.speaks_for.ensures ∙ c.if-not-speaks_for.false in
    rw (← c.self.view_is) (c.in-Known.enrolment, record { looks = (looks_up _ _ c.look.result (looks.Known c.in-Known.enrolment) c.in-Some.moment c.learn.new.self c.look.new.self _ _ _ _ c.seconds.ensures.asked c.read.ensures moment at stands c.learn.ensures.same c.learn.ensures.seen c.learn.ensures.told reads c.look.ensures.same); speaks = speaks }, sym c.may_ask_this.ensures ∙ c.if-not-may_ask_this.true)

pub returns-then-not-may_upload_this-clause-refuses : goal.returns-then-not-may_upload_this-clause-refuses
returns-then-not-may_upload_this-clause-refuses g c =
    let moment : IsMoment (g.K.Clock.gave c.seconds.new.self) = search rules in
    let at : pos c.in-Some.moment ≡ g.K.Clock.gave c.seconds.new.self = search rules in
    let reads = subst (λ (u : Name). Reads c.learn.new.self.seen c.look.new.self.seen u c.look.result) c.user-user.ensures c.look.ensures.reads in
    let stands : at_moment c.in-Some.moment c.look.result ≡ looks.Known c.in-Known.enrolment = sym c.at_moment.ensures ∙ c.in-Known.is in
    let speaks = ap (λ (u : Name). speaks_for c.args.from.now u c.in-Known.enrolment.actor.authorisation) (sym c.user-user.ensures) ∙ sym c.speaks_for.ensures ∙ c.if-not-speaks_for.false in
    rw (← c.self.view_is) (c.in-Known.enrolment, record { looks = (looks_up _ _ c.look.result (looks.Known c.in-Known.enrolment) c.in-Some.moment c.learn.new.self c.look.new.self _ _ _ _ c.seconds.ensures.asked c.read.ensures moment at stands c.learn.ensures.same c.learn.ensures.seen c.learn.ensures.told reads c.look.ensures.same); speaks = speaks }, sym c.may_upload_this.ensures ∙ c.if-not-may_upload_this.true)

pub returns-clause-admits : goal.returns-clause-admits
returns-clause-admits g c =
    let moment : IsMoment (g.K.Clock.gave c.seconds.new.self) = search rules in
    let at : pos c.in-Some.moment ≡ g.K.Clock.gave c.seconds.new.self = search rules in
    let reads = subst (λ (u : Name). Reads c.learn.new.self.seen c.look.new.self.seen u c.look.result) c.user-user.ensures c.look.ensures.reads in
    let stands : at_moment c.in-Some.moment c.look.result ≡ looks.Known c.in-Known.enrolment = sym c.at_moment.ensures ∙ c.in-Known.is in
    let speaks = ap (λ (u : Name). speaks_for c.args.from.now u c.in-Known.enrolment.actor.authorisation) (sym c.user-user.ensures) ∙ sym c.speaks_for.ensures ∙ c.if-not-speaks_for.false in
    rw (← c.self.view_is)
    (record {
      enrolment = c.in-Known.enrolment;
      knows = record { looks = (looks_up _ _ c.look.result (looks.Known c.in-Known.enrolment) c.in-Some.moment c.learn.new.self c.look.new.self _ _ _ _ c.seconds.ensures.asked c.read.ensures moment at stands c.learn.ensures.same c.learn.ensures.seen c.learn.ensures.told reads c.look.ensures.same); speaks = speaks };
      capacity = refl;
      at = at;
      may = sym c.may_ask_this.ensures ∙ c.if-not-may_ask_this.false;
      product = sym c.may_upload_this.ensures ∙ c.if-not-may_upload_this.false;
    })
