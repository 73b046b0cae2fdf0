use Rattle.std.proofs.Common.{List, [], Option, refl, subst, inr}
use Rattle.nmvs_rules.specs.declared.entry.Entry.{Entry}
use Rattle.nmvs_rules.specs.declared.printed.Printed.{Printed}
use Rattle.nmvs_rules.specs.declared.put.Put.{Put}
use Rattle.nmvs_shard.specs.declared.shard.Answered.{Answered}
use Rattle.nmvs_shard.specs.declared.shard.Outcome.TheVariants as outcome
use Rattle.nmvs_shard.specs.Asking.{Asks, IsNotPut}
use Rattle.nmvs_rehearsal.specs.Rehearsal.{put_at, Repeats}
use Rattle.nmvs_rehearsal.proofs.rehearsal.RehearsalDesk.judge.Goals as goal

-- the answer of a shard to a question that it answers again
repeats : (old new : List Entry) (put : Put) (printed : Option Printed) (a : Answered) → Asks old put printed new (outcome.Again a) → Repeats old put a.reply [] new
repeats old new put printed a (same, again) = record { place = a.place; repeats = again.repeat; shows = refl; same = same }

pub returns-in-Ok-Again-clause-judges : goal.returns-in-Ok-Again-clause-judges
returns-in-Ok-Again-clause-judges c =
    let put = put_at c.args.moment c.args.user.now c.in-Some.actor c.args.tag c.args.question.now in
    let printed = c.args.printed.now in
    let asks = subst (λ o. Asks c.self.inside.shard put printed c.ask.new.self o) c.in-Ok-Again.field-0-is c.in-Ok-Again.ensures.asks in
    rw (← c.self.view_is, c.replied-in-Ok-Again.ensures.content) (
      [],
      refl,
      record {
        actor = c.in-Some.actor;
        rostered = c.in-Some.ensures.known;
        answers = inr (repeats c.self.inside.shard c.ask.new.self put printed c.in-Ok-Again.answered asks);
        moments = refl;
      },
    )

pub returns-in-Ok-NotPut-Differs-default-clause-judges : goal.returns-in-Ok-NotPut-Differs-default-clause-judges
returns-in-Ok-NotPut-Differs-default-clause-judges c =
    let put = put_at c.args.moment c.args.user.now c.in-Some.actor c.args.tag c.args.question.now in
    let printed = c.args.printed.now in
    let asks = subst (λ o. Asks c.self.inside.shard put printed c.ask.new.self o) c.in-Ok-NotPut-Differs-default.field-0-is c.in-Ok-NotPut-Differs-default.ensures.asks in
    let why = subst (λ w. IsNotPut c.self.inside.shard put printed w) c.in-Ok-NotPut-Differs-default.field-0-0-is asks.2 in
    rw (← c.self.view_is) (
      record { actor = c.in-Some.actor; rostered = c.in-Some.ensures.known; first = why.0; differs = why.1 },
      record { trail = asks.0; moments = refl },
    )

pub returns-in-Ok-NotPut-Changed-default-clause-judges : goal.returns-in-Ok-NotPut-Changed-default-clause-judges
returns-in-Ok-NotPut-Changed-default-clause-judges c =
    let put = put_at c.args.moment c.args.user.now c.in-Some.actor c.args.tag c.args.question.now in
    let printed = c.args.printed.now in
    let asks = subst (λ o. Asks c.self.inside.shard put printed c.ask.new.self o) c.in-Ok-NotPut-Changed-default.field-0-is c.in-Ok-NotPut-Changed-default.ensures.asks in
    let why = subst (λ w. IsNotPut c.self.inside.shard put printed w) c.in-Ok-NotPut-Changed-default.field-0-0-is asks.2 in
    rw (← c.self.view_is) (
      record { actor = c.in-Some.actor; rostered = c.in-Some.ensures.known; first = why.0; changed = why.1 },
      record { trail = asks.0; moments = refl },
    )
