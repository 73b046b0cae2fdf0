-- The steps of the program's desk.
use Rattle.std.proofs.Common.{◌≡◌, ◌≢◌, ◌<◌, ◌+◌, ◌⊎◌, ◌∙◌, ◌∷◌, ℕ, ℤ, true, false, cond, List, [], Option, Some, None, IfSome, length, pos, refl, sym, ap, subst, inl, inr, arith, length-append}
use Rattle.std.proofs.lemmas.Bool.Decides.{eqb_tells}
use mathlib.Core.List.{IsPrefix}
use Rattle.nmvs_history.proofs.Beginnings.{prefix_self, prefix_trans, prefix_length}
use Rattle.nmvs_identifier.specs.Name.{Name}
use Rattle.nmvs_identifier.specs.Tag.{Tag}
use Rattle.nmvs_identifier.specs.Texts.{same_text}
use Rattle.nmvs_directory.specs.Window.{Reads}
use Rattle.nmvs_directory.specs.declared.change.Change.{Change}
use Rattle.nmvs_directory.specs.declared.look.Look.{Look}
use Rattle.nmvs_directory.specs.declared.look.Look.TheVariants as looks
use Rattle.nmvs_rules.specs.declared.actor.Actor.{Actor}
use Rattle.nmvs_rules.specs.declared.enrolment.Enrolment.{Enrolment}
use Rattle.nmvs_rules.specs.declared.entry.Entry.{Entry}
use Rattle.nmvs_rules.specs.declared.printed.Printed.{Printed}
use Rattle.nmvs_rules.specs.declared.put.Put.{Put}
use Rattle.nmvs_rules.specs.declared.question.Question.TheVariants.{OfPack}
use Rattle.nmvs_rules.specs.Rules.{answered}
use Rattle.nmvs_shard.proofs.Again.{stands_for}
use Rattle.nmvs_shard.specs.Asking.{Asks}
use Rattle.nmvs_shard.specs.declared.shard.Outcome.{Outcome}
use Rattle.nmvs_shard.specs.declared.shard.Outcome.TheVariants as outcomes
use Rattle.nmvs_desk.specs.Settlement.{row}
use Rattle.nmvs_desk.specs.Views.{ClerkView}
use Rattle.nmvs_messages.specs.declared.ask.Ask.{Ask}
use Rattle.nmvs_messages.specs.declared.ask.Asked.{Asked}
use Rattle.nmvs_messages.specs.declared.ask.Asked.TheVariants as asked
use Rattle.nmvs_messages.specs.declared.answer.Content.{Content}
use Rattle.nmvs_messages.specs.declared.answer.Turn.{Turn}
use Rattle.nmvs_messages.specs.declared.answer.Turn.TheVariants as turns
use Rattle.nmvs_messages.specs.declared.peer.Peer.{Peer}
use Rattle.nmvs_messages.specs.declared.peer.Peer.TheVariants as peers
use Rattle.nmvs_messages.specs.Asks.{user_of}
use Rattle.nmvs_messages.specs.declared.withheld.Basis.{Basis}
use Rattle.nmvs_journal.specs.Told.{IsWithin, ReachView}
use Rattle.nmvs_reception.specs.Desk.{DeskView, at_moment, AnswersAdmitted, IsMoment, Knows, LetsGo, LooksUp, Refuses, Replies, RestsOn, Says, Serves, suspended_turn}

-- the clock gave a moment, the latest notice was read, the clerk learned it, and the directory said this of the user
pub looks_up : (old : DeskView) (user : Name) (said look : Look) (moment : ℕ) (told new : ClerkView) (times : ℕ) (gave : ℤ) (reads : ℕ) (notice : List Change)
    → times ≡ old.asked + 1 → reads ≡ old.reads + 1 → IsMoment gave → pos moment ≡ gave → at_moment moment said ≡ look
    → told ≡ record old.clerk { seen = told.seen } → IsPrefix old.clerk.seen told.seen → IsPrefix notice told.seen
    → Reads told.seen new.seen user said → new ≡ record told { seen = new.seen }
    → LooksUp old user look (record old { clerk = new; asked = times; gave = gave; reads = reads; notice = notice })
looks_up old user said look moment told new times gave reads notice once read in_range at stands learns seen latest says looks = record {
  told = record old { clerk = told; asked = times; gave = gave; reads = reads; notice = notice };
  is = record { same = λ i. record old { clerk = learns i; asked = once i; gave = gave; reads = read i; notice = notice }; moment = in_range; seen = seen; latest = latest };
  said = said;
  reads = says;
  moment = moment;
  at = at;
  stands = stands;
  same = λ i. record old { clerk = looks i; asked = times; gave = gave; reads = reads; notice = notice };
}

-- a line is turned away by the rate, or for want of memory
pub over_rate : (old : DeskView) (from : Peer) (ask : Ask) (turn : Turn) (enrolment : Enrolment) (new : DeskView) → old.rated ≡ true
    → (turn ≡ turns.Rate) ⊎ (turn ≡ turns.Memory) → Knows old from ask true enrolment new → Refuses old from ask turn new
over_rate old from ask turn enrolment new rated (inl is) knows = subst (λ t. Refuses old from ask t new) (sym is) (rated, enrolment, knows)
over_rate old from ask turn enrolment new rated (inr is) knows = subst (λ t. Refuses old from ask t new) (sym is) (rated, enrolment, knows)

-- a line that names a suspended user is turned away as such, or as one of nobody
two_turns : (from : Peer) (user : Name) → (suspended_turn from user ≡ turns.Suspended) ⊎ (suspended_turn from user ≡ turns.Nobody)
two_turns peers.Anyone user = inl refl
two_turns (peers.User own) user =
    elim (same_text user own) as (λ b. (cond b turns.Suspended turns.Nobody ≡ turns.Suspended) ⊎ (cond b turns.Suspended turns.Nobody ≡ turns.Nobody)) [
      | true ↦ inl refl
      | false ↦ inr refl
    ]
two_turns (peers.Authorisation own) user = inr refl

pub refuses_suspended : (old : DeskView) (from : Peer) (ask : Ask) (turn : Turn) (new : DeskView) → LooksUp old (user_of ask) looks.Suspended new
    → suspended_turn from (user_of ask) ≡ turn → Refuses old from ask turn new
refuses_suspended old from ask turn new found is =
    elim (two_turns from (user_of ask)) [
      | inl known ↦ subst (λ t. Refuses old from ask t new) (sym known ∙ is) (found, known)
      | inr nobody ↦ subst (λ t. Refuses old from ask t new) (sym nobody ∙ is) (inr (inr (found, nobody)))
    ]

-- the trails that the clerk has seen stay as the user is looked up
looked : (old : DeskView) (user : Name) (look : Look) (new : DeskView) → LooksUp old user look new → new.clerk.sights ≡ old.clerk.sights
looked old user look new is = ap (λ (d : DeskView). d.clerk.sights) is.same ∙ ap (λ (d : DeskView). d.clerk.sights) is.is.same

-- and as a line is turned away
refused : (old : DeskView) (from : Peer) (ask : Ask) (turn : Turn) (new : DeskView) → Refuses old from ask turn new → new.clerk.sights ≡ old.clerk.sights
refused old from ask turns.Clock new is = ap (λ (d : DeskView). d.clerk.sights) is.same
refused old from ask turns.Nobody new (inl is) = looked _ _ _ _ is
refused old from ask turns.Nobody new (inr (inl is)) = looked _ _ _ _ is.1.looks
refused old from ask turns.Nobody new (inr (inr is)) = looked _ _ _ _ is.0
refused old from ask turns.Suspended new is = looked _ _ _ _ is.0
refused old from ask turns.Closed new is = looked _ _ _ _ is
refused old from ask turns.Rate new is = looked _ _ _ _ is.2.looks
refused old from ask turns.Memory new is = looked _ _ _ _ is.2.looks
refused old from ask turns.Role new is = looked _ _ _ _ is.1.looks
refused old from ask turns.Product new is = looked _ _ _ _ is.1.looks
refused old from ask turns.Journal new is = absurd is
refused old from ask turns.Tag new is = absurd is
refused old from ask turns.Differs new is = absurd is
refused old from ask turns.Changed new is = absurd is

-- the earlier sight of each shard begins the new one
abbrev Grows : DeskView → DeskView → Type 0
Grows old new = (i : ℕ) → IsPrefix (row old.clerk.sights i) (row new.clerk.sights i)

same_grows : (old new : DeskView) → new.clerk.sights ≡ old.clerk.sights → Grows old new
same_grows old new same i = subst (λ t. IsPrefix (row old.clerk.sights i) (row t i)) (sym same) (prefix_self (row old.clerk.sights i))

-- more was seen of one shard alone
one_grows : (old new : DeskView) (shard : ℕ) → IsPrefix (row old.clerk.sights shard) (row new.clerk.sights shard)
    → ((i : ℕ) → i ≢ shard → row new.clerk.sights i ≡ row old.clerk.sights i) → Grows old new
one_grows old new shard here others i =
    elim (eqb_tells i shard) [
      | inl e ↦ subst (λ j. IsPrefix (row old.clerk.sights j) (row new.clerk.sights j)) (sym e.1) here
      | inr e ↦ subst (λ t. IsPrefix (row old.clerk.sights i) t) (sym (others i e.1)) (prefix_self (row old.clerk.sights i))
    ]

replies_grow : (old : DeskView) (shard : ℕ) (put : Put) (printed : Option Printed) (said : Content) (basis : Option Basis) (new : DeskView) → Replies old shard put printed said basis new → Grows old new
replies_grow old shard put printed said basis new is =
    let a = is.answers in
    one_grows old new shard (prefix_trans (row old.clerk.sights shard) a.trail (row new.clerk.sights shard) a.shown.begins a.later.begins) (λ i apart. (a.others i apart).0)

admitted_grows : (old : DeskView) (tag : Option Tag) (what : Asked) (moment : ℕ) (actor : Actor) (said : Content) (basis : Option Basis) (new : DeskView)
    → AnswersAdmitted old tag what moment actor said basis new → Grows old new
admitted_grows old tag (asked.Question user q) moment actor said basis new (inl is) = replies_grow old _ _ _ said basis new is
admitted_grows old tag (asked.Question user q) moment actor said basis new (inr is) = same_grows old new (ap (λ (d : DeskView). d.clerk.sights) is.1)
admitted_grows old tag (asked.Conditional user kind p printed) moment actor said basis new (inl is) = replies_grow old _ _ _ said basis new is
admitted_grows old tag (asked.Conditional user kind p printed) moment actor said basis new (inr is) = same_grows old new (ap (λ (d : DeskView). d.clerk.sights) is.1)
admitted_grows old tag (asked.Report user c) moment actor said basis new is = one_grows old new _ is.0.shown.begins is.0.others

-- whatever the ask is, the earlier sights begin the new ones
pub grows : (old : DeskView) (from : Peer) (ask : Ask) (said : Content) (basis : Option Basis) (new : DeskView) → Serves old from ask said basis new → Grows old new
grows old from ask said basis new serves =
    elim serves [
      | inl is ↦ same_grows old new (refused old from ask is.0 new is.1)
      | inr is ↦ (
          let admitted = is.2 in
          let same = looked _ _ _ _ is.3.knows.looks in
          let then = admitted_grows admitted ask.tag ask.asked is.0 is.1 said basis new is.4 in
          λ i. subst (λ t. IsPrefix (row t i) (row new.clerk.sights i)) same (then i))
    ]

-- an answer rests on what was seen
abbrev Within : DeskView → Option Basis → Type 0
Within new basis = IfSome basis (λ (b : Basis). b.place < length (row new.clerk.sights b.shard))

none_within : (new : DeskView) (basis : Option Basis) → basis ≡ None → Within new basis
none_within new basis e = subst (Within new) (sym e) tt

all_within : (new : DeskView) (shard : ℕ) (basis : Option Basis) → RestsOn shard (length (row new.clerk.sights shard)) basis → Within new basis
all_within new shard None r = tt
all_within new shard (Some b) r = subst (λ i. b.place < length (row new.clerk.sights i)) (sym r.0) (omega (arith, r.1))

-- the entry that answers a question was seen
said_within : (new : DeskView) (shard : ℕ) (trail : List Entry) (put : Put) (printed : Option Printed) (o : Outcome) (shown : List Entry) (said : Content) (basis : Option Basis)
    → Asks trail put printed (row new.clerk.sights shard) o → Says shard o shown said basis → Within new basis
said_within new shard trail put printed (outcomes.New a) shown said basis asks says =
    let long = ap length asks.2.trail ∙ length-append trail (answered put a.reply ∷ []) in
    subst (Within new) (sym says.1) (omega (arith, long, asks.2.place))
said_within new shard trail put printed (outcomes.Again a) shown said basis asks says =
    let there = (stands_for trail put a.place a.reply asks.1.repeat).within in
    subst (Within new) (sym says.1) (subst (λ t. a.place < length t) (sym asks.0) there)
said_within new shard trail put printed (outcomes.NotPut why n) shown said basis asks says =
    all_within new shard basis (subst (λ (m : ℕ). RestsOn shard m basis) (asks.1 ∙ sym (ap length asks.0)) says.1)

admitted_within : (old : DeskView) (tag : Option Tag) (what : Asked) (moment : ℕ) (actor : Actor) (said : Content) (basis : Option Basis) (new : DeskView)
    → AnswersAdmitted old tag what moment actor said basis new → Within new basis
admitted_within old tag (asked.Question user q) moment actor said basis new (inl is) = said_within new _ is.answers.trail _ None is.outcome is.shown said basis is.answers.asks is.says
admitted_within old tag (asked.Question user q) moment actor said basis new (inr is) = none_within new basis is.0.1
admitted_within old tag (asked.Conditional user kind p printed) moment actor said basis new (inl is) =
    let put : Put = record { moment = moment; user = user; actor = actor; question = OfPack kind p; tag = tag } in
    said_within new _ is.answers.trail put (Some printed) is.outcome is.shown said basis is.answers.asks is.says
admitted_within old tag (asked.Conditional user kind p printed) moment actor said basis new (inr is) = none_within new basis is.0.1
admitted_within old tag (asked.Report user c) moment actor said basis new (sees, inl is) = all_within new _ basis is.rests
admitted_within old tag (asked.Report user c) moment actor said basis new (sees, inr is) = none_within new basis is.1

pub reaches : (old : DeskView) (from : Peer) (ask : Ask) (said : Content) (basis : Option Basis) (new : DeskView) → Serves old from ask said basis new → Within new basis
reaches old from ask said basis new serves =
    elim serves [
      | inl is ↦ none_within new basis is.3
      | inr is ↦ admitted_within is.2 ask.tag ask.asked is.0 is.1 said basis new is.4
    ]

-- withheld answers rest on no more entries than were seen, even if more were seen since
pub within_more : (reach : ReachView) (old new : List (List Entry)) → ((i : ℕ) → IsPrefix (row old i) (row new i)) → IsWithin reach old → IsWithin reach new
within_more reach old new grown within i = omega (arith, within i, prefix_length (row old i) (row new i) (grown i))

-- a release empties the receipts
pub lets_go : (was : DeskView) (now : ClerkView) → ((i : ℕ) → IsPrefix (row was.clerk.sights i) (row now.sights i))
    → now ≡ record was.clerk { sights = now.sights; receipts = [] } → LetsGo was (record was { clerk = now })
lets_go was now begins same = record { sights = begins; same = λ i. record was { clerk = same i } }
