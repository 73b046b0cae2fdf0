-- A line that is turned away before it is asked.
use Rattle.std.proofs.Common.{◌≡◌, ◌∙◌, Bool, true, false, List, refl, sym, ap, subst, inl, inr}
use Rattle.nmvs_identifier.specs.Name.{Name}
use Rattle.nmvs_directory.specs.declared.change.Change.{Change}
use Rattle.nmvs_directory.specs.declared.look.Look.{Look}
use Rattle.nmvs_rules.specs.declared.enrolment.Enrolment.{Enrolment}
use Rattle.nmvs_rules.specs.declared.entry.Entry.{Entry}
use Rattle.nmvs_rules.specs.declared.role.Role.{Role}
use Rattle.nmvs_rules.specs.declared.role.Role.TheVariants as role
use Rattle.nmvs_desk.specs.Views.{ClerkView}
use Rattle.nmvs_messages.specs.declared.answer.Turn.{Turn}
use Rattle.nmvs_messages.specs.declared.answer.Turn.TheVariants as turns
use Rattle.nmvs_messages.specs.declared.ask.Ask.{Ask}
use Rattle.nmvs_messages.specs.declared.ask.Asked.{Asked}
use Rattle.nmvs_messages.specs.declared.ask.Asked.TheVariants as asked
use Rattle.nmvs_messages.specs.declared.peer.Peer.{Peer}
use Rattle.nmvs_reception.specs.Desk.{DeskView, is_report, may_ask_this, with_sights, Knows, LooksUp, Refuses, StopsAtClock}

-- the clerk as it was, but for the changes that it has seen
abbrev seeing : List Change → ClerkView → ClerkView
seeing seen clerk = record clerk { seen = seen }

looked : (old new : DeskView) (user : Name) (look : Look) → LooksUp old user look new → new.clerk ≡ seeing new.clerk.seen old.clerk
looked old new user look is =
    ap (λ (d : DeskView). d.clerk) is.same ∙ ap (seeing new.clerk.seen) (ap (λ (d : DeskView). d.clerk) is.is.same)

stopped : (old new : DeskView) → StopsAtClock old new → new.clerk ≡ seeing new.clerk.seen old.clerk
stopped old new is =
    let same : new.clerk ≡ old.clerk = ap (λ (d : DeskView). d.clerk) is.same in
    subst (λ (c : ClerkView). c ≡ seeing c.seen old.clerk) (sym same) refl

-- nothing of the trails is looked at
pub unlooked : (old new : DeskView) (from : Peer) (ask : Ask) (turn : Turn) → Refuses old from ask turn new → new.clerk ≡ seeing new.clerk.seen old.clerk
unlooked old new from ask turns.Clock is = stopped old new is
unlooked old new from ask turns.Nobody (inl is) = looked old new _ _ is
unlooked old new from ask turns.Nobody (inr (inl is)) = looked old new _ _ is.1.looks
unlooked old new from ask turns.Nobody (inr (inr is)) = looked old new _ _ is.0
unlooked old new from ask turns.Suspended is = looked old new _ _ is.0
unlooked old new from ask turns.Closed is = looked old new _ _ is
unlooked old new from ask turns.Rate is = looked old new _ _ is.2.looks
unlooked old new from ask turns.Memory is = looked old new _ _ is.2.looks
unlooked old new from ask turns.Role is = looked old new _ _ is.1.looks
unlooked old new from ask turns.Product is = looked old new _ _ is.1.looks
unlooked old new from ask turns.Journal is = absurd is
unlooked old new from ask turns.Tag is = absurd is
unlooked old new from ask turns.Differs is = absurd is
unlooked old new from ask turns.Changed is = absurd is

-- the same on other trails
looks : (s : List (List Entry)) (old new : DeskView) (user : Name) (look : Look) → LooksUp old user look new → LooksUp (with_sights s old) user look (with_sights s new)
looks s old new user look is = record {
  told = with_sights s is.told;
  is = record { same = λ i. with_sights s (is.is.same i); moment = is.is.moment; seen = is.is.seen; latest = is.is.latest };
  said = is.said;
  reads = is.reads;
  moment = is.moment;
  at = is.at;
  stands = is.stands;
  same = λ i. with_sights s (is.same i);
}

knows : (s : List (List Entry)) (old new : DeskView) (from : Peer) (ask : Ask) (may : Bool) (enrolment : Enrolment)
    → Knows old from ask may enrolment new → Knows (with_sights s old) from ask may enrolment (with_sights s new)
knows s old new from ask may enrolment is = record { looks = looks s old new _ _ is.looks; speaks = is.speaks }

pub whatever : (old new : DeskView) (from : Peer) (ask : Ask) (turn : Turn) (s : List (List Entry)) → Refuses old from ask turn new
    → Refuses (with_sights s old) from ask turn (with_sights s new)
whatever old new from ask turns.Clock s is = record { same = λ i. with_sights s (is.same i); none = is.none }
whatever old new from ask turns.Nobody s (inl is) = inl (looks s old new _ _ is)
whatever old new from ask turns.Nobody s (inr (inl is)) = inr (inl (is.0, knows s old new from ask false is.0 is.1))
whatever old new from ask turns.Nobody s (inr (inr is)) = inr (inr (looks s old new _ _ is.0, is.1))
whatever old new from ask turns.Suspended s is = (looks s old new _ _ is.0, is.1)
whatever old new from ask turns.Closed s is = looks s old new _ _ is
whatever old new from ask turns.Rate s is = (is.0, is.1, knows s old new from ask true is.1 is.2)
whatever old new from ask turns.Memory s is = (is.0, is.1, knows s old new from ask true is.1 is.2)
whatever old new from ask turns.Role s is = (is.0, knows s old new from ask true is.0 is.1, is.2)
whatever old new from ask turns.Product s is = (is.0, knows s old new from ask true is.0 is.1, is.2)
whatever old new from ask turns.Journal s is = is
whatever old new from ask turns.Tag s is = is
whatever old new from ask turns.Differs s is = is
whatever old new from ask turns.Changed s is = is

-- a report is an authority's
pub an-authority : (what : Asked) (r : Role) → is_report what ≡ true → may_ask_this what r ≡ true → r ≡ role.Authority
an-authority (asked.Report user c) role.Authority report may = refl
an-authority (asked.Report user c) role.Holder report may = cc
an-authority (asked.Report user c) role.Manufacturer report may = cc
an-authority (asked.Report user c) role.Wholesaler report may = cc
an-authority (asked.Report user c) role.Pharmacy report may = cc
an-authority (asked.Question user q) r report may = let none : false ≡ true = report in cc
an-authority (asked.Conditional user kind p printed) r report may = let none : false ≡ true = report in cc
