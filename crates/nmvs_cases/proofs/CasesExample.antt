-- Hints and cases; what is expected is written by hand.
use Rattle.std.proofs.Common.{◌≡◌, ℕ, ◌+◌, Bool, true, false, List, [], ◌∷◌, Option, Some, None, refl}
use Rattle.std.specs.Prelude.{codes, map}
use Rattle.std.specs.Option.{option_and_then}
use Rattle.nmvs_identifier.specs.Texts.{Text}
use Rattle.nmvs_identifier.specs.declared.pack.Pack.{Pack}
use Rattle.nmvs_rules.specs.declared.cause.Cause.{Cause}
use Rattle.nmvs_rules.specs.declared.cause.Cause.TheVariants as cause
use Rattle.nmvs_rules.specs.declared.entry.Entry.{Entry}
use Rattle.nmvs_rules.specs.declared.put.Put.{Put}
use Rattle.nmvs_rules.specs.declared.pack_question.PackQuestion.TheVariants.{Verify, Decommission}
use Rattle.nmvs_rules.specs.declared.question.Question.{Question}
use Rattle.nmvs_rules.specs.declared.question.Question.TheVariants.{Upload, OfPack}
use Rattle.nmvs_rules.specs.declared.reason.Reason.TheVariants as reason
use Rattle.nmvs_rules.specs.declared.reply.Reply.TheVariants as reply
use Rattle.nmvs_rules.specs.declared.role.Role.{Role}
use Rattle.nmvs_rules.specs.declared.role.Role.TheVariants as role
use Rattle.nmvs_cases.specs.declared.act.Act.{Act}
use Rattle.nmvs_cases.specs.declared.act.Act.TheVariants.{Take, Leave, Note, Close, Confirm, Inform, Reopen}
use Rattle.nmvs_cases.specs.declared.act.Reader.{Reader}
use Rattle.nmvs_cases.specs.declared.act.Reader.TheVariants.{Officer, Authority, Owner}
use Rattle.nmvs_cases.specs.declared.act.Verdict.TheVariants.{Technical, Market}
use Rattle.nmvs_cases.specs.declared.act.Whom.TheVariants as whom
use Rattle.nmvs_cases.specs.declared.hint.Hint.{Hint}
use Rattle.nmvs_cases.specs.declared.hint.Hint.TheVariants as hint
use Rattle.nmvs_cases.specs.declared.range.Hinted.TheVariants.{Only}
use Rattle.nmvs_cases.specs.Cases.{has, is_listed}
use Rattle.nmvs_cases.specs.Hints.{hint_at}
use Rattle.nmvs_cases.specs.Laws.{Done, case_after}

abbrev text : List ℕ → Text
text t = record { bytes = t }

abbrev pack : List ℕ → Pack
pack serial = record { code = text (codes "09506000134352"); serial = text serial }

abbrev put : ℕ → Role → List ℕ → List ℕ → Question → Put
put moment of authorisation premises question = record {
  moment = moment;
  user = text (codes "u1");
  actor = record { role = of; authorisation = text authorisation; premises = text premises };
  question = question;
  tag = None;
}

-- an upload of a pack, and a supply of SN1 at moment 1,000,000 by PH-1 at P1
abbrev uploaded : List ℕ → Entry
uploaded serial = record { put = put 900000 role.Holder (codes "MAH-1") (codes "HQ") (Upload (pack serial) (text (codes "B1")) (text (codes "280200"))); reply = reply.Uploaded }

abbrev supplied : Entry
supplied = record { put = put 1000000 role.Pharmacy (codes "PH-1") (codes "P1") (OfPack (Decommission reason.Supply) (pack (codes "SN1"))); reply = reply.Decommissioned }

-- the hint at an alert on an unknown pack, where these packs were uploaded up to now
abbrev unknown : List (List ℕ) → List ℕ → Option Hint
unknown known serial = hint_at (map uploaded known) [] (put 950000 role.Pharmacy (codes "PH-1") (codes "P1") (OfPack Verify (pack serial))) (pack serial) cause.Unknown

unknowns : unknown (codes "SN1" ∷ []) (codes "SN1") ∷ unknown (codes "sN1a" ∷ []) (codes "Sn1A") ∷ unknown (codes "XYz1" ∷ []) (codes "XZy1") ∷ unknown [] (codes "SN1") ∷ unknown (codes "SN1" ∷ []) (codes "SN2") ∷ unknown (codes "SN1" ∷ codes "sn1" ∷ []) (codes "SN1") ∷ []
    ≡ Some hint.Late ∷ Some hint.Caps ∷ Some hint.Layout ∷ Some hint.NoCode ∷ None ∷ Some hint.Late ∷ []
unknowns = refl

-- the hint at an alert on SN1 after its supply, seconds later, of this house, for this cause
abbrev later : ℕ → List ℕ → List ℕ → Cause → Option Hint
later seconds authorisation premises of =
    hint_at (uploaded (codes "SN1") ∷ supplied ∷ []) (uploaded (codes "SN1") ∷ supplied ∷ []) (put (1000000 + seconds) role.Pharmacy authorisation premises (OfPack Verify (pack (codes "SN1")))) (pack (codes "SN1")) of

repetitions : later 60 (codes "PH-1") (codes "P1") cause.Supplied ∷ later 60 (codes "PH-1") (codes "P2") cause.Supplied ∷ later 60 (codes "PH-2") (codes "P1") cause.Supplied ∷ later 86400 (codes "PH-1") (codes "P1") cause.Supplied ∷ later 86401 (codes "PH-1") (codes "P1") cause.Supplied ∷ later 60 (codes "PH-1") (codes "P1") cause.Stolen ∷ []
    ≡ Some hint.Own ∷ Some hint.House ∷ None ∷ Some hint.Own ∷ None ∷ None ∷ []
repetitions = refl

-- whether a case stands in the list of work after these acts, the latest first; none if one of them is refused
abbrev listed : List Done → Option Bool
listed ds = option_and_then (λ s. Some (is_listed s)) (case_after ds)

abbrev by : Act → Reader → Done
by act reader = record { act = act; reader = reader; user = text (codes "officer1") }

cases : listed [] ∷ listed (by (Close Technical) Officer ∷ []) ∷ listed (by Confirm Officer ∷ []) ∷ listed (by (Close Market) Owner ∷ []) ∷ listed (by Note Owner ∷ by Take Officer ∷ []) ∷ listed (by Take Officer ∷ by Take Officer ∷ []) ∷ []
    ≡ Some true ∷ Some false ∷ None ∷ None ∷ Some true ∷ None ∷ []
cases = refl

-- the authority, the Agency and the Commission are informed of a confirmed one
abbrev told : List Done
told = by (Inform whom.Agency) Officer ∷ by (Inform whom.Authority) Authority ∷ by Confirm Authority ∷ []

confirmed-cases : listed told ∷ listed (by (Inform whom.Holder) Officer ∷ told) ∷ listed (by (Inform whom.Commission) Officer ∷ told) ∷ listed (by Reopen Officer ∷ told) ∷ listed (by Leave Officer ∷ by Reopen Authority ∷ told) ∷ []
    ≡ Some true ∷ Some true ∷ Some false ∷ None ∷ None ∷ []
confirmed-cases = refl

-- a range has its own numbers, of its own code and hint
abbrev among : ℕ → Option Hint → Bool
among number of = has (record { code = text (codes "09506000134352"); first = 2; last = 4; hinted = Only (Some hint.Late) }) (text (codes "09506000134352")) number of

ranges : among 1 (Some hint.Late) ∷ among 2 (Some hint.Late) ∷ among 4 (Some hint.Late) ∷ among 5 (Some hint.Late) ∷ among 3 (Some hint.Own) ∷ among 3 None ∷ [] ≡ false ∷ true ∷ true ∷ false ∷ false ∷ false ∷ []
ranges = refl
