-- What readers get over a trail of two flagged alerts; what is expected is written by hand.
use Rattle.std.proofs.Common.{◌≡◌, ◌-◌, ℕ, true, false, List, [], ◌∷◌, Some, None, length, refl}
use Rattle.std.specs.Prelude.{codes}
use Rattle.std.specs.List.{slice_get}
use Rattle.nmvs_identifier.specs.Texts.{Text}
use Rattle.nmvs_inspect.specs.Filter.{every}
use Rattle.nmvs_inspect.specs.declared.filter.Filter.{Filter}
use Rattle.nmvs_rules.specs.declared.cause.Cause.TheVariants as cause
use Rattle.nmvs_rules.specs.declared.entry.Entry.{Entry}
use Rattle.nmvs_rules.specs.declared.pack_question.PackQuestion.TheVariants.{Verify}
use Rattle.nmvs_rules.specs.declared.question.Question.TheVariants.{OfPack}
use Rattle.nmvs_rules.specs.declared.reply.Reply.TheVariants as reply
use Rattle.nmvs_rules.specs.declared.role.Role.{Role}
use Rattle.nmvs_rules.specs.declared.role.Role.TheVariants as role
use Rattle.nmvs_cases.specs.declared.author.Author.{Author}
use Rattle.nmvs_cases.specs.declared.author.Author.TheVariants.{Officer, User}
use Rattle.nmvs_cases.specs.declared.hint.Hint.TheVariants.{Late, NoCode}
use Rattle.nmvs_cases.specs.declared.range.Hinted.{Hinted}
use Rattle.nmvs_cases.specs.declared.range.Hinted.TheVariants.{Any, Only}
use Rattle.nmvs_alerts.specs.Alerts.{raised, raised_from}
use Rattle.nmvs_alerts.specs.Answers.{entries_of, may_ask, number_of, ranged}

abbrev text : List ℕ → Text
text t = record { bytes = t }

-- an unknown pack was verified at the premises of a pharmacy: alert of this number
abbrev verified : ℕ → List ℕ → List ℕ → List ℕ → Entry
verified number serial authorisation premises = record {
  put = record {
    moment = 1767225600;
    user = text (codes "ph1");
    actor = record { role = role.Pharmacy; authorisation = text authorisation; premises = text premises };
    question = OfPack Verify (record { code = text (codes "09506000134352"); serial = text serial });
    tag = None;
  };
  reply = reply.Alert cause.Unknown true number;
}

abbrev trail : List Entry
trail = verified 1 (codes "SN1") (codes "PH-1") (codes "P1") ∷ verified 2 (codes "SN2") (codes "PH-2") (codes "P2") ∷ []

abbrev reads : Role → List ℕ → List ℕ → Author
reads as_role authorisation premises = User (text (codes "u1")) (record { role = as_role; authorisation = text authorisation; premises = text premises })

abbrev officer : Author
officer = Officer (text (codes "officer1"))

-- the first number, the last one, and how many alerts on the code are in the range, for each kind of reader; nobody has uploaded the code
abbrev range : Author → Hinted → List ℕ
range u h =
    let found = ranged trail u (text (codes "09506000134352")) h (raised trail) in
    number_of trail (slice_get found 0) ∷ number_of trail (slice_get found (length found - 1)) ∷ length found ∷ []

ranges : range officer (Only (Some NoCode)) ∷ range officer Any ∷ range officer (Only (Some Late)) ∷ range (reads role.Pharmacy (codes "PH-2") (codes "P2")) Any ∷ range (reads role.Holder (codes "MAH-1") (codes "HQ")) Any ∷ []
    ≡ (1 ∷ 2 ∷ 2 ∷ []) ∷ (1 ∷ 2 ∷ 2 ∷ []) ∷ (0 ∷ 0 ∷ 0 ∷ []) ∷ (2 ∷ 2 ∷ 1 ∷ []) ∷ (0 ∷ 0 ∷ 0 ∷ []) ∷ []
unfolding raised_from
ranges = refl

-- who asks for alerts by premises
abbrev at_p1 : Filter
at_p1 = record every { premises = Some (text (codes "P1")) }

asks : may_ask officer at_p1 ∷ may_ask (reads role.Pharmacy (codes "PH-1") (codes "P1")) at_p1 ∷ may_ask (reads role.Holder (codes "MAH-1") (codes "HQ")) at_p1 ∷ may_ask (reads role.Holder (codes "MAH-1") (codes "HQ")) every ∷ []
    ≡ true ∷ true ∷ false ∷ true ∷ []
asks = refl

-- the filter of the entries that a reader gets
owns : entries_of (reads role.Pharmacy (codes "PH-1") (codes "P1")) every ∷ entries_of (reads role.Pharmacy (codes "PH-1") (codes "P1")) at_p1 ∷ entries_of (reads role.Pharmacy (codes "PH-2") (codes "P2")) at_p1 ∷ entries_of (reads role.Authority (codes "NCA") (codes "HQ")) at_p1 ∷ entries_of (reads role.Holder (codes "MAH-1") (codes "HQ")) every ∷ entries_of officer every ∷ []
    ≡ Some (record every { authorisation = Some (text (codes "PH-1")); premises = Some (text (codes "P1")) }) ∷ Some (record every { authorisation = Some (text (codes "PH-1")); premises = Some (text (codes "P1")) }) ∷ None ∷ Some at_p1 ∷ None ∷ None ∷ []
owns = refl
