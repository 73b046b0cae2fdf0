-- Enrolments: who may ask until when, and which products a holder may upload.
use Rattle.std.specs.Prelude.{ℕ, Bool, true, false, List, Option, None, Some, ◌&&◌}
use Rattle.nmvs_identifier.specs.Codes.{Codes, is_codes, covers}
use Rattle.nmvs_identifier.specs.Expiry.{Expiry, is_expiry}
use Rattle.nmvs_identifier.specs.ProductCode.{ProductCode}
use Rattle.nmvs_identifier.specs.Texts.{Text, same_text}
use Rattle.nmvs_rules.specs.declared.enrolment.Enrolment.{Enrolment}
use Rattle.nmvs_rules.specs.Entries.{is_actor}
use Rattle.nmvs_rules.specs.Repeats.{same_actor}
use Rattle.nmvs_rules.specs.Rules.{is_past}

-- whether an enrolment with this last day, if it has one, has ended at a moment: it ends with that day, by UTC (own)
abbrev pub has_ended : Option Expiry → ℕ → Bool
has_ended None moment = false
has_ended (Some last) moment = is_past last moment

-- whether a holder whose enrolment names these products, if it names any, may upload this one. Its identity and
-- legitimacy were verified for those alone (Article 37(b); the list is own).
abbrev pub may_upload : Option Codes → ProductCode → Bool
may_upload None code = true
may_upload (Some codes) code = covers codes code

-- whether a text that may be missing is in its grammar
abbrev pub is_if_there : (List ℕ → Bool) → Option Text → Bool
is_if_there grammar None = true
is_if_there grammar (Some t) = grammar t.bytes

-- whether the texts of an enrolment are in their grammars
abbrev pub is_enrolment : Enrolment → Bool
is_enrolment e = is_actor e.actor && is_if_there is_expiry e.until && is_if_there is_codes e.codes

-- whether two texts that may be missing are the same
abbrev pub same_if_there : Option Text → Option Text → Bool
same_if_there None None = true
same_if_there (Some s) (Some t) = same_text s t
same_if_there _ _ = false

-- whether two enrolments are the same
abbrev pub same_enrolment : Enrolment → Enrolment → Bool
same_enrolment a b = same_actor a.actor b.actor && same_if_there a.until b.until && same_if_there a.codes b.codes
