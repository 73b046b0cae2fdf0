-- The hints at what raised an alert (own): facts of the trail, in one order. The first that holds is given.
use Rattle.std.specs.Prelude.{ℕ, ◌+◌, ◌-◌, ◌==◌, Bool, true, false, not, ◌&&◌, List, [], ◌∷◌, codes, find, map, nat_le, Option, Some, None, option_map, if◌then◌else◌}
use Rattle.std.specs.Char.{is_ascii_lowercase, is_ascii_uppercase}
use Rattle.std.specs.Option.{is_none, is_some, option_and_then}
use Rattle.std.specs.Str.{bytes_eq}
use Rattle.nmvs_identifier.specs.Serial.{Serial}
use Rattle.nmvs_identifier.specs.Texts.{same_text}
use Rattle.nmvs_identifier.specs.declared.pack.Pack.{Pack}
use Rattle.nmvs_rules.specs.declared.cause.Cause.{Cause}
use Rattle.nmvs_rules.specs.declared.cause.Cause.TheVariants as causes
use Rattle.nmvs_rules.specs.declared.entry.Entry.{Entry}
use Rattle.nmvs_rules.specs.declared.facts.Known.{Known}
use Rattle.nmvs_rules.specs.declared.facts.Mark.{Mark}
use Rattle.nmvs_rules.specs.declared.put.Put.{Put}
use Rattle.nmvs_rules.specs.Trail.{holder_of, known}
use Rattle.nmvs_cases.specs.declared.hint.Hint.{Hint}
use Rattle.nmvs_cases.specs.declared.hint.Hint.TheVariants.{Late, Caps, Layout, NoCode, Own, House}
use Rattle.nmvs_cases.specs.declared.keyboard.Keyboard.{Keyboard}
use Rattle.nmvs_cases.specs.declared.keyboard.Keyboard.TheVariants.{CapsLock, ExchangesYAndZ}
use Rattle.nmvs_cases.specs.declared.range.Hinted.{Hinted}
use Rattle.nmvs_cases.specs.declared.range.Hinted.TheVariants.{Any, Only}

-- the word of a hint
abbrev pub hint_word : Hint → List ℕ
hint_word Late = codes "LATE"
hint_word Caps = codes "CAPS"
hint_word Layout = codes "LAYOUT"
hint_word NoCode = codes "NOCODE"
hint_word Own = codes "OWN"
hint_word House = codes "HOUSE"

-- all hints, in the order in which they are looked for
abbrev pub all_hints : List Hint
all_hints = Late ∷ Caps ∷ Layout ∷ NoCode ∷ Own ∷ House ∷ []

abbrev pub hint_named : List ℕ → Option Hint
hint_named w = find (λ h. bytes_eq w (hint_word h)) all_hints

-- what stands for the hints that an act is about
abbrev pub hinted_word : Hinted → List ℕ
hinted_word Any = codes "*"
hinted_word (Only None) = codes "-"
hinted_word (Only (Some h)) = hint_word h

abbrev pub hinted_named : List ℕ → Option Hinted
hinted_named w = if bytes_eq w (codes "*") then Some Any else (if bytes_eq w (codes "-") then Some (Only None) else option_map (λ h. Only (Some h)) (hint_named w))

-- a letter in the other case; y and z in each other's place
abbrev pub in_other_case : ℕ → ℕ
in_other_case b = if is_ascii_lowercase b then b - 32 else (if is_ascii_uppercase b then b + 32 else b)

abbrev pub with_y_for_z : ℕ → ℕ
with_y_for_z b = if b == 121 then 122 else (if b == 122 then 121 else (if b == 89 then 90 else (if b == 90 then 89 else b)))

abbrev pub typed_byte : Keyboard → ℕ → ℕ
typed_byte CapsLock b = in_other_case b
typed_byte ExchangesYAndZ b = with_y_for_z b

abbrev pub typed_serial : Keyboard → Serial → Serial
typed_serial k s = record { bytes = map (typed_byte k) s.bytes }

-- the pack whose serial number such a keyboard makes of this one's
abbrev pub typed_pack : Keyboard → Pack → Pack
typed_pack k p = record { code = p.code; serial = typed_serial k p.serial }

-- whether a pack is known at the end of a trail: it was uploaded
abbrev pub is_known : List Entry → Pack → Bool
is_known t p = is_some (known t p)

-- whether a hint holds of an alert that an unknown pack raised, over the trail up to now
abbrev pub holds_of_unknown : List Entry → Pack → Hint → Bool
holds_of_unknown t p Late = is_known t p
holds_of_unknown t p Caps = is_known t (typed_pack CapsLock p)
holds_of_unknown t p Layout = is_known t (typed_pack ExchangesYAndZ p)
holds_of_unknown t p NoCode = is_none (holder_of t p.code)
holds_of_unknown t p _ = false

abbrev pub unknown_hint : List Entry → Pack → Option Hint
unknown_hint t p = find (holds_of_unknown t p) all_hints

-- whether the question comes at most a day after the operation
abbrev pub is_in_a_day : Mark → Put → Bool
is_in_a_day m q = nat_le q.moment (m.moment + 86400)

-- whether a hint holds of an alert to a question, by the last operation on its pack
abbrev pub holds_behind : Mark → Put → Hint → Bool
holds_behind m q Own = is_in_a_day m q && same_text m.authorisation q.actor.authorisation && same_text m.premises q.actor.premises
holds_behind m q House = is_in_a_day m q && same_text m.authorisation q.actor.authorisation && not (same_text m.premises q.actor.premises)
holds_behind m q _ = false

abbrev pub hint_behind : Mark → Put → Option Hint
hint_behind m q = find (holds_behind m q) all_hints

-- whether the cause is an operation of a house that may repeat it
abbrev pub is_own_cause : Cause → Bool
is_own_cause causes.Held = true
is_own_cause causes.Supplied = true
is_own_cause causes.Exported = true
is_own_cause causes.Sampled = true
is_own_cause _ = false

-- the hint at an alert of this cause to a question, by what was known of its pack just before
abbrev pub repeated_hint : Cause → Put → Option Known → Option Hint
repeated_hint c q k = if is_own_cause c then option_and_then (λ it. hint_behind it.mark q) k else None

-- the hint over the trail up to now, by that at the time of the alert
abbrev pub hint_by : List Entry → Pack → Cause → Option Hint → Option Hint
hint_by t p causes.Unknown repeated = unknown_hint t p
hint_by t p _ repeated = repeated

-- the hint at an alert about a pack, over the trail up to now and the entries before the alert
abbrev pub hint_at : List Entry → List Entry → Put → Pack → Cause → Option Hint
hint_at t before q p c = hint_by t p c (repeated_hint c q (known before p))
