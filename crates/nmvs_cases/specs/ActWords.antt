-- The words of acts (own), and the texts that they take.
use Rattle.std.specs.Prelude.{ℕ, Bool, true, false, not, ◌==◌, List, [], ◌∷◌, codes, find, length, Option, Some, None, option_map, if◌then◌else◌}
use Rattle.std.specs.Str.{bytes_eq}
use Rattle.nmvs_cases.specs.declared.act.Act.{Act}
use Rattle.nmvs_cases.specs.declared.act.Act.TheVariants.{Take, Leave, Note, Close, Confirm, Inform, Reopen}
use Rattle.nmvs_cases.specs.declared.act.Verdict.{Verdict}
use Rattle.nmvs_cases.specs.declared.act.Verdict.TheVariants.{Technical, Procedural, Market}
use Rattle.nmvs_cases.specs.declared.act.Whom.{Whom}
use Rattle.nmvs_cases.specs.declared.act.Whom.TheVariants.{Authority, Agency, Commission, Holder}

abbrev pub verdict_word : Verdict → List ℕ
verdict_word Technical = codes "TECHNICAL"
verdict_word Procedural = codes "PROCEDURAL"
verdict_word Market = codes "MARKET"

abbrev pub verdict_named : List ℕ → Option Verdict
verdict_named w = find (λ v. bytes_eq w (verdict_word v)) (Technical ∷ Procedural ∷ Market ∷ [])

abbrev pub whom_word : Whom → List ℕ
whom_word Authority = codes "AUTHORITY"
whom_word Agency = codes "EMA"
whom_word Commission = codes "COMMISSION"
whom_word Holder = codes "HOLDER"

abbrev pub whom_named : List ℕ → Option Whom
whom_named w = find (λ x. bytes_eq w (whom_word x)) (Authority ∷ Agency ∷ Commission ∷ Holder ∷ [])

abbrev pub act_word : Act → List ℕ
act_word Take = codes "TAKE"
act_word Leave = codes "LEAVE"
act_word Note = codes "NOTE"
act_word (Close v) = codes "CLOSE"
act_word Confirm = codes "CONFIRM"
act_word (Inform w) = codes "INFORM"
act_word Reopen = codes "REOPEN"

-- the word of the verdict of a closing, or of who is informed
abbrev pub detail_word : Act → Option (List ℕ)
detail_word (Close v) = Some (verdict_word v)
detail_word (Inform w) = Some (whom_word w)
detail_word _ = None

-- the act with this word alone, and that with a word more
abbrev pub act_named : List ℕ → Option Act
act_named w = find (λ a. bytes_eq w (act_word a)) (Take ∷ Leave ∷ Note ∷ Confirm ∷ Reopen ∷ [])

abbrev pub act_named_with : List ℕ → List ℕ → Option Act
act_named_with w detail = if bytes_eq w (codes "CLOSE") then option_map Close (verdict_named detail) else (if bytes_eq w (codes "INFORM") then option_map Inform (whom_named detail) else None)

-- whether a line has a text with the act, which may be empty
abbrev pub has_text : Act → Bool
has_text Take = false
has_text Leave = false
has_text _ = true

-- whether the act takes this text: a note needs one, to take or to leave an alert has none, and any other act may have one
abbrev pub takes : Act → List ℕ → Bool
takes Take t = length t == 0
takes Leave t = length t == 0
takes Note t = not (length t == 0)
takes _ t = true
