-- The text of an answer in its two forms (own).
use Rattle.std.specs.Prelude.{ℕ, List}
use Rattle.nmvs_protocol.specs.declared.wording.Wording.{Wording}
use Rattle.nmvs_protocol.specs.declared.wording.Wording.TheVariants as wordings

-- the bytes of a text that was composed or lent
abbrev pub wording_text : Wording → List ℕ
wording_text (wordings.Composed t) = t.bytes
wording_text (wordings.Lent t) = t.now
