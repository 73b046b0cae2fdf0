-- The packs of a batch, and how each stands (own).
use Rattle.std.specs.Prelude.{◌≡◌, ℕ, ◌*◌, List, [], ◌∷◌, ◌++◌, map, filter, codes, pos, Some}
use Rattle.std.specs.List.{flat_map}
use Rattle.jiff_core.specs.DateTime.{civil_nanos}
use Rattle.jiff_core.specs.declared.civil.datetime.DateTime.{DateTime}
use Rattle.nmvs_identifier.specs.Batch.{Batch}
use Rattle.nmvs_identifier.specs.ProductCode.{ProductCode}
use Rattle.nmvs_rules.specs.declared.entry.Entry.{Entry}
use Rattle.nmvs_rules.specs.declared.facts.Known.{Known}
use Rattle.nmvs_rules.specs.Facts.{pack_fact}
use Rattle.nmvs_rules.specs.Questions.{pack_of}
use Rattle.nmvs_rules.specs.Trail.{is_birth_in}
use Rattle.nmvs_words.specs.Words.{own_word}
use Rattle.nmvs_inspect.specs.declared.form.Form.{Form}
use Rattle.nmvs_inspect.specs.Rows.{moment_text, row_in, serial_text}

-- a pack's upload, the values known of it at the end of the trail, and the date and time (UTC) of its last accepted
-- entry
pub record Standing (t : List Entry) : Type 0 where
  pub upload : Entry
  pub known : Known
  pub at : DateTime
  pub is : pack_fact t (pack_of upload.put.question) ≡ Some known
  pub right : civil_nanos at ≡ pos (known.mark.moment * 1_000_000_000)

-- the packs that were uploaded in the batch, in the order of their accepted uploads; a lawful trail has one for each
pub record AreOfBatch (c : ProductCode) (b : Batch) (t : List Entry) (ps : List (Standing t)) : Type 0 where
  pub these : map (λ p. p.upload) ps ≡ filter (is_birth_in c b) t

-- the columns, and their widths in a table
abbrev pub columns : List (List ℕ)
columns =
    codes "serial" ∷ codes "expiry" ∷ codes "status" ∷ codes "moment" ∷ codes "authorisation" ∷ codes "premises" ∷ []

abbrev pub widths : List ℕ
widths = 20 ∷ 6 ∷ 9 ∷ 19 ∷ 13 ∷ []

-- the row of a pack: how it stands, since when, and by whom
abbrev pub pack_row : Form → Entry → Known → DateTime → List ℕ
pack_row form upload k at =
    row_in widths form (
    serial_text (pack_of upload.put.question) ∷ k.expiry.bytes ∷ own_word k.own ∷ moment_text at ∷ k.mark.authorisation.bytes
    ∷ k.mark.premises.bytes ∷ []
    )

-- the heads of the columns
abbrev pub heads : Form → List ℕ
heads form = row_in widths form columns

-- the text of the packs of a batch
abbrev pub packs_text : Form → (t : List Entry) → List (Standing t) → List ℕ
packs_text form t ps = heads form ++ flat_map (λ p. pack_row form p.upload p.known p.at) ps
