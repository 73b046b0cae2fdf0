-- Entries as rows: the cells of each, and the texts of rows (own).
use Rattle.std.specs.Prelude.{◌≡◌, ◌==◌, if◌then◌else◌, slice_index, ℕ, ◌+◌, ◌-◌, ◌*◌, List, [], ◌∷◌, ◌++◌, length, map, take, replicate, codes, pos, Option, Some, None}
use Rattle.std.specs.List.{flat_map}
use Rattle.csv.specs.Writing.{default_writer, row_text}
use Rattle.jiff_core.specs.DateTime.{civil_nanos}
use Rattle.jiff_core.specs.declared.civil.datetime.DateTime.{DateTime}
use Rattle.jiff_fmt.specs.Text.{date_text, time_text}
use Rattle.nmvs_identifier.specs.Batch.{Batch}
use Rattle.nmvs_identifier.specs.declared.pack.Pack.{Pack}
use Rattle.nmvs_rules.specs.declared.entry.Entry.{Entry}
use Rattle.nmvs_rules.specs.declared.reply.Reply.{Reply}
use Rattle.nmvs_rules.specs.Questions.{code_of, pack_of}
use Rattle.nmvs_words.specs.Kinds.{kind_of, kind_word}
use Rattle.nmvs_words.specs.Words.{role_word}
use Rattle.nmvs_line.specs.Export.{ended_line}
use Rattle.nmvs_protocol.specs.Texts.{reply_text}
use Rattle.nmvs_inspect.specs.declared.filter.Filter.{Filter}
use Rattle.nmvs_inspect.specs.declared.form.Form.{Form}
use Rattle.nmvs_inspect.specs.declared.form.Form.TheVariants as form
use Rattle.nmvs_inspect.specs.Filter.{named_batch}
use Rattle.nmvs_inspect.specs.Html.{html_row}
use Rattle.nmvs_inspect.specs.Replies.{value_cells}
use Rattle.nmvs_inspect.specs.Selection.{selected}

-- an entry with the date and the time of its moment, by UTC
pub record Dated : Type 0 where
  pub entry : Entry
  pub at : DateTime
  pub right : civil_nanos at ≡ pos (entry.put.moment * 1_000_000_000)

-- `2026-01-01 00:00:00`
abbrev pub moment_text : DateTime → List ℕ
moment_text at = date_text at.date ++ (codes " " ++ time_text None at.time)

-- the serial number of the pack that is named, and the batch that is named, if any
abbrev pub serial_text : Option Pack → List ℕ
serial_text None = []
serial_text (Some p) = p.serial.bytes

abbrev pub batch_text : Option Batch → List ℕ
batch_text None = []
batch_text (Some b) = b.bytes

-- the words of a reply: its text without the LF
abbrev pub reply_cell : Reply → List ℕ
reply_cell r = let line = reply_text r [] in take (length line - 1) line

-- the cells of a reply in a form: its words in one, or in CSV its values by columns
abbrev pub reply_cells : Form → Reply → List (List ℕ)
reply_cells form.Csv r = value_cells r
reply_cells form.Table r = reply_cell r ∷ []
reply_cells form.Json r = reply_cell r ∷ []
reply_cells form.Html r = reply_cell r ∷ []

-- the columns, and the cells of an entry
abbrev pub columns : List (List ℕ)
columns =
    codes "moment" ∷ codes "user" ∷ codes "role" ∷ codes "authorisation" ∷ codes "premises" ∷ codes "question"
    ∷ codes "code" ∷ codes "serial" ∷ codes "batch" ∷ codes "reply" ∷ []

abbrev pub csv_columns : List (List ℕ)
csv_columns =
    codes "moment" ∷ codes "user" ∷ codes "role" ∷ codes "authorisation" ∷ codes "premises" ∷ codes "question"
    ∷ codes "code" ∷ codes "serial" ∷ codes "batch" ∷ codes "reply" ∷ codes "cause" ∷ codes "flag" ∷ codes "number"
    ∷ codes "refusal" ∷ codes "detail" ∷ []

abbrev pub cells : Form → Dated → List (List ℕ)
cells form d = let e = d.entry in let q = e.put.question in
    (moment_text d.at ∷ e.put.user.bytes ∷ role_word e.put.actor.role ∷ e.put.actor.authorisation.bytes
    ∷ e.put.actor.premises.bytes ∷ kind_word (kind_of q) ∷ (code_of q).bytes ∷ serial_text (pack_of q)
    ∷ batch_text (named_batch q) ∷ []) ++ reply_cells form e.reply

-- the cells of an entry on a page: those that are looked at most come first
abbrev pub html_cells : Dated → List (List ℕ)
html_cells d = let e = d.entry in let q = e.put.question in
    moment_text d.at ∷ e.put.user.bytes ∷ e.put.actor.authorisation.bytes ∷ e.put.actor.premises.bytes ∷ kind_word (kind_of q)
    ∷ (code_of q).bytes ∷ serial_text (pack_of q) ∷ reply_cell e.reply ∷ role_word e.put.actor.role ∷ batch_text (named_batch q) ∷ []

-- the widths of the columns of a table; a longer cell makes its row longer
abbrev pub widths : List ℕ
widths = 19 ∷ 8 ∷ 12 ∷ 13 ∷ 8 ∷ 8 ∷ 14 ∷ 20 ∷ 8 ∷ []

-- a cell, filled up with blanks to a width
abbrev pub filled : ℕ → List ℕ → List ℕ
filled w c = c ++ replicate (w - length c) 32

-- the byte between a cell and these: LF after the last cell, a blank after another
abbrev pub ending : List (List ℕ) → ℕ
ending cs = if length cs == 0 then 10 else 32

-- cells in columns of these widths, from a column on; a column without a width is as wide as its cell
unfoldable pub table_from : List ℕ → ℕ → List (List ℕ) → List ℕ
table_from ws i [] = []
table_from ws i (c ∷ cs) = filled (slice_index ws i) c ++ ending cs ∷ table_from ws (i + 1) cs

abbrev pub table_row : List ℕ → List (List ℕ) → List ℕ
table_row ws cs = table_from ws 0 cs

-- a row in a form, with these widths in a table; an entry's line has a form of its own
abbrev pub row_in : List ℕ → Form → List (List ℕ) → List ℕ
row_in ws form.Table cs = table_row ws cs
row_in ws form.Csv cs = row_text default_writer cs
row_in ws form.Json cs = table_row ws cs
row_in ws form.Html cs = html_row cs []

abbrev pub row : Form → List (List ℕ) → List ℕ
row form cs = row_in widths form cs

abbrev pub header : Form → List ℕ
header form.Json = []
header form.Csv = row form.Csv csv_columns
header form.Table = row form.Table columns
header form.Html = row form.Html columns

abbrev pub entry_text : Form → Dated → List ℕ
entry_text form.Json d = ended_line d.entry
entry_text form.Csv d = row form.Csv (cells form.Csv d)
entry_text form.Table d = row form.Table (cells form.Table d)
entry_text form.Html d = row form.Html (html_cells d)

-- the entries of a trail that a filter takes, oldest first, with their dates
pub record AreTaken (f : Filter) (t : List Entry) (ds : List Dated) : Type 0 where
  pub these : map (λ d. d.entry) ds ≡ selected f t

-- the text of a list
abbrev pub list_text : Form → List Dated → List ℕ
list_text f ds = header f ++ flat_map (entry_text f) ds
