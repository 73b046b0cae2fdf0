-- The answers about an export (own).
use Rattle.std.specs.Prelude.{ℕ, Bool, true, false, List, [], ◌∷◌, ◌++◌, ◌+◌, ◌-◌, ◌==◌, length, filter, codes, decimal, fold, Option, None, Some, if◌then◌else◌, ◌≡◌, string_bytes}
use Rattle.std.specs.List.{count_by, flat_map, list_any}
use Rattle.std.specs.Option.{is_some, option_map}
use Rattle.nmvs_identifier.specs.Texts.{same_text}
use Rattle.nmvs_identifier.specs.ProductCode.{ProductCode}
use Rattle.nmvs_identifier.specs.declared.pack.Pack.{Pack}
use Rattle.nmvs_stream.specs.Delivery.{Delivers}
use Rattle.nmvs_stream.specs.Sink.{Taken}
use Rattle.nmvs_rules.specs.declared.entry.Entry.{Entry}
use Rattle.nmvs_rules.specs.declared.repeat.Repeat.{Repeat}
use Rattle.nmvs_rules.specs.declared.repeat.Repeat.TheVariants as repeat
use Rattle.nmvs_rules.specs.Questions.{code_of}
use Rattle.nmvs_rules.specs.Repeats.{repeat_of}
use Rattle.nmvs_rules.specs.Trail.{is_about}
use Rattle.nmvs_rules.specs.declared.reply.Reply.TheVariants.{Shown}
use Rattle.nmvs_protocol.specs.Texts.{reply_text}
use Rattle.nmvs_reader.specs.Lines.{Imported, newer}
use Rattle.nmvs_parts.specs.Part.{PartView}
use Rattle.nmvs_parts.specs.declared.examination.PartImport.{PartImport}
use Rattle.nmvs_reports.specs.Report.{product_line, report_text}
use Rattle.nmvs_inspect.specs.Filter.{takes}
use Rattle.nmvs_inspect.specs.Groups.{AreSingle, groups_text}
use Rattle.nmvs_inspect.specs.Packs.{Standing, AreOfBatch, packs_text}
use Rattle.nmvs_inspect.specs.Page.{alerts, flagged_alerts, page_text}
use Rattle.nmvs_inspect.specs.Period.{IsLineOf, period_of}
use Rattle.nmvs_inspect.specs.Premises.{ArePremises}
use Rattle.nmvs_inspect.specs.Reports.{rows_text}
use Rattle.nmvs_inspect.specs.Rows.{Dated, AreTaken, list_text}
use Rattle.nmvs_inspect.specs.Story.{status_of, story_of, story_text}
use Rattle.nmvs_inspect.specs.declared.filter.Filter.{Filter}
use Rattle.nmvs_inspect.specs.declared.form.Form.TheVariants.{Csv}
use Rattle.nmvs_check.specs.declared.request.Request.{Request}
use Rattle.nmvs_check.specs.declared.request.Request.TheVariants as request

-- the product codes so far, and one more after them if it is new
abbrev pub with_code : List ProductCode → ProductCode → List ProductCode
with_code seen c = if list_any (same_text c) seen then seen else seen ++ c ∷ []

-- the product codes that the entries name, in order of first appearance
abbrev pub codes_named : List Entry → List ProductCode
codes_named t = fold (λ seen e. with_code seen (code_of e.put.question)) [] t

-- the number of entries that have a tag: their lines are of version 3
abbrev pub tagged_of : List Entry → ℕ
tagged_of t = count_by (λ e. is_some e.put.tag) t

-- a line with this text and a number, if there is one
abbrev pub number_line : List ℕ → Option ℕ → List ℕ
number_line front None = []
number_line front (Some n) = front ++ (decimal n ++ codes "\n")

-- the line with the number of lines of version 3, if there are any
abbrev pub third_text : ℕ → List ℕ
third_text n = number_line (codes "VERSION 3 ") (if n == 0 then None else Some n)

-- whether a question was new, compared with the entries before it
abbrev pub is_new : Repeat → Bool
is_new repeat.New = true
is_new _ = false

-- the place of the first of these entries, which follow the entries u, whose question was asked before with its tag
abbrev pub first_repeated_after : List Entry → List Entry → Option ℕ
first_repeated_after u [] = None
first_repeated_after u (e ∷ es) = if is_new (repeat_of u e.put) then first_repeated_after (u ++ e ∷ []) es else Some (length u)

-- the number of its line, counted from 1
abbrev pub repeated_line : List Entry → Option ℕ
repeated_line t = option_map (λ place. place + 1) (first_repeated_after [] t)

-- the line that names it by this number
abbrev pub repeated_text : Option ℕ → List ℕ
repeated_text n = number_line (codes "REPEATED ") n

-- the lines with the number of lines, their number in each version, and the first line that repeats a question, if any
abbrev pub counts_with : Imported → Option ℕ → List ℕ
counts_with it repeated =
    let tagged = tagged_of it.trail in
    codes "LAWFUL " ++ (decimal (length it.trail) ++ (codes "\nVERSION 1 " ++ (decimal it.older ++ (codes "\nVERSION 2 " ++ (decimal (newer it - tagged) ++ (codes "\n" ++ (third_text tagged ++ repeated_text repeated)))))))

abbrev pub counts_text : Imported → List ℕ
counts_text it = counts_with it (repeated_line it.trail)

-- what is said about a product code: its whole report, or the first line of that
abbrev pub about : List Entry → Bool → ProductCode → List ℕ
about t whole = if whole then report_text t else product_line t

-- a line for each product code
abbrev pub products_text : List Entry → List ℕ
products_text t = flat_map (product_line t) (codes_named t)

-- these counts and lines
abbrev pub summary_text : Imported → List ℕ
summary_text it = counts_text it ++ products_text it.trail

-- those of a part, whose lines are numbered as they stand in the whole; before them the part, and the number of all lines
abbrev pub part_summary_text : PartView → PartImport → List ℕ
part_summary_text part p =
    (codes "PART " ++ (decimal part.index ++ (codes "/" ++ (decimal part.count ++ (codes " OF " ++ (decimal p.lines ++ (codes "\n" ++ counts_with p.importer p.repeated)))))))
    ++ products_text p.importer.trail

-- the report of each product code
abbrev pub reports_text : List Entry → List ℕ
reports_text t = flat_map (report_text t) (codes_named t)

-- the same as rows
abbrev pub report_rows_text : List Entry → List ℕ
report_rows_text t = rows_text t (codes_named t)

-- the reply that shows the entries about a pack, and their lines
abbrev pub audit_text : List Entry → Pack → List ℕ
audit_text t p = let shown = filter (is_about p) t in reply_text (Shown (length shown)) shown

-- the head of a page: this heading, the period of the trail, and these counts
pub record IsHead (heading : List ℕ) (it : Imported) (text : List ℕ) : Type 0 where
  pub line : List ℕ
  pub period : IsLineOf (period_of it.trail) line
  pub whole : text ≡ heading ++ (line ++ counts_text it)

-- the page of all product codes, under this head, that a sink took
abbrev pub ShowsUnder : List ℕ → Imported → Taken → Taken → Type 0
ShowsUnder head it old new =
    (each : List _) × AreSingle alerts it.trail each × ((most : List _) × ArePremises flagged_alerts it.trail most
    × ((ds : List Dated) × AreTaken flagged_alerts it.trail ds
    × Delivers old new (page_text head it.trail (codes_named it.trail) each most ds)))

-- the page under a heading
abbrev pub Shows : List ℕ → Imported → Taken → Taken → Type 0
Shows heading it old new = (head : List ℕ) × IsHead heading it head × ShowsUnder head it old new

-- the number of entries, if a filter takes none of them
abbrev pub none_of : List Entry → Filter → Option ℕ
none_of t f = if list_any (takes f t) t then None else Some (length t)

abbrev pub untaken : List Entry → Request → Option ℕ
untaken t (request.List f form) = none_of t f
untaken t (request.Count f bs form) = none_of t f
untaken t (request.Story p form) = none_of t (story_of p)
untaken t _ = None

-- the answer to a request, which a sink took between these two states
abbrev pub Tells : Imported → Request → Taken → Taken → Type 0
Tells it request.Summary old new = Delivers old new (summary_text it)
Tells it (request.Report c) old new = Delivers old new (report_text it.trail c)
Tells it (request.Reports Csv) old new = Delivers old new (report_rows_text it.trail)
Tells it (request.Reports other) old new = Delivers old new (reports_text it.trail)
Tells it (request.Audit p) old new = Delivers old new (audit_text it.trail p)
Tells it (request.List f form) old new = (ds : List Dated) × AreTaken f it.trail ds × Delivers old new (list_text form ds)
Tells it (request.Count f bs form) old new = (ds : List _) × AreSingle f it.trail ds × Delivers old new (groups_text form bs.items ds)
Tells it (request.Page heading) old new = Shows (string_bytes heading) it old new
Tells it (request.Story p form) old new =
    (ds : List Dated) × AreTaken (story_of p) it.trail ds × Delivers old new (story_text form p (status_of it.trail p) ds)
Tells it (request.Packs c b form) old new = (ps : List (Standing it.trail)) × AreOfBatch c b it.trail ps × Delivers old new (packs_text form it.trail ps)

-- the answer to a request about a part
abbrev pub TellsPart : PartView → PartImport → Request → Taken → Taken → Type 0
TellsPart part p request.Summary old new = Delivers old new (part_summary_text part p)
TellsPart part p r old new = Tells p.importer r old new
